use Rattle.std.proofs.Common.{ap, sym, ◌∙◌, None, Some}
use Rattle.tb_mac.specs.CodeOf.{code_of}
use Rattle.tb_sparc.specs.GroupedOf.{grouped_of}
use Rattle.tb_sparcm.specs.States.{sparc_of}
use Rattle.tb_sparcm.specs.Steps.{asks, byte_put}
use Rattle.tb_sparcm.proofs.FetchLaws.{fetched_step, instr_fetched, no_instr_fetched, no_word, nothing_fetched, stuck_step, tells, tells_fits}
use Rattle.tb_sparcm.proofs.state.State.step.Goals as goal

pub returns-in_default-clause-does : goal.returns-in_default-clause-does
returns-in_default-clause-does g c =
    let d = nothing_fetched (code_of c.args.code.now) (grouped_of c.args.sparc.now) (sparc_of c.args.self.now)
    (no_word (grouped_of c.args.sparc.now) c.args.cells.now c.args.self.now.pc c.requires.decoded (sym c.in_default.is ∙ c.cell_at.ensures)) in
    stuck_step (code_of c.args.code.now) (grouped_of c.args.sparc.now) (sparc_of c.args.self.now) _ _ _ _ c.stuck.result d c.stuck.ensures

pub returns-in_default-instr-clause-does : goal.returns-in_default-instr-clause-does
returns-in_default-instr-clause-does g c =
    let t = tells (grouped_of c.args.sparc.now) c.args.cells.now c.args.self.now.pc c.in-Some.cell c.requires.decoded (sym c.in-Some.is ∙ c.cell_at.ensures) in
    let d = no_instr_fetched (code_of c.args.code.now) (grouped_of c.args.sparc.now) (sparc_of c.args.self.now) c.in-Some.cell t c.in_default-instr.is in
    stuck_step (code_of c.args.code.now) (grouped_of c.args.sparc.now) (sparc_of c.args.self.now) _ _ _ _ c.stuck-in_default-instr.result d c.stuck-in_default-instr.ensures

pub start_group-requires : goal.start_group-requires
start_group-requires g c =
    let t = tells (grouped_of c.args.sparc.now) c.args.cells.now c.args.self.now.pc c.in-Some.cell c.requires.decoded (sym c.in-Some.is ∙ c.cell_at.ensures) in
    tells_fits (grouped_of c.args.sparc.now) c.args.self.now.pc c.in-Some.cell c.in-Some-instr.instr c.args.words.now c.requires.words (λ k. (c.type_inv.words k).fits) t c.in-Some-instr.is

pub perform-requires : goal.perform-requires
perform-requires g c =
    let t = tells (grouped_of c.args.sparc.now) c.args.cells.now c.args.self.now.pc c.in-Some.cell c.requires.decoded (sym c.in-Some.is ∙ c.cell_at.ensures) in
    tells_fits (grouped_of c.args.sparc.now) c.args.self.now.pc c.in-Some.cell c.in-Some-instr.instr c.args.words.now c.requires.words (λ k. (c.type_inv.words k).fits) t c.in-Some-instr.is

pub returns-in-Some-group-clause-does : goal.returns-in-Some-group-clause-does
returns-in-Some-group-clause-does g c =
    fetched_step (code_of c.args.code.now) (grouped_of c.args.sparc.now) (sparc_of c.args.self.now) (sparc_of c.start_group.new.self) c.in-Some.cell c.in-Some-instr.instr (Some c.in-Some-group.number) _ _ _ _ _ _ c.start_group.result
    (tells (grouped_of c.args.sparc.now) c.args.cells.now c.args.self.now.pc c.in-Some.cell c.requires.decoded (sym c.in-Some.is ∙ c.cell_at.ensures)) c.in-Some-instr.is c.in-Some-group.is c.start_group.ensures.does

pub returns-in-Some-group-clause-unread : goal.returns-in-Some-group-clause-unread
returns-in-Some-group-clause-unread g c = λ h.
    let t = tells (grouped_of c.args.sparc.now) c.args.cells.now c.args.self.now.pc c.in-Some.cell c.requires.decoded (sym c.in-Some.is ∙ c.cell_at.ensures) in
    let e = instr_fetched (code_of c.args.code.now) (grouped_of c.args.sparc.now) (sparc_of c.args.self.now) c.in-Some.cell c.in-Some-instr.instr (Some c.in-Some-group.number) t c.in-Some-instr.is c.in-Some-group.is in
    c.start_group.ensures.unread (sym (ap (asks (sparc_of c.args.self.now)) e) ∙ h)

pub returns-in-Some-group-clause-unwritten : goal.returns-in-Some-group-clause-unwritten
returns-in-Some-group-clause-unwritten g c = λ h.
    let t = tells (grouped_of c.args.sparc.now) c.args.cells.now c.args.self.now.pc c.in-Some.cell c.requires.decoded (sym c.in-Some.is ∙ c.cell_at.ensures) in
    let e = instr_fetched (code_of c.args.code.now) (grouped_of c.args.sparc.now) (sparc_of c.args.self.now) c.in-Some.cell c.in-Some-instr.instr (Some c.in-Some-group.number) t c.in-Some-instr.is c.in-Some-group.is in
    c.start_group.ensures.unwritten (sym (ap byte_put e) ∙ h)

pub returns-in-None-clause-does : goal.returns-in-None-clause-does
returns-in-None-clause-does g c =
    fetched_step (code_of c.args.code.now) (grouped_of c.args.sparc.now) (sparc_of c.args.self.now) (sparc_of c.perform.new.self) c.in-Some.cell c.in-Some-instr.instr None _ _ _ _ _ _ c.perform.result
    (tells (grouped_of c.args.sparc.now) c.args.cells.now c.args.self.now.pc c.in-Some.cell c.requires.decoded (sym c.in-Some.is ∙ c.cell_at.ensures)) c.in-Some-instr.is c.in-None.is c.perform.ensures.does

pub returns-in-None-clause-unread : goal.returns-in-None-clause-unread
returns-in-None-clause-unread g c = λ h.
    let t = tells (grouped_of c.args.sparc.now) c.args.cells.now c.args.self.now.pc c.in-Some.cell c.requires.decoded (sym c.in-Some.is ∙ c.cell_at.ensures) in
    let e = instr_fetched (code_of c.args.code.now) (grouped_of c.args.sparc.now) (sparc_of c.args.self.now) c.in-Some.cell c.in-Some-instr.instr None t c.in-Some-instr.is c.in-None.is in
    c.perform.ensures.unread (sym (ap (asks (sparc_of c.args.self.now)) e) ∙ h)

pub returns-in-None-clause-unwritten : goal.returns-in-None-clause-unwritten
returns-in-None-clause-unwritten g c = λ h.
    let t = tells (grouped_of c.args.sparc.now) c.args.cells.now c.args.self.now.pc c.in-Some.cell c.requires.decoded (sym c.in-Some.is ∙ c.cell_at.ensures) in
    let e = instr_fetched (code_of c.args.code.now) (grouped_of c.args.sparc.now) (sparc_of c.args.self.now) c.in-Some.cell c.in-Some-instr.instr None t c.in-Some-instr.is c.in-None.is in
    c.perform.ensures.unwritten (sym (ap byte_put e) ∙ h)
