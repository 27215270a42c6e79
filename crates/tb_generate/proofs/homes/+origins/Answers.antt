use Rattle.std.proofs.Common.{◌≡◌, ◌∙◌, ◌==◌, sym, ap, cond, Some, None, nat_eq}
use Rattle.indexmap.specs.IndexMap.{get}
use Rattle.tb_ir.specs.AnfPlain.{view_atom, view_block, view_op}
use Rattle.tb_ir.specs.AnfRules.{blocks, blocks_in}
use Rattle.tb_ir.specs.AnfTree.{Bind, Branch, Block, Op}
use Rattle.tb_generate.specs.calls.Homes.{or_found, origin_found}
use Rattle.tb_generate.proofs.Homing.{bind-found, two-found}
use Rattle.tb_generate.proofs.Members.{on-ok}
use Rattle.tb_generate.proofs.Views.{viewing}
use Rattle.tb_generate.proofs.homes.+origins.Goals as goal

pub note_origins-returns-in_ok-note_origins_in-in-Bind : goal.note_origins-returns-in_ok-note_origins_in-in-Bind
note_origins-returns-in_ok-note_origins_in-in-Bind t c =
    let o = view_op c.in-Bind.op in
    let b = view_block c.get.result.now in
    let y = c.in-Bind.variable in
    let form : view_block c.args.block.now ≡ Bind y o b = grind (viewing, c.in-Bind.is, c.get.ensures) in
    on-ok _ _ c.note_origins.result
    (λ h x. bind-found y o b x _ _ _ _
    (c.in_ok-note_origin-in-Bind.ensures x ∙ ap (λ z. or_found (get nat_eq c.args.origins.now x) (cond (y == x) (Some z) None)) c.made_from.ensures)
    (c.in_ok-note_origins_in-in-Bind.ensures x) (h x)
    ∙ ap (λ (d : Block). or_found (get nat_eq c.args.origins.now x) (origin_found (blocks d) x)) (sym form))
    c.note_origins.ensures

pub note_origins_in-returns-in_ok-note_origins-in-Branch : goal.note_origins_in-returns-in_ok-note_origins-in-Branch
note_origins_in-returns-in_ok-note_origins-in-Branch t c =
    let b = view_block c.get.result.now in
    let d = view_block c.get-in-Branch.result.now in
    let form : view_op c.args.op.now ≡ Branch (view_atom c.in-Branch.field-0) b d = grind (viewing, c.in-Branch.is, c.get.ensures, c.get-in-Branch.ensures) in
    on-ok _ _ c.note_origins-in-Branch.result
    (λ h x. two-found (blocks b) (blocks d) x _ _ _ (c.in_ok-note_origins-in-Branch.ensures x) (h x)
    ∙ ap (λ (z : Op). or_found (get nat_eq c.args.origins.now x) (origin_found (blocks_in z) x)) (sym form))
    c.note_origins-in-Branch.ensures
