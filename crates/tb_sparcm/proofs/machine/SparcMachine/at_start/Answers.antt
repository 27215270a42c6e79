use Rattle.std.proofs.Common.{◌∙◌, ap, sym, List, slice_get}
use Rattle.std.specs.Prelude.{is_some}
use Rattle.tb_sparc.specs.Grouped.{group_at}
use Rattle.tb_sparcm.specs.Loaded.{Loaded}
use Rattle.tb_sparcm.specs.declared.cell.Cell.{Cell}
use Rattle.tb_sparc.specs.GroupedOf.{grouped_of}
use Rattle.tb_sparcm.proofs.FetchLaws.{no_start, tells_start}
use Rattle.tb_sparcm.proofs.machine.SparcMachine.at_start.Goals as goal

pub returns-in-Some : goal.returns-in-Some
returns-in-Some c =
    let s = c.self.inside in
    let here = sym c.in-Some.is ∙ c.cell_at.ensures ∙ ap (λ (cs : List Cell). slice_get cs s.state.pc) c.as_slice.ensures.value in
    c.is_some.ensures ∙ tells_start (grouped_of s.sparc.now) s.cells.items s.state.pc c.in-Some.cell s.decoded here ∙ ap (λ (m : Loaded). is_some (group_at m.sparc.starts m.state.pc)) c.self.view_is

pub returns-in-None : goal.returns-in-None
returns-in-None c =
    let s = c.self.inside in
    let here = sym c.in-None.is ∙ c.cell_at.ensures ∙ ap (λ (cs : List Cell). slice_get cs s.state.pc) c.as_slice.ensures.value in
    no_start s.sparc.now s.cells.items s.state.pc s.decoded here ∙ ap (λ (m : Loaded). is_some (group_at m.sparc.starts m.state.pc)) c.self.view_is
