use Rattle.std.proofs.Common.{◌∙◌, ap, ◌<◌, length, map, arith}
use Rattle.std.proofs.lemmas.Grind.{common_steps}
use Rattle.tb_core.specs.calls.Marks.{is_marked}
use Rattle.tb_ir.specs.Plain.{view}
use Rattle.tb_assign.specs.calls.Cells.{made}
use Rattle.tb_assign.proofs.CodeLists.{making, bound_cells}
use Rattle.tb_assign.proofs.elimination.with_cells.Goals as goal

pub returns : goal.returns
returns c =
    let xs = c.in_ok-variables.variables.items in
    let some : 0 < length xs = grind (arith, common_steps, c.if-is_empty.false, c.is_empty.ensures) in
    let whole = bound_cells (is_marked c.args.assigned.now) c.args.place c.args.site xs c.in_ok-cells.cells.items (view c.args.body) some (c.in_ok-cells.ensures ∙ ap (map (made c.args.place)) c.as_slice.ensures.value) in
    grind (making, whole)
