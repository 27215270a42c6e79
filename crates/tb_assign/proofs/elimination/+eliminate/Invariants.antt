use Rattle.std.proofs.Common.{◌≡◌, ◌+◌, ◌*◌, ◌++◌, map, drop}
use Rattle.tb_core.specs.calls.Marks.{is_marked}
use Rattle.tb_ir.specs.Plain.{view}
use Rattle.tb_assign.specs.calls.Cells.{eliminated}
use Rattle.tb_assign.proofs.elimination.+eliminate.Given as goal

abbrev pub decreases-eliminate_core : goal.decreases-eliminate_core
decreases-eliminate_core l = 4 * l.levels

abbrev pub decreases-eliminate_expr : goal.decreases-eliminate_expr
decreases-eliminate_expr l = 4 * l.levels + 1

abbrev pub decreases-eliminate_part : goal.decreases-eliminate_part
decreases-eliminate_part l = 4 * l.levels + 2

abbrev pub decreases-eliminate_all : goal.decreases-eliminate_all
decreases-eliminate_all l = 4 * l.levels + 3

abbrev pub invariant-eliminate_all-loop-expr : goal.invariant-eliminate_all-loop-expr
invariant-eliminate_all-loop-expr l =
    map view l.out.items ++ map (eliminated (is_marked l.assigned)) (drop l.expr-index l.exprs) ≡ map (eliminated (is_marked l.assigned)) l.exprs
