use Rattle.std.proofs.Common.{◌≡◌, ◌++◌, drop}
use Rattle.tb_core.specs.calls.Marks.{is_marked}
use Rattle.tb_assign.specs.Eliminate as spec
use Rattle.tb_assign.proofs.elimination.celled.Given as goal

abbrev pub invariant-loop-variable : goal.invariant-loop-variable
invariant-loop-variable l =
    l.out.items ++ spec.celled (is_marked l.assigned) (drop l.variable-index l.variables) ≡ spec.celled (is_marked l.assigned) l.variables
