use Rattle.std.proofs.Common.{◌≡◌, ◌++◌, map, drop}
use Rattle.tb_core.specs.Plain as core
use Rattle.tb_core.specs.calls.Marks.{is_marked}
use Rattle.tb_ir.specs.Plain.{view_lambda}
use Rattle.tb_assign.specs.Eliminate as spec
use Rattle.tb_assign.proofs.elimination.eliminate_lambdas.Given as goal

abbrev pub invariant-loop-index : goal.invariant-loop-index
invariant-loop-index l =
    map view_lambda l.out.items ++ spec.eliminate_lambdas (is_marked l.assigned) l.index (map core.view_lambda (drop l.index l.lambdas)) ≡ spec.eliminate_lambdas (is_marked l.assigned) 0 (map core.view_lambda l.lambdas)
