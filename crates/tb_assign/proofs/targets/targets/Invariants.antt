use Rattle.std.proofs.Common.{◌≡◌, ◌++◌, map, drop}
use Rattle.tb_core.specs.FreeVariables.{targets_of_lambdas}
use Rattle.tb_core.specs.View.{view_lambda}
use Rattle.tb_assign.proofs.targets.targets.Given as goal

abbrev pub invariant-loop-lambda : goal.invariant-loop-lambda
invariant-loop-lambda l =
    l.out.items ++ targets_of_lambdas (map view_lambda (drop l.lambda-index l.lambda-items)) ≡ l.initial.out.items ++ targets_of_lambdas (map view_lambda l.lambda-items)
