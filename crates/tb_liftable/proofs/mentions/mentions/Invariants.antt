use Rattle.std.proofs.Common.{◌≡◌, ◌++◌, map, drop}
use Rattle.tb_core.specs.View.{view_lambda}
use Rattle.tb_liftable.specs.Mentions.{mentions_of_lambdas}
use Rattle.tb_liftable.proofs.mentions.mentions.Given as goal

abbrev pub invariant-loop-lambda : goal.invariant-loop-lambda
invariant-loop-lambda l =
    l.out.items ++ mentions_of_lambdas (map view_lambda (drop l.lambda-index l.lambda-items)) ≡ l.initial.out.items ++ mentions_of_lambdas (map view_lambda l.lambda-items)
