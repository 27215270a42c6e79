use Rattle.std.proofs.Common.{◌≡◌, ◌++◌, map, drop}
use Rattle.tb_core.specs.View.{view_lambda}
use Rattle.tb_liftable.specs.Procedures.{known_from}
use Rattle.tb_liftable.proofs.procedures.candidates.Given as goal

abbrev pub invariant-loop-at : goal.invariant-loop-at
invariant-loop-at l = l.out.items ++ known_from l.mentions (map view_lambda (drop l.at l.lambdas)) l.at ≡ known_from l.mentions (map view_lambda l.lambdas) 0
