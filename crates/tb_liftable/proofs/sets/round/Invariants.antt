use Rattle.std.proofs.Common.{◌≡◌, ◌++◌, filter, drop}
use Rattle.tb_liftable.specs.Liftable.{fits}
use Rattle.tb_liftable.specs.calls.Given.{given}
use Rattle.tb_liftable.proofs.sets.round.Given as goal

abbrev pub invariant-loop-lambda : goal.invariant-loop-lambda
invariant-loop-lambda l = l.out.items ++ filter (fits (given l.source) l.set) (drop l.lambda-index l.set) ≡ filter (fits (given l.source) l.set) l.set
