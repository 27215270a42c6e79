use Rattle.std.proofs.Common.{◌≡◌, ◌-◌}
use Rattle.tb_liftable.specs.Liftable.{rounds}
use Rattle.tb_liftable.specs.calls.Given.{given}
use Rattle.tb_liftable.proofs.sets.settled.Given as goal

abbrev pub invariant-loop-at : goal.invariant-loop-at
invariant-loop-at l = rounds (given l.source) (l.count - l.at) l.set.items ≡ rounds (given l.source) l.count l.initial.set.items
