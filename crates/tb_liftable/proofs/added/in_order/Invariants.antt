use Rattle.std.proofs.Common.{◌≡◌, drop}
use Rattle.tb_liftable.specs.Added.{ascending}
use Rattle.tb_liftable.proofs.added.in_order.Given as goal

abbrev pub invariant-loop-at : goal.invariant-loop-at
invariant-loop-at l = l.out.items ≡ ascending (drop l.at l.variables)
