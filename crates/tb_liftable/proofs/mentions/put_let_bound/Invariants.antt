use Rattle.std.proofs.Common.{◌≡◌, ◌++◌, map, drop}
use Rattle.tb_core.specs.View.{view, trees}
use Rattle.tb_liftable.specs.Mentions.{let_bound}
use Rattle.tb_liftable.proofs.mentions.put_let_bound.Given as goal

abbrev pub invariant-loop-at : goal.invariant-loop-at
invariant-loop-at l =
    l.out.items ++ let_bound (drop l.at l.variables) (trees (map view (drop l.at l.values))) ≡ l.initial.out.items ++ let_bound l.variables (trees (map view l.values))
