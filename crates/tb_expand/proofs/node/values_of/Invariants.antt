use Rattle.std.proofs.Common.{◌≡◌, map, take}
use Rattle.tb_expand.specs.View.{view_defined, pair_value}
use Rattle.tb_expand.specs.Shapes.{Value}
use Rattle.tb_expand.specs.declared.shapes.Pair.{Pair as PairCode}
use Rattle.tb_expand.proofs.node.values_of.Given as goal

abbrev pub invariant-loop-pair : goal.invariant-loop-pair
invariant-loop-pair l = map view_defined l.values.items ≡ map (λ (b : PairCode). Value (pair_value b)) (take l.pair-index l.pairs)
