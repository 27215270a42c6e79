use Rattle.std.proofs.Common.{◌≡◌, map, take}
use Rattle.tb_expand.specs.View.{view_binder, pair_binder}
use Rattle.tb_expand.proofs.shapes.pair_binders.Given as goal

abbrev pub invariant-loop-pair : goal.invariant-loop-pair
invariant-loop-pair l = map view_binder l.binders.items ≡ map pair_binder (take l.pair-index l.pairs)
