use Rattle.std.proofs.Common.{◌≡◌, drop, map}
use Rattle.tb_expand.specs.Splits.{first_deep_of}
use Rattle.tb_expand.specs.View.{nodes, view}
use Rattle.tb_expand.proofs.walks.+deep.Given as goal

abbrev pub invariant-first_deep_of-loop-part : goal.invariant-first_deep_of-loop-part
invariant-first_deep_of-loop-part l = first_deep_of l.levels (nodes (map view (drop l.part-index l.parts))) ≡ first_deep_of l.levels (nodes (map view l.parts))
