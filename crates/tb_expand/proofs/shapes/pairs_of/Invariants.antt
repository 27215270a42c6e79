use Rattle.std.proofs.Common.{◌≡◌, drop}
use Rattle.tb_expand.specs.Shapes.{pairs_of}
use Rattle.tb_expand.specs.View.{data_of}
use Rattle.tb_expand.proofs.Rows.{before_pairs}
use Rattle.tb_expand.proofs.shapes.pairs_of.Given as goal

abbrev pub invariant-loop-datum : goal.invariant-loop-datum
invariant-loop-datum l = before_pairs l.pairs.items (pairs_of (data_of (drop l.datum-index l.datums))) ≡ pairs_of (data_of l.datums)
