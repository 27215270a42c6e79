use Rattle.std.proofs.Common.{◌≡◌, drop, map}
use Rattle.tb_expand.specs.Shapes.{binders_of}
use Rattle.tb_expand.specs.View.{data_of, view_binder}
use Rattle.tb_expand.proofs.Rows.{before_binders}
use Rattle.tb_expand.proofs.shapes.binders_of.Given as goal

abbrev pub invariant-loop-datum : goal.invariant-loop-datum
invariant-loop-datum l = before_binders (map view_binder l.binders.items) (binders_of (data_of (drop l.datum-index l.datums))) ≡ binders_of (data_of l.datums)
