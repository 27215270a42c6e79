use Rattle.tb_mac.specs.Layout.{statics_size}
use Rattle.tb_macm.proofs.Layouts.{Summing}
use Rattle.tb_macm.proofs.layout.statics_size.Given as goal

abbrev pub invariant-loop-object : goal.invariant-loop-object
invariant-loop-object l = Summing l.sum l.object-index (statics_size l.statics) l.statics
