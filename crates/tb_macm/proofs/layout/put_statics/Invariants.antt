use Rattle.std.proofs.Common.{◌+◌}
use Rattle.tb_mac.specs.Layout.{statics_size, all_words}
use Rattle.tb_mac.specs.MacStep.{put_words}
use Rattle.tb_macm.proofs.Layouts.{Placing, Summing}
use Rattle.tb_macm.proofs.layout.put_statics.Given as goal

abbrev pub invariant-loop-object : goal.invariant-loop-object
invariant-loop-object l = record {
  words : Placing l.next l.object-index l.statics l.addresses l.memory (put_words l.at (all_words l.statics l.addresses l.statics) l.fn.memory);
  sum : Summing l.next l.object-index (l.at + statics_size l.statics) l.statics;
}
