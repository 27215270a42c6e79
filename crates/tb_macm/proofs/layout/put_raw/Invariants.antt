use Rattle.tb_mac.specs.MacStep.{put_words}
use Rattle.tb_mac.specs.Objects.{raw_words}
use Rattle.tb_macm.proofs.Layouts.{Packing}
use Rattle.tb_macm.proofs.layout.put_raw.Given as goal

abbrev pub invariant-loop-k : goal.invariant-loop-k
invariant-loop-k l = Packing l.at l.k l.bytes l.memory (put_words l.at (raw_words l.bytes) l.fn.memory)
