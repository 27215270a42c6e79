use Rattle.tb_mac.specs.MacStep.{put_words}
use Rattle.tb_macm.proofs.Lists.{Putting}
use Rattle.tb_macm.proofs.calls.put_words.Given as goal

abbrev pub invariant-loop-k : goal.invariant-loop-k
invariant-loop-k l = Putting l.at l.k l.words l.memory (put_words l.at l.words l.fn.memory)
