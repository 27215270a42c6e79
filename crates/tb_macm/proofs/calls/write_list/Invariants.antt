use Rattle.tb_mac.specs.MacStep.{put_words, list_words}
use Rattle.tb_macm.proofs.Lists.{Listing}
use Rattle.tb_macm.proofs.calls.write_list.Given as goal

abbrev pub invariant-loop-k : goal.invariant-loop-k
invariant-loop-k l = Listing l.at l.k l.words l.memory (put_words l.at (list_words l.at l.words) l.fn.memory)
