use Rattle.std.proofs.Common.{map}
use Rattle.tb_mac.specs.Layout.{const_word}
use Rattle.tb_mac.specs.MacStep.{put_words}
use Rattle.tb_macm.proofs.Lists.{Putting}
use Rattle.tb_macm.proofs.layout.put_consts.Given as goal

abbrev pub invariant-loop-k : goal.invariant-loop-k
invariant-loop-k l =
    let words = map (const_word l.statics l.addresses) l.constants in
    Putting l.at l.k words l.memory (put_words l.at words l.fn.memory)
