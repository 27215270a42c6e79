use Rattle.std.proofs.Common.{ℕ, List, ◌+◌, subst, sym}
use Rattle.tb_sparcm.proofs.CellLaws.{Writing, writing_step}
use Rattle.tb_sparcm.proofs.load.data_words.Goals as goal

pub loop-at-preserved : goal.loop-at-preserved
loop-at-preserved c =
    subst (λ (xs : List ℕ). Writing xs (c.loop-at.at + 1) c.args.starts.now c.args.machine.now.mac.memory) (sym c.in_ok-push.ensures.items)
    (writing_step c.loop-at.words.items c.loop-at.at c.args.starts.now c.args.machine.now.mac.memory c.word_at.result c.word_bits.result c.word_at.ensures c.word_bits.ensures c.loop-at.invariant)
