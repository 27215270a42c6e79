use Rattle.tb_sparcm.proofs.CellLaws.{Writing}
use Rattle.tb_sparcm.proofs.load.data_words.Given as goal

abbrev pub invariant-loop-at : goal.invariant-loop-at
invariant-loop-at l = Writing l.words.items l.at l.starts l.machine.mac.memory
