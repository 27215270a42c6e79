use Rattle.tb_sparcm.proofs.CellLaws.{Marking}
use Rattle.tb_sparcm.proofs.cell.mark.Given as goal

abbrev pub invariant-loop-number : goal.invariant-loop-number
invariant-loop-number l = Marking l.cells l.number l.words l.starts
