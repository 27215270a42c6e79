use Rattle.std.proofs.Common.{[]}
use Rattle.tb_sparcm.specs.calls.Cells.{cells_from}
use Rattle.tb_sparcm.proofs.CellLaws.{Decoding}
use Rattle.tb_sparcm.proofs.cell.decoded.Given as goal

abbrev pub invariant-loop-word : goal.invariant-loop-word
invariant-loop-word l = Decoding l.cells.items l.word-index l.words (cells_from [] 0 l.words)
