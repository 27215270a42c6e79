-- Words of code, decoded.
use Rattle.std.specs.Prelude.{ℕ, ◌+◌, List, [], ◌∷◌}
use Rattle.tb_sparc.specs.Grouped.{Grouped, group_at}
use Rattle.tb_sparc.specs.Word.{instr_of}
use Rattle.tb_sparcm.specs.declared.cell.Cell.{Cell}

-- words that follow one another from one on, where the groups start at these
abbrev pub cells_from : List ℕ → ℕ → List ℕ → List Cell
cells_from starts word [] = []
cells_from starts word (w ∷ ws) = record { instr = instr_of w; group = group_at starts word } ∷ cells_from starts (word + 1) ws

abbrev pub cells_of : Grouped → List Cell
cells_of g = cells_from g.starts 0 g.words
