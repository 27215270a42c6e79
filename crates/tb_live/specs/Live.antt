-- The variables that are free from each block of a body on.
use Rattle.std.specs.Prelude.{ℕ, List, [], length, map, Option, Some, None, slice_get}
use Rattle.tb_core.specs.FirstUses.{first_of}
use Rattle.tb_core.specs.Width.{largest}
use Rattle.tb_ir.specs.AnfTree.{Block, ProcTree, AnfTree}
use Rattle.tb_ir.specs.AnfMachine.{free_block}
use Rattle.tb_ir.specs.AnfRules.{blocks, captured_in}

-- the variables that are free from a block on, with what its lambda expressions capture, each once, in the order
-- of their first use
abbrev pub live_row : (ℕ → List ℕ) → Block → List ℕ
live_row captured b = first_of [] (free_block captured b)

-- those of each block of a body, in written order
abbrev pub live_rows : (ℕ → List ℕ) → Block → List (List ℕ)
live_rows captured b = map (live_row captured) (blocks b)

-- those of the body of a proc
abbrev pub rows_of : (ℕ → List ℕ) → Option ProcTree → List (List ℕ)
rows_of captured None = []
rows_of captured (Some q) = live_rows captured q.body

-- those of the proc of a number
abbrev pub rows_at : AnfTree → ℕ → List (List ℕ)
rows_at p n = rows_of (captured_in p) (slice_get p.procs n)

-- the length of the longest row, 0 of none
abbrev pub pressure_of : List (List ℕ) → ℕ
pressure_of rows = largest (map length rows)
