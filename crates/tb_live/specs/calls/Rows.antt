-- The rows of some blocks, the last of them first.
use Rattle.std.specs.Prelude.{ℕ, List, ◌++◌, map, reverse}
use Rattle.tb_ir.specs.AnfTree.{Block, Bind, CloseAll, Tail}
use Rattle.tb_ir.specs.AnfRules.{blocks, blocks_in}
use Rattle.tb_live.specs.Live.{live_row}

-- the blocks of a block without itself
abbrev pub later_blocks : Block → List Block
later_blocks (Bind x op b) = blocks_in op ++ blocks b
later_blocks (CloseAll xs ls b) = blocks b
later_blocks (Tail op) = blocks_in op

-- the rows of these blocks, the last of them first
abbrev pub back_rows : (ℕ → List ℕ) → List Block → List (List ℕ)
back_rows captured bs = reverse (map (live_row captured) bs)
