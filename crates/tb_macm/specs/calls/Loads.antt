-- What the parts of loading do.
use Rattle.std.specs.Prelude.{ℕ, List, ◌++◌, replicate, slice_index}
use Rattle.tb_prim.specs.declared.constant.Static.{Static}
use Rattle.tb_mac.specs.declared.word.Word.{Word}
use Rattle.tb_mac.specs.Layout.{all_words}
use Rattle.tb_mac.specs.Objects.{padding}
use Rattle.tb_mac.specs.Words.{undefined}

-- a byte, or 0 behind the last
abbrev pub byte_at : List ℕ → ℕ → ℕ
byte_at bytes k = slice_index bytes k

-- the words of so many globals and of static objects
abbrev pub laid_out : ℕ → List Static → List ℕ → List Word
laid_out n statics addresses = (replicate n undefined ++ padding n) ++ all_words statics addresses statics
