-- States whose frames and procedures have at most so many slots and captured words.
use Rattle.std.specs.Prelude.{◌≡◌, ◌≤◌, ℕ, length}
use Rattle.tb_core.specs.Rules.{Every}
use Rattle.tb_mac.specs.declared.word.Word.{Word}
use Rattle.tb_mac.specs.declared.word.Word.TheVariants.{Header}
use Rattle.tb_mac.specs.Frames.{Frame, Framed}
use Rattle.tb_mac.specs.Objects.{procedure_kind}

-- a word is no header of a procedure with more captured words
abbrev pub IsSmall : ℕ → Word → Type 0
IsSmall bound (Header k n) = k ≡ procedure_kind → n ≤ bound
IsSmall bound _ = Unit {0}

pub record IsNarrow (bound : ℕ) (f : Frame) : Type 0 where
  pub back : IsSmall bound f.back
  pub slots : Every (IsSmall bound) f.slots
  pub few : length f.slots ≤ bound

-- no frame has more slots, and no word anywhere is the header of a procedure with more captured words
pub record IsWithin (bound : ℕ) (m : Framed) : Type 0 where
  pub registers : Every (IsSmall bound) m.registers
  pub heap : Every (IsSmall bound) m.heap
  pub gap : Every (IsSmall bound) m.gap
  pub frames : Every (IsNarrow bound) m.frames
