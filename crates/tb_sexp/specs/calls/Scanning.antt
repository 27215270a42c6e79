-- How far blanks and words go, and whether places have room.
use Rattle.std.specs.Prelude.{ℕ, suc, ◌+◌, ◌<◌, ◌^◌, ◌==◌, not, Bool, false, cond, List, [], ◌∷◌}
use Rattle.tb_prim.specs.declared.place.Place.{Place}
use Rattle.tb_sexp.specs.Bytes.{is_whitespace, is_delimiter}

-- how many bytes stand before the first delimiter
abbrev pub run_length : List ℕ → ℕ
run_length [] = 0
run_length (b ∷ bs) = cond (is_delimiter b) 0 (suc (run_length bs))

-- how many bytes of whitespace and comments stand in front; a comment goes from `;` (59) to the end of the line
abbrev pub blanks_in : Bool → List ℕ → ℕ
blanks_in in_comment [] = 0
blanks_in in_comment (b ∷ bs) =
    cond in_comment (suc (blanks_in (not (b == 10)) bs))
    (cond (b == 59) (suc (blanks_in (not (b == 10)) bs)) (cond (is_whitespace b) (suc (blanks_in false bs)) 0))

abbrev pub blanks : List ℕ → ℕ
blanks bs = blanks_in false bs

-- places behind so many bytes more have numbers of 32 bits
pub record HasRoom (p : Place) (n : ℕ) : Type 0 where
  pub lines : p.line + n < 2 ^ 32
  pub columns : p.column + n + 1 < 2 ^ 32
