-- What may stand before a token: whitespace and comments.
use Rattle.std.specs.Prelude.{◌≡◌, ◌≢◌, ℕ, ◌==◌, not, true, false, List, [], ◌∷◌, ◌++◌}
use Rattle.std.specs.List.{list_all}
use Rattle.tb_sexp.specs.Bytes.{is_whitespace}

-- bytes of one line: no newline (10) is among them
abbrev pub IsLine : List ℕ → Type 0
IsLine bs = list_all (λ b. not (b == 10)) bs ≡ true

-- whitespace and whole comments, each from `;` (59) to its newline
pub data Blank : List ℕ → Type 0 where
  nothing : Blank []
  whitespace : {b : ℕ} {bs : List ℕ} → is_whitespace b ≡ true → Blank bs → Blank (b ∷ bs)
  comment : (line : List ℕ) {bs : List ℕ} → IsLine line → Blank bs → Blank (59 ∷ (line ++ 10 ∷ bs))

-- what may stand to the end of a text: the last comment needs no newline
pub data BlankEnd : List ℕ → Type 0 where
  closed : {bs : List ℕ} → Blank bs → BlankEnd bs
  open_comment : (line : List ℕ) {bs : List ℕ} → Blank bs → IsLine line → BlankEnd (bs ++ 59 ∷ line)

-- a byte that begins neither whitespace nor a comment
abbrev pub IsNoBlank : ℕ → Type 0
IsNoBlank b = (is_whitespace b ≡ false) × (b ≢ 59)

-- a list with such a byte in front
abbrev pub BeginsNoBlank : List ℕ → Type 0
BeginsNoBlank [] = ⊥
BeginsNoBlank (b ∷ bs) = IsNoBlank b
