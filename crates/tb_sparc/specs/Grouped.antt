-- Code of the SPARC machine: its words, and the word at which the group of each MAC instruction starts.
use Rattle.std.specs.Prelude.{ℕ, ◌+◌, ◌<◌, ◌≤◌, ◌==◌, cond, List, [], ◌∷◌, length, All, AllPairs, Option, Some, None}
use Rattle.tb_mac.specs.Words.{on_some}

pub record Grouped : Type 0 where
  pub words : List ℕ
  pub starts : List ℕ

-- at most 805,306,367 words, so that the code ends below the data; each start is a word of the code, and greater than
-- the one before
pub record IsGrouped (words starts : List ℕ) : Type 0 where
  pub few : length words ≤ 805306367
  pub rising : AllPairs ◌<◌ starts
  pub below : All (λ start. start < length words) starts

-- the number of the instruction whose group starts at this word, where the first of the starts is that of number n
abbrev pub group_from : ℕ → List ℕ → ℕ → Option ℕ
group_from n [] word = None
group_from n (start ∷ starts) word = on_some (group_from (n + 1) starts word) (cond (start == word) (Some n) None) (λ later. Some later)

abbrev pub group_at : List ℕ → ℕ → Option ℕ
group_at starts word = group_from 0 starts word
