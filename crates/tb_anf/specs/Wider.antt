-- What it is that the numbers of a list are no greater than those of another, one for one.
use Rattle.std.specs.Prelude.{◌≡◌, ℕ, ◌≤◌, List, [], ◌∷◌}
use Rattle.tb_ir.specs.Rules.{times}

-- each number is at most the one at the same place of a list that is as long
abbrev pub AreAtMost : List ℕ → List ℕ → Type 0
AreAtMost [] [] = Unit {0}
AreAtMost (x ∷ xs) (y ∷ ys) = (x ≤ y) × AreAtMost xs ys
AreAtMost xs ys = ⊥

-- the numbers of the first list are, one for one, at most those of the second, which are arranged in some order
pub record AreNoWider (xs ys : List ℕ) : Type 0 where
  pub arranged : List ℕ
  pub same : (n : ℕ) → times n arranged ≡ times n ys
  pub at_most : AreAtMost xs arranged
