-- Where a number goes in a list in ascending order.
use Rattle.std.specs.Prelude.{ℕ, suc, cond, nat_le, List, [], ◌∷◌}

-- how many stand before the first that is not less
abbrev pub place : ℕ → List ℕ → ℕ
place x [] = 0
place x (y ∷ ys) = cond (nat_le x y) 0 (suc (place x ys))
