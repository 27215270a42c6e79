-- Addresses that are noted one after the other, each once, where they are below a limit.
use Rattle.std.specs.Prelude.{ℕ, Bool, true, not, cond, ◌&&◌, nat_lt, List, [], ◌∷◌, ◌++◌}
use Rattle.tb_semantics.specs.Graph.{has}

-- the elements are all different
abbrev pub is_apart : List ℕ → Bool
is_apart [] = true
is_apart (x ∷ xs) = not (has xs x) && is_apart xs

abbrev pub noted : ℕ → List ℕ → ℕ → List ℕ
noted limit found a = cond (nat_lt a limit && not (has found a)) (found ++ a ∷ []) found

abbrev pub noted_all : ℕ → List ℕ → List ℕ → List ℕ
noted_all limit found [] = found
noted_all limit found (a ∷ more) = noted_all limit (noted limit found a) more
