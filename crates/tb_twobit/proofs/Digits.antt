-- The value of decimal digits, read from the left.
use Rattle.std.proofs.Common.{◌≡◌, ℕ, ◌+◌, ◌-◌, ◌*◌, ◌^◌, ◌<◌, ◌≤◌, List, [], ◌∷◌, length, drop, get_or, drop-cons, add-one, refl, arith}
use Rattle.std.specs.Prelude.{fold}

-- what some digits make of the number before them
abbrev pub value_from : ℕ → List ℕ → ℕ
value_from n ds = fold (λ k d. k * 10 + (d - 48)) n ds

pub value_from-grows : (n : ℕ) (ds : List ℕ) → n ≤ value_from n ds
value_from-grows n [] = omega arith
value_from-grows n (d ∷ ds) = let h = value_from-grows (n * 10 + (d - 48)) ds in omega arith

-- one more digit
pub value_from-drop : (n i : ℕ) (ds : List ℕ) → i < length ds →
    value_from n (drop i ds) ≡ value_from (n * 10 + (get_or ds i 0 - 48)) (drop (i + 1) ds)
value_from-drop n i ds h = rw (add-one, drop-cons ds i 0) refl

-- a number that is too large already stays so
pub value_from-too_large : (n i total : ℕ) (ds : List ℕ) → i < length ds → value_from n (drop i ds) ≡ total →
    (n * 10 + (get_or ds i 0 - 48) < 2 ^ 64 → ⊥) → total < 2 ^ 64 → ⊥
value_from-too_large n i total ds h e large small =
    let grows = value_from-grows (n * 10 + (get_or ds i 0 - 48)) (drop (i + 1) ds) in
    let same = value_from-drop n i ds h in
    large (omega arith)
