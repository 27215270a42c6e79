-- The value of digits, read from the left.
use Rattle.std.proofs.Common.{◌≡◌, ℕ, ◌+◌, ◌*◌, ◌<◌, ◌≤◌, List, [], ◌∷◌, length, drop, get_or, drop-cons, add-one, refl, arith}
use Rattle.tb_sexp.specs.Numbers.{digit_of, value_from}

grows-by-product : (base n : ℕ) → 2 ≤ base → n ≤ n * base
grows-by-product base n h = grind arith

pub value_from-grows : (base n : ℕ) (ds : List ℕ) → 2 ≤ base → n ≤ value_from base n ds
value_from-grows base n [] h = omega arith
value_from-grows base n (d ∷ ds) h = let more = value_from-grows base (n * base + digit_of d) ds h in let product = grows-by-product base n h in omega arith

-- one more digit
pub value_from-drop : (base n i : ℕ) (ds : List ℕ) → i < length ds → value_from base n (drop i ds) ≡ value_from base (n * base + digit_of (get_or ds i 0)) (drop (i + 1) ds)
value_from-drop base n i ds h = rw (add-one, drop-cons ds i 0) refl

-- a number that is too large already stays so
pub value_from-too_large : (base n i total limit : ℕ) (ds : List ℕ) → 2 ≤ base → i < length ds → value_from base n (drop i ds) ≡ total → (n * base + digit_of (get_or ds i 0) < limit → ⊥) → total < limit → ⊥
value_from-too_large base n i total limit ds b h e large small =
    let grows = value_from-grows base (n * base + digit_of (get_or ds i 0)) (drop (i + 1) ds) b in
    let same = value_from-drop base n i ds h in
    large (omega arith)
