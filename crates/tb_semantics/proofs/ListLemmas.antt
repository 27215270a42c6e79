-- Elements of lists that grow at their ends or are written, and membership.
use Rattle.std.proofs.Common.{◌≡◌, ◌<◌, ◌⊎◌, ℕ, zero, suc, List, [], ◌∷◌, ◌++◌, Some, length, slice_get, slice_set, refl, ap, inl, inr, ⊎_elim, arith}
use Rattle.tb_semantics.specs.Graph.{IsIn}

-- an element stays where it is when others come behind it
pub get-left : {X : Type 0} (xs ys : List X) (i : ℕ) (x : X) → slice_get xs i ≡ Some x →
    slice_get (xs ++ ys) i ≡ Some x
get-left [] ys i x e = cc
get-left (y ∷ xs) ys zero x e = e
get-left (y ∷ xs) ys (suc i) x e = get-left xs ys i x e

-- the element that came last
pub get-last : {X : Type 0} (xs : List X) (y : X) → slice_get (xs ++ y ∷ []) (length xs) ≡ Some y
get-last [] y = refl
get-last (x ∷ xs) y = get-last xs y

pub length-last : {X : Type 0} (xs : List X) (y : X) → length (xs ++ y ∷ []) ≡ suc (length xs)
length-last [] y = omega arith
length-last (x ∷ xs) y = let h = length-last xs y in omega arith

-- an index has an element exactly below the length
pub get-some : {X : Type 0} (xs : List X) (i : ℕ) → i < length xs → (x : X) × (slice_get xs i ≡ Some x)
get-some [] i lt = absurd (omega arith)
get-some (x ∷ xs) zero lt = (x, refl)
get-some (x ∷ xs) (suc i) lt = get-some xs i (omega arith)

-- what a write leaves at its index, and at the others
pub set-same : {X : Type 0} (xs : List X) (i : ℕ) (x y : X) → slice_get xs i ≡ Some x →
    slice_get (slice_set xs i y) i ≡ Some y
set-same [] i x y e = cc
set-same (z ∷ xs) zero x y e = refl
set-same (z ∷ xs) (suc i) x y e = set-same xs i x y e

pub set-other : {X : Type 0} (xs : List X) (i j : ℕ) (y : X) → (i ≡ j → ⊥) →
    slice_get (slice_set xs i y) j ≡ slice_get xs j
set-other [] i j y ne = refl
set-other (z ∷ xs) zero zero y ne = absurd (ne refl)
set-other (z ∷ xs) zero (suc j) y ne = refl
set-other (z ∷ xs) (suc i) zero y ne = refl
set-other (z ∷ xs) (suc i) (suc j) y ne = set-other xs i j y (λ e. ne (ap suc e))

-- membership in two lists, one behind the other
pub in-left : {X : Type 0} (xs ys : List X) (x : X) → IsIn x xs → IsIn x (xs ++ ys)
in-left [] ys x i = absurd i
in-left (y ∷ xs) ys x (inl e) = inl e
in-left (y ∷ xs) ys x (inr i) = inr (in-left xs ys x i)

pub in-right : {X : Type 0} (xs ys : List X) (x : X) → IsIn x ys → IsIn x (xs ++ ys)
in-right [] ys x i = i
in-right (y ∷ xs) ys x i = inr (in-right xs ys x i)

pub in-cases : {X : Type 0} (xs ys : List X) (x : X) → IsIn x (xs ++ ys) → IsIn x xs ⊎ IsIn x ys
in-cases [] ys x i = inr i
in-cases (y ∷ xs) ys x (inl e) = inl (inl e)
in-cases (y ∷ xs) ys x (inr i) = ⊎_elim (λ h. inl (inr h)) inr (in-cases xs ys x i)
