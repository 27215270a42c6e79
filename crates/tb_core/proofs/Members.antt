-- Elements of lists that are joined, and tests of them.
use Rattle.std.proofs.Common.{◌≡◌, refl, sym, ap, ◌∙◌, subst, ℕ, ◌⊎◌, inl, inr, ⊎_elim, Bool, true, false, cond, not, ◌==◌, ◌||◌, List, [], ◌∷◌, ◌++◌, length, length-append, ◌≤◌, arith, eqb-true, eq-eqb}
use Rattle.std.proofs.lemmas.Bool.{or_cases}
use Rattle.tb_semantics.specs.Graph.{IsIn, IsApart}
use Rattle.tb_core.specs.FreeVariables.{is_in, without}

pub in-left : {X : Type 0} (x : X) (xs ys : List X) → IsIn x xs → IsIn x (xs ++ ys)
in-left x [] ys i = absurd i
in-left x (z ∷ xs) ys (inl e) = inl e
in-left x (z ∷ xs) ys (inr i) = inr (in-left x xs ys i)

pub in-right : {X : Type 0} (x : X) (xs ys : List X) → IsIn x ys → IsIn x (xs ++ ys)
in-right x [] ys i = i
in-right x (z ∷ xs) ys i = inr (in-right x xs ys i)

pub in-either : {X : Type 0} (x : X) (xs ys : List X) → IsIn x (xs ++ ys) → IsIn x xs ⊎ IsIn x ys
in-either x [] ys i = inr i
in-either x (z ∷ xs) ys (inl e) = inl (inl e)
in-either x (z ∷ xs) ys (inr i) = ⊎_elim (λ j. inl (inr j)) inr (in-either x xs ys i)

pub in-tested : (xs : List ℕ) (y : ℕ) → is_in xs y ≡ true → IsIn y xs
in-tested [] y e = cc
in-tested (x ∷ xs) y e = ⊎_elim (λ h. inl (eqb-true x y h)) (λ h. inr (in-tested xs y h)) (or_cases (x == y) (is_in xs y) e)

or_right : (a b : Bool) → b ≡ true → (a || b) ≡ true
or_right true b e = refl
or_right false b e = e

pub tested-in : (xs : List ℕ) (y : ℕ) → IsIn y xs → is_in xs y ≡ true
tested-in [] y i = absurd i
tested-in (x ∷ xs) y (inl e) = ap (λ b. b || is_in xs y) (eq-eqb x y e)
tested-in (x ∷ xs) y (inr i) = or_right (x == y) (is_in xs y) (tested-in xs y i)

pub in-without : (xs ys : List ℕ) (y : ℕ) → IsIn y ys → is_in xs y ≡ false → IsIn y (without xs ys)
in-without xs [] y i h = absurd i
in-without xs (z ∷ ys) y (inl e) h =
    let k : is_in xs z ≡ false = ap (is_in xs) e ∙ h in
    subst (λ b. IsIn y (cond (not b) (z ∷ without xs ys) (without xs ys))) (sym k) (inl e)
in-without xs (z ∷ ys) y (inr i) h =
    let j = in-without xs ys y i h in
    elim (is_in xs z) as (λ b. IsIn y (cond (not b) (z ∷ without xs ys) (without xs ys))) [ true ↦ j | false ↦ inr j ]

pub append-same : {X : Type 0} (xs ys vs ws : List X) → xs ≡ vs → ys ≡ ws → xs ++ ys ≡ vs ++ ws
append-same xs ys vs ws p q = ap (λ zs. zs ++ ys) p ∙ ap (λ zs. vs ++ zs) q

pub without-sub : (xs ys : List ℕ) (y : ℕ) → IsIn y (without xs ys) → IsIn y ys
without-sub xs [] y i = absurd i
without-sub xs (z ∷ ys) y i =
    (elim (is_in xs z) as (λ b. IsIn y (cond (not b) (z ∷ without xs ys) (without xs ys)) → IsIn y (z ∷ ys)) [
      | true ↦ λ j. inr (without-sub xs ys y j)
      | false ↦ λ j. ⊎_elim inl (λ k. inr (without-sub xs ys y k)) j
    ])
    i

pub apart-append : (xs ys : List ℕ) → IsApart xs → IsApart ys → ((x : ℕ) → IsIn x xs → IsIn x ys → ⊥) → IsApart (xs ++ ys)
apart-append [] ys h k d = k
apart-append (x ∷ xs) ys h k d = (
  λ i. ⊎_elim h.0 (d x (inl refl)) (in-either x xs ys i),
  apart-append xs ys h.1 k (λ y i. d y (inr i)),
)

in_split : {X : Type 0} (x : X) (ys : List X) → IsIn x ys → (fs : List X) × (bs : List X) × (ys ≡ fs ++ x ∷ bs)
in_split x [] i = absurd i
in_split x (y ∷ ys) (inl e) = ([], ys, ap (λ z. z ∷ ys) e)
in_split x (y ∷ ys) (inr i) = let r = in_split x ys i in (y ∷ r.0, r.1, ap (λ zs. y ∷ zs) r.2)

-- elements that are apart are no more than the list that has them all
pub no-longer : (xs ys : List ℕ) → IsApart xs → ((x : ℕ) → IsIn x xs → IsIn x ys) → length xs ≤ length ys
no-longer [] ys h k = omega arith
no-longer (x ∷ xs) ys h k =
    let r = in_split x ys (k x (inl refl)) in
    let le = no-longer xs (r.0 ++ r.1) h.1 (λ y i. other y i (k y (inr i)) r.0 r.1 r.2) in
    let a = length-append r.0 r.1 in let b = length-append r.0 (x ∷ r.1) in
    let c : length ys ≡ length (r.0 ++ x ∷ r.1) = ap length r.2 in omega arith
  where
    other : (y : ℕ) → IsIn y xs → IsIn y ys → (fs bs : List ℕ) → ys ≡ fs ++ x ∷ bs → IsIn y (fs ++ bs)
    other y i j fs bs e =
        ⊎_elim (in-left y fs bs)
        (λ g. ⊎_elim (λ q. absurd (h.0 (subst (λ z. IsIn z xs) (sym q) i))) (in-right y fs bs) g)
        (in-either y fs (x ∷ bs) (subst (IsIn y) e j))
