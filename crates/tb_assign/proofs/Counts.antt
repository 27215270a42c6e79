-- How often a number stands in a list.
use Rattle.std.proofs.Common.{◌≡◌, refl, sym, ap, subst, ℕ, zero, suc, ◌+◌, ◌<◌, ◌≤◌, inl, inr, ⊎_elim, arith, ◌⊎◌, Bool, cond, ◌==◌, List, [], ◌∷◌, ◌++◌, eqb-true, eq-eqb}
use Rattle.std.proofs.lemmas.Bool.{cases_Bool, ne_eqb}
use Rattle.tb_semantics.specs.Graph.{IsIn, IsApart}
use Rattle.tb_ir.specs.Rules.{times}

abbrev pub one_if : Bool → ℕ
one_if b = cond b 1 0

pub times-append : (x : ℕ) (xs ys : List ℕ) → times x (xs ++ ys) ≡ times x xs + times x ys
times-append x [] ys = omega arith
times-append x (y ∷ xs) ys = let h = times-append x xs ys in omega arith

pub times-same : (x y : ℕ) → x ≡ y → one_if (y == x) ≡ 1
times-same x y e = ap one_if (eq-eqb y x (sym e))

pub times-other : (x y : ℕ) → (y ≡ x → ⊥) → one_if (y == x) ≡ 0
times-other x y n = ap one_if (ne_eqb y x n)

pub in-times : (x : ℕ) (xs : List ℕ) → IsIn x xs → 1 ≤ times x xs
in-times x [] i = absurd i
in-times x (y ∷ xs) (inl e) = let h = times-same x y (sym e) in omega arith
in-times x (y ∷ xs) (inr i) = let h = in-times x xs i in omega arith

pub times-in : (x : ℕ) (xs : List ℕ) → 1 ≤ times x xs → IsIn x xs
times-in x [] h = absurd (omega arith)
times-in x (y ∷ xs) h =
    ⊎_elim (λ t. inl (eqb-true y x t))
    (λ f. let z : one_if (y == x) ≡ 0 = ap one_if f in inr (times-in x xs (omega arith)))
    (cases_Bool (y == x))

pub apart-times : (x : ℕ) (xs : List ℕ) → IsApart xs → times x xs ≤ 1
apart-times x [] h = omega arith
apart-times x (y ∷ xs) h =
    ⊎_elim
    (λ t. let none : times x xs < 1 = ⊎_elim (λ l. l)
    (λ m. absurd (h.0 (subst (λ z. IsIn z xs) (sym (eqb-true y x t)) (times-in x xs m)))) (few (times x xs)) in
    let one : one_if (y == x) ≡ 1 = ap one_if t in omega arith)
    (λ f. let z : one_if (y == x) ≡ 0 = ap one_if f in let r = apart-times x xs h.1 in omega arith)
    (cases_Bool (y == x))
  where
    few : (n : ℕ) → (n < 1) ⊎ (1 ≤ n)
    few zero = inl (omega arith)
    few (suc n) = inr (omega arith)

pub times-apart : (xs : List ℕ) → ((x : ℕ) → times x xs ≤ 1) → IsApart xs
times-apart [] h = tt
times-apart (y ∷ xs) h = (
  λ i. let m = in-times y xs i in let o = times-same y y refl in let all = h y in absurd (omega arith),
  times-apart xs (λ x. let all = h x in omega arith),
)
