-- How often a number stands in a list.
use Rattle.std.proofs.Common.{◌≡◌, refl, sym, ap, subst, ℕ, zero, suc, ◌<◌, ◌≤◌, ◌⊎◌, inl, inr, ⊎_elim, arith, Bool, cond, ◌==◌, List, [], ◌∷◌, eqb-true, eq-eqb}
use Rattle.std.proofs.lemmas.Bool.{cases_Bool}
use Rattle.tb_semantics.specs.Graph.{IsIn, IsApart}
use Rattle.tb_ir.specs.Rules.{times}

abbrev pub one_if : Bool → ℕ
one_if b = cond b 1 0

same_one : (x y : ℕ) → x ≡ y → one_if (y == x) ≡ 1
same_one x y e = ap one_if (eq-eqb y x (sym e))

pub in-times : (x : ℕ) (xs : List ℕ) → IsIn x xs → 1 ≤ times x xs
in-times x [] i = absurd i
in-times x (y ∷ xs) (inl e) = let h = same_one x y (sym e) in omega arith
in-times x (y ∷ xs) (inr i) = let h = in-times x xs i in omega arith

pub times-in : (x : ℕ) (xs : List ℕ) → 1 ≤ times x xs → IsIn x xs
times-in x [] h = absurd (omega arith)
times-in x (y ∷ xs) h =
    ⊎_elim (λ t. inl (eqb-true y x t))
    (λ f. let z : one_if (y == x) ≡ 0 = ap one_if f in inr (times-in x xs (omega arith)))
    (cases_Bool (y == x))

pub apart-times : (x : ℕ) (xs : List ℕ) → IsApart xs → times x xs ≤ 1
apart-times x [] h = omega arith
apart-times x (y ∷ xs) h =
    ⊎_elim
    (λ t. let none : times x xs < 1 = ⊎_elim (λ l. l)
    (λ m. absurd (h.0 (subst (λ z. IsIn z xs) (sym (eqb-true y x t)) (times-in x xs m)))) (few (times x xs)) in
    let one : one_if (y == x) ≡ 1 = ap one_if t in omega arith)
    (λ f. let z : one_if (y == x) ≡ 0 = ap one_if f in let r = apart-times x xs h.1 in omega arith)
    (cases_Bool (y == x))
  where
    few : (n : ℕ) → (n < 1) ⊎ (1 ≤ n)
    few zero = inl (omega arith)
    few (suc n) = inr (omega arith)

pub times-apart : (xs : List ℕ) → ((x : ℕ) → times x xs ≤ 1) → IsApart xs
times-apart [] h = tt
times-apart (y ∷ xs) h = (
  λ i. let m = in-times y xs i in let o = same_one y y refl in let all = h y in absurd (omega arith),
  times-apart xs (λ x. let all = h x in omega arith),
)
