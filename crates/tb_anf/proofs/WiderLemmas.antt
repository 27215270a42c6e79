-- Of lists that are no wider the largest number is no larger, nor is the sum of the squares.
use Rattle.std.proofs.Common.{◌≡◌, refl, ap, ◌∙◌, ℕ, ◌+◌, ◌*◌, ◌≤◌, inl, inr, ⊎_elim, arith, cond, ◌==◌, List, [], ◌∷◌, ◌++◌, eqb-true}
use Rattle.std.proofs.Math.Nat.{mul-le-mul}
use Rattle.std.proofs.lemmas.Bool.{cases_Bool}
use Rattle.tb_semantics.specs.Graph.{IsIn}
use Rattle.tb_core.specs.Width.{largest, squares}
use Rattle.tb_ir.specs.Rules.{times}
use Rattle.tb_anf.specs.Wider.{AreAtMost, AreNoWider}
use Rattle.tb_anf.proofs.InScope.{times-append, times-in}

in-times : (x : ℕ) (xs : List ℕ) → 1 ≤ times x xs → IsIn x xs
in-times x [] h = absurd (omega arith)
in-times x (y ∷ xs) h =
    ⊎_elim (λ t. inl (eqb-true y x t))
    (λ f. inr (in-times x xs (let e = ap (λ b. cond b 1 0 + times x xs) f in omega arith)))
    (cases_Bool (y == x))

at_largest : (x : ℕ) (xs : List ℕ) → IsIn x xs → x ≤ largest xs
at_largest x [] i = absurd i
at_largest x (y ∷ xs) (inl e) = omega arith
at_largest x (y ∷ xs) (inr i) = let h = at_largest x xs i in omega arith

below_largest : (n : ℕ) (xs : List ℕ) → ((x : ℕ) → IsIn x xs → x ≤ n) → largest xs ≤ n
below_largest n [] h = omega arith
below_largest n (x ∷ xs) h =
    let a = h x (inl refl) in let b = below_largest n xs (λ y i. h y (inr i)) in omega arith

at_most_largest : (xs ys : List ℕ) → AreAtMost xs ys → largest xs ≤ largest ys
at_most_largest [] [] h = omega arith
at_most_largest (x ∷ xs) (y ∷ ys) h = let a = h.0 in let b = at_most_largest xs ys h.1 in omega arith
at_most_largest [] (y ∷ ys) h = absurd h
at_most_largest (x ∷ xs) [] h = absurd h

pub largest-no-wider : (xs ys : List ℕ) → AreNoWider xs ys → largest xs ≤ largest ys
largest-no-wider xs ys h =
    let a = at_most_largest xs h.arranged h.at_most in
    let b = below_largest (largest ys) h.arranged
    (λ x i. at_largest x ys (in-times x ys (let k = times-in x h.arranged i in let e = h.same x in omega arith))) in
    omega arith

-- an element taken out of a list
record Split (x : ℕ) (ys : List ℕ) : Type 0 where
  before : List ℕ
  after : List ℕ
  whole : ys ≡ before ++ x ∷ after

split : (x : ℕ) (ys : List ℕ) → IsIn x ys → Split x ys
split x [] i = absurd i
split x (y ∷ ys) (inl e) = record { before = []; after = ys; whole = ap (λ z. z ∷ ys) e }
split x (y ∷ ys) (inr i) =
    let s = split x ys i in record { before = y ∷ s.before; after = s.after; whole = ap (λ z. y ∷ z) s.whole }

squares_append : (xs ys : List ℕ) → squares (xs ++ ys) ≡ squares xs + squares ys
squares_append [] ys = omega arith
squares_append (x ∷ xs) ys = let h = squares_append xs ys in omega arith

-- lists with the same numbers have the same squares
same_squares : (xs ys : List ℕ) → ((k : ℕ) → times k xs ≡ times k ys) → squares xs ≡ squares ys
same_squares [] [] h = refl
same_squares [] (y ∷ ys) h =
    let a = times-in y (y ∷ ys) (inl refl) in let e = h y in absurd (omega arith)
same_squares (x ∷ xs) ys h =
    let a = times-in x (x ∷ xs) (inl refl) in
    let e = h x in
    let s = split x ys (in-times x ys (omega arith)) in
    let rest = same_squares xs (s.before ++ s.after)
    (λ k. let q = h k in
    let w = ap (times k) s.whole ∙ times-append k s.before (x ∷ s.after) in
    let z = times-append k s.before s.after in omega arith) in
    let w = ap squares s.whole ∙ squares_append s.before (x ∷ s.after) in
    let z = squares_append s.before s.after in
    omega arith

at_most_squares : (xs ys : List ℕ) → AreAtMost xs ys → squares xs ≤ squares ys
at_most_squares [] [] h = omega arith
at_most_squares (x ∷ xs) (y ∷ ys) h =
    let a = h.0 in
    let m : x * x ≤ y * y = mul-le-mul a a in
    let b = at_most_squares xs ys h.1 in
    omega arith
at_most_squares [] (y ∷ ys) h = absurd h
at_most_squares (x ∷ xs) [] h = absurd h

pub squares-no-wider : (xs ys : List ℕ) → AreNoWider xs ys → squares xs ≤ squares ys
squares-no-wider xs ys h =
    let a = at_most_squares xs h.arranged h.at_most in
    let b = same_squares h.arranged ys h.same in
    omega arith
