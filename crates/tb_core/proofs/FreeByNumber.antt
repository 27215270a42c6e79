-- The free variables of a lambda expression by its number.
use Rattle.std.proofs.Common.{◌≡◌, refl, sym, ap, ◌∙◌, ℕ, zero, suc, ◌+◌, ◌-◌, ◌<◌, ◌≤◌, ◌⊎◌, inl, inr, arith, true, false, ◌==◌, List, [], ◌∷◌, length, map, drop, get_or, add-zero, add-one}
use Rattle.std.proofs.lemmas.Bool.{ne_eqb, eq-eqb}
use Rattle.tb_core.specs.declared.program.Lambda.{Lambda as LambdaCode}
use Rattle.tb_core.specs.Tree.{LambdaTree}
use Rattle.tb_core.specs.FreeVariables.{lambda_free, lambdas_free}
use Rattle.tb_core.specs.View.{view_lambda}

at_index : (ls : List LambdaCode) (first k : ℕ) (m : LambdaCode) → k < length ls → m ≡ get_or ls k m → lambdas_free (map view_lambda ls) first (first + k) ≡ lambda_free (lambdas_free (map view_lambda (drop (suc k) ls)) (suc (first + k))) (view_lambda m)
at_index [] first k m lt is = absurd (omega arith)
at_index (n ∷ ls) first zero m lt is =
    let same : (first == first + 0) ≡ true = eq-eqb first (first + 0) (omega arith) in
    rw (same, add-zero) (ap (λ v. lambda_free (lambdas_free (map view_lambda ls) (suc first)) (view_lambda v)) (sym is))
at_index (n ∷ ls) first (suc k) m lt is =
    let other : (first == first + suc k) ≡ false = ne_eqb first (first + suc k) (λ e. omega arith) in
    let next : first + suc k ≡ suc first + k = omega arith in
    rw (other, next) (at_index ls (suc first) k m (omega arith) is)

-- the free variables of the lambda expression of a number
pub free_at : (ls rest : List LambdaCode) (first n : ℕ) (m : LambdaCode) → first ≤ n → n - first < length ls → m ≡ get_or ls (n - first) m → rest ≡ drop (n - first + 1) ls → lambdas_free (map view_lambda ls) first n ≡ lambda_free (lambdas_free (map view_lambda rest) (n + 1)) (view_lambda m)
free_at ls rest first n m le lt is after =
    let up : first + (n - first) ≡ n = omega arith in
    let next : suc (first + (n - first)) ≡ n + 1 = omega arith in
    let rests : drop (suc (n - first)) ls ≡ rest = ap (λ k. drop k ls) (sym (add-one (n - first))) ∙ sym after in
    ap (λ k. lambdas_free (map view_lambda ls) first k) (sym up)
    ∙ at_index ls first (n - first) m lt is
    ∙ ap (λ k. lambda_free (lambdas_free (map view_lambda (drop (suc (n - first)) ls)) k) (view_lambda m)) next
    ∙ ap (λ r. lambda_free (lambdas_free (map view_lambda r) (n + 1)) (view_lambda m)) rests

-- a number past the list, or before it, has none
pub free_past : (ms : List LambdaTree) (first l : ℕ) → (l < first) ⊎ (first + length ms ≤ l) → lambdas_free ms first l ≡ []
free_past [] first l h = refl
free_past (n ∷ ms) first l h =
    let other : (first == l) ≡ false = ne_eqb first l (λ e. omega arith) in
    rw other (free_past ms (suc first) l (elim h [ inl a ↦ inl (omega arith) | inr b ↦ inr (omega arith) ]))
