-- The first offence of measures that stand one after another, and the measures of a lambda expression by its
-- number.
use Rattle.std.proofs.Common.{◌≡◌, refl, sym, ap, ◌∙◌, subst, ℕ, zero, suc, ◌+◌, ◌*◌, ◌<◌, ◌≤◌, ◌⊎◌, inl, inr, arith, Bool, true, false, cond, ◌==◌, ◌||◌, List, [], ◌∷◌, ◌++◌, length, map, drop, Option, Some, None, get_or, add-zero, add-one, ◌-◌, Result, Ok, Err}
use Rattle.std.proofs.lemmas.Bool.{ne_eqb, eq-eqb}
use Rattle.std.proofs.lemmas.Grind.{common_steps}
use Rattle.tb_core.specs.declared.limits.CoreRefusal.{CoreRefusal}
use Rattle.tb_core.specs.declared.limits.Totals.{Totals}
use Rattle.tb_core.specs.declared.program.Lambda.{Lambda as LambdaCode}
use Rattle.tb_core.specs.Tree.{LambdaTree}
use Rattle.tb_core.specs.View.{view_lambda}
use Rattle.tb_core.proofs.Views.{viewed}
use Rattle.tb_core.specs.Limits.{Measure, judged, judged_after, judge, lambda_measures, lambdas_measures}

pub judge_none : (r : Result Totals CoreRefusal) → judge r [] ≡ r
unfolding judge
judge_none r = refl

pub judge_first : (t : Totals) (m : Measure) (ms : List Measure) → judge (Ok t) (m ∷ ms) ≡ judge (judged t m) ms
unfolding judge
judge_first t m ms = refl

pub judge_append : (r : Result Totals CoreRefusal) (ms ns : List Measure) → judge r (ms ++ ns) ≡ judge (judge r ms) ns
unfolding judge
judge_append r [] ns = refl
judge_append r (m ∷ ms) ns = judge_append (judged_after r m) ms ns

pub judge_offence : (e : CoreRefusal) (ms : List Measure) → judge (Err e) ms ≡ Err e
unfolding judge
judge_offence e [] = refl
judge_offence e (m ∷ ms) = judge_offence e ms

at_index : (ls : List LambdaCode) (first k : ℕ) (m : LambdaCode) (scope depth : ℕ) → k < length ls → m ≡ get_or ls k m → lambdas_measures (map view_lambda ls) first (first + k) scope depth ≡ lambda_measures (lambdas_measures (map view_lambda (drop (suc k) ls)) (suc (first + k))) (view_lambda m) scope depth
at_index [] first k m scope depth lt is = absurd (omega arith)
at_index (n ∷ ls) first zero m scope depth lt is =
    let same : (first == first + 0) ≡ true = eq-eqb first (first + 0) (omega arith) in
    rw (same, add-zero) (ap (λ v. lambda_measures (lambdas_measures (map view_lambda ls) (suc first)) (view_lambda v) scope depth) (sym is))
at_index (n ∷ ls) first (suc k) m scope depth lt is =
    let other : (first == first + suc k) ≡ false = ne_eqb first (first + suc k) (λ e. omega arith) in
    let next : first + suc k ≡ suc first + k = omega arith in
    rw (other, next) (at_index ls (suc first) k m scope depth (omega arith) is)

-- the measures of the lambda expression of a number
pub lambda_at : (ls rest : List LambdaCode) (first n : ℕ) (m : LambdaCode) (scope depth : ℕ) → first ≤ n → n - first < length ls → m ≡ get_or ls (n - first) m → rest ≡ drop (n - first + 1) ls → lambdas_measures (map view_lambda ls) first n scope depth ≡ lambda_measures (lambdas_measures (map view_lambda rest) (n + 1)) (view_lambda m) scope depth
lambda_at ls rest first n m scope depth le lt is after =
    let up : first + (n - first) ≡ n = omega arith in
    let next : suc (first + (n - first)) ≡ n + 1 = omega arith in
    let rests : drop (suc (n - first)) ls ≡ rest = ap (λ k. drop k ls) (sym (add-one (n - first))) ∙ sym after in
    ap (λ k. lambdas_measures (map view_lambda ls) first k scope depth) (sym up)
    ∙ at_index ls first (n - first) m scope depth lt is
    ∙ ap (λ k. lambda_measures (lambdas_measures (map view_lambda (drop (suc (n - first)) ls)) k) (view_lambda m) scope depth) next
    ∙ ap (λ r. lambda_measures (lambdas_measures (map view_lambda r) (n + 1)) (view_lambda m) scope depth) rests

-- a number past the list, or before it, has none
pub measures_past : (ms : List LambdaTree) (first l scope depth : ℕ) → (l < first) ⊎ (first + length ms ≤ l) → lambdas_measures ms first l scope depth ≡ []
measures_past [] first l scope depth h = refl
measures_past (n ∷ ms) first l scope depth h =
    let other : (first == l) ≡ false = ne_eqb first l (λ e. omega arith) in
    rw other (measures_past ms (suc first) l scope depth (elim h [ inl a ↦ inl (omega arith) | inr b ↦ inr (omega arith) ]))

pub ruleset judging = (common_steps, arith, viewed, judge_none, judge_first, judge_append, judge_offence)
