-- The lines of a lambda expression by its number.
use Rattle.std.proofs.Common.{◌≡◌, refl, sym, ap, ◌∙◌, ℕ, zero, suc, ◌+◌, ◌-◌, ◌<◌, ◌≤◌, ◌⊎◌, inl, inr, arith, Bool, true, false, ◌==◌, List, [], ◌∷◌, length, map, drop, ◌++◌, append_assoc, Result, Ok, Err, OnOk, get_or, add-zero, add-one}
use Rattle.std.proofs.Math.Path.{fun_ext}
use Rattle.std.proofs.lemmas.Bool.{ne_eqb, eq-eqb}
use Rattle.tb_core.specs.declared.program.Lambda.{Lambda as LambdaCode}
use Rattle.tb_core.specs.Tree.{LambdaTree, ProgramTree}
use Rattle.tb_core.specs.FreeVariables.{is_assigned}
use Rattle.tb_core.specs.calls.Marks.{is_marked}
use Rattle.tb_core.specs.OperandOrder.{Line, lines, lines_all, lambdas_lines, order_of}
use Rattle.tb_core.specs.View.{view, view_lambda}

at_index : (a : ℕ → Bool) (ls : List LambdaCode) (first k : ℕ) (m : LambdaCode) → k < length ls → m ≡ get_or ls k m → lambdas_lines a (map view_lambda ls) first (first + k) ≡ lines a (lambdas_lines a (map view_lambda (drop (suc k) ls)) (suc (first + k))) (view m.body)
at_index a [] first k m lt is = absurd (omega arith)
at_index a (n ∷ ls) first zero m lt is =
    let same : (first == first + 0) ≡ true = eq-eqb first (first + 0) (omega arith) in
    rw (same, add-zero) (ap (λ (v : LambdaCode). lines a (lambdas_lines a (map view_lambda ls) (suc first)) (view v.body)) (sym is))
at_index a (n ∷ ls) first (suc k) m lt is =
    let other : (first == first + suc k) ≡ false = ne_eqb first (first + suc k) (λ e. omega arith) in
    let next : first + suc k ≡ suc first + k = omega arith in
    rw (other, next) (at_index a ls (suc first) k m (omega arith) is)

-- the lines of the lambda expression of a number
pub lines_at : (a : ℕ → Bool) (ls rest : List LambdaCode) (first n : ℕ) (m : LambdaCode) → first ≤ n → n - first < length ls → m ≡ get_or ls (n - first) m → rest ≡ drop (n - first + 1) ls → lambdas_lines a (map view_lambda ls) first n ≡ lines a (lambdas_lines a (map view_lambda rest) (n + 1)) (view m.body)
lines_at a ls rest first n m le lt is after =
    let up : first + (n - first) ≡ n = omega arith in
    let next : suc (first + (n - first)) ≡ n + 1 = omega arith in
    let rests : drop (suc (n - first)) ls ≡ rest = ap (λ k. drop k ls) (sym (add-one (n - first))) ∙ sym after in
    ap (λ k. lambdas_lines a (map view_lambda ls) first k) (sym up)
    ∙ at_index a ls first (n - first) m lt is
    ∙ ap (λ k. lines a (lambdas_lines a (map view_lambda (drop (suc (n - first)) ls)) k) (view m.body)) next
    ∙ ap (λ r. lines a (lambdas_lines a (map view_lambda r) (n + 1)) (view m.body)) rests

-- a number past the list, or before it, has none
pub lines_past : (a : ℕ → Bool) (ms : List LambdaTree) (first l : ℕ) → (l < first) ⊎ (first + length ms ≤ l) → lambdas_lines a ms first l ≡ []
lines_past a [] first l h = refl
lines_past a (n ∷ ms) first l h =
    let other : (first == l) ≡ false = ne_eqb first l (λ e. omega arith) in
    rw other (lines_past a ms (suc first) l (elim h [ inl v ↦ inl (omega arith) | inr b ↦ inr (omega arith) ]))

-- the order by a table of the variables that are assigned
pub order_by_table : (p : ProgramTree) (table : List Bool) → ((x : ℕ) → is_marked table x ≡ is_assigned p x) → lines_all (is_marked table) (lambdas_lines (is_marked table) p.lambdas 0) p.forms ≡ order_of p
order_by_table p table h = ap (λ (f : ℕ → Bool). lines_all f (lambdas_lines f p.lambdas 0) p.forms) (fun_ext h)

-- what was put by two calls, one after the other
pub put_both : {T E : Type 0} (r : Result T E) (n m o x y z : List Line) → OnOk r (n ≡ m ++ y) → m ≡ o ++ x → z ≡ x ++ y → OnOk r (n ≡ o ++ z)
put_both (Ok u) n m o x y z h p q = h ∙ ap (λ v. v ++ y) p ∙ append_assoc o x y ∙ ap (λ v. o ++ v) (sym q)
put_both (Err e) n m o x y z h p q = tt
