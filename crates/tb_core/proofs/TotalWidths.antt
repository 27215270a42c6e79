-- The widths among the measures of a program are those of its bodies and forms, and the totals of measures
-- without an offence are those of their widths.
use Rattle.std.proofs.Common.{◌≡◌, refl, sym, ap, ◌∙◌, ℕ, suc, ◌+◌, ◌*◌, max, Bool, true, false, cond, ◌==◌, List, [], ◌∷◌, ◌++◌, length, Option, None, Some, slice_get, Ok, Err, arith}
use Rattle.tb_core.specs.declared.limits.CoreRefusal.{CoreRefusal}
use Rattle.tb_core.specs.declared.limits.Totals.{Totals}
use Rattle.tb_core.specs.Tree.{Tree, Node, Form, Quote, Local, Global, Lambda, If, SetLocal, SetGlobal, DefGlobal, Let, Letrec, Seq, Call, PrimUse, Apply, Trees, none, more, LambdaTree, ProgramTree, parameters}
use Rattle.tb_core.specs.Width.{nodes, widths, widths_form, widths_all, widths_of_lambdas, lambdas_widths, form_widths, all_widths, largest, squares, width_of, square_sum}
use Rattle.tb_core.specs.Limits.{Measure, Operands, Depth, Width, measures, measures_form, measures_all, measures_of_lambdas, lambdas_measures, parameter_measures, first_measures, form_measures, forms_measures, program_measures, judged, judge, no_widths, judge_program}
use Rattle.tb_core.proofs.Judging.{judge_offence}

-- the widths among some measures
abbrev pub widths_in : List Measure → List ℕ
widths_in [] = []
widths_in (Operands p n ∷ ms) = widths_in ms
widths_in (Depth p n ∷ ms) = widths_in ms
widths_in (Width p n ∷ ms) = n ∷ widths_in ms

in_append : (ms ns : List Measure) → widths_in (ms ++ ns) ≡ widths_in ms ++ widths_in ns
in_append [] ns = refl
in_append (Operands p n ∷ ms) ns = in_append ms ns
in_append (Depth p n ∷ ms) ns = in_append ms ns
in_append (Width p n ∷ ms) ns = ap (λ w. n ∷ w) (in_append ms ns)

joined : (ms ns : List Measure) (v w : List ℕ) → widths_in ms ≡ v → widths_in ns ≡ w → widths_in (ms ++ ns) ≡ v ++ w
joined ms ns v w p q = in_append ms ns ∙ ap (λ x. x ++ widths_in ns) p ∙ ap (λ x. v ++ x) q

module _ (f : ℕ → ℕ → ℕ → List Measure) (g : ℕ → ℕ → List ℕ) (h : (l s d : ℕ) → widths_in (f l s d) ≡ g l s) where
  of_lambdas : (s d : ℕ) (ls : List ℕ) → widths_in (measures_of_lambdas f s d ls) ≡ widths_of_lambdas g s ls
  of_lambdas s d [] = refl
  of_lambdas s d (l ∷ ls) = joined (f l s d) _ _ _ (h l s d) (of_lambdas s d ls)

  mutual
    of_tree : (s d : ℕ) (e : Tree) → widths_in (measures f s d e) ≡ widths g s e
    of_tree s d (Node p n k) = of_form s d p k

    of_form : (s d : ℕ) (p : _) (k : Form) → widths_in (measures_form f s d p k) ≡ widths_form g s k
    of_form s d p (Quote c) = refl
    of_form s d p (Local x) = refl
    of_form s d p (Global v) = refl
    of_form s d p (Lambda l) = h l s d
    of_form s d p (If a b c) = joined (measures f s (d + 1) a) _ _ _ (of_tree s (d + 1) a) (joined (measures f s (d + 1) b) _ _ _ (of_tree s (d + 1) b) (of_tree s (d + 1) c))
    of_form s d p (SetLocal x e) = of_tree s (d + 1) e
    of_form s d p (SetGlobal x e) = of_tree s (d + 1) e
    of_form s d p (DefGlobal x e) = of_tree s (d + 1) e
    of_form s d p (Let xs es e) = joined (measures_all f s (d + 1) es) _ _ _ (of_trees s (d + 1) es) (of_tree (s + length xs) (d + 1) e)
    of_form s d p (Letrec xs ls e) = joined (measures_of_lambdas f (s + length xs) d ls) _ _ _ (of_lambdas (s + length xs) d ls) (of_tree (s + length xs) (d + 1) e)
    of_form s d p (Seq es) = of_trees s (d + 1) es
    of_form s d p (Call a es) = joined (measures f s (d + 1) a) _ _ _ (of_tree s (d + 1) a) (of_trees s (d + 1) es)
    of_form s d p (PrimUse q es) = of_trees s (d + 1) es
    of_form s d p (Apply a b) = joined (measures f s (d + 1) a) _ _ _ (of_tree s (d + 1) a) (of_tree s (d + 1) b)

    of_trees : (s d : ℕ) (es : Trees) → widths_in (measures_all f s d es) ≡ widths_all g s es
    of_trees s d none = refl
    of_trees s d (more e es) = joined (measures f s d e) _ _ _ (of_tree s d e) (of_trees s d es)

of_parameters : (l : Option LambdaTree) (ms : List Measure) → widths_in (parameter_measures l ++ ms) ≡ widths_in ms
of_parameters None ms = refl
of_parameters (Some l) ms = refl

of_first : (ls : List LambdaTree) (p : _) (k : Form) (ms : List Measure) → widths_in (first_measures ls p k ++ ms) ≡ widths_in ms
of_first ls p (Quote c) ms = refl
of_first ls p (Local x) ms = refl
of_first ls p (Global v) ms = refl
of_first ls p (Lambda l) ms = of_parameters (slice_get ls l) ms
of_first ls p (If a b c) ms = refl
of_first ls p (SetLocal x e) ms = refl
of_first ls p (SetGlobal x e) ms = refl
of_first ls p (DefGlobal x e) ms = refl
of_first ls p (Let xs es e) ms = refl
of_first ls p (Letrec xs ns e) ms = refl
of_first ls p (Seq es) ms = refl
of_first ls p (Call a es) ms = refl
of_first ls p (PrimUse q es) ms = refl
of_first ls p (Apply a b) ms = refl

either : (b : Bool) (ms ns : List Measure) (v w : List ℕ) → widths_in ms ≡ v → widths_in ns ≡ w → widths_in (cond b ms ns) ≡ cond b v w
either true ms ns v w p q = p
either false ms ns v w p q = q

of_lambda : (ms : List LambdaTree) (first l s d : ℕ) → widths_in (lambdas_measures ms first l s d) ≡ lambdas_widths ms first l s
of_lambda [] first l s d = refl
of_lambda (m ∷ ms) first l s d =
    either (first == l) _ _ _ _
    (ap (λ w. (s + length (parameters m) + nodes m.body) ∷ w) (of_tree (lambdas_measures ms (suc first)) (lambdas_widths ms (suc first)) (of_lambda ms (suc first)) (s + length (parameters m)) (d + 1) m.body))
    (of_lambda ms (suc first) l s d)

of_forms : (ls : List LambdaTree) (es : Trees) → widths_in (forms_measures ls es) ≡ form_widths (lambdas_widths ls 0) es
of_forms ls none = refl
of_forms ls (more (Node p n k) es) =
    in_append (form_measures ls (Node p n k)) (forms_measures ls es)
    ∙ ap (λ w. w ++ widths_in (forms_measures ls es)) (of_first ls p k (Width p (nodes (Node p n k)) ∷ measures (lambdas_measures ls 0) 0 1 (Node p n k)))
    ∙ ap (λ w. nodes (Node p n k) ∷ (w ++ widths_in (forms_measures ls es))) (of_tree (lambdas_measures ls 0) (lambdas_widths ls 0) (of_lambda ls 0) 0 1 (Node p n k))
    ∙ ap (λ w. nodes (Node p n k) ∷ (widths (lambdas_widths ls 0) 0 (Node p n k) ++ w)) (of_forms ls es)

-- the widths among the measures of a program
pub widths_of_program : (p : ProgramTree) → widths_in (program_measures p) ≡ all_widths p
widths_of_program p = of_forms p.lambdas p.forms

-- the totals after some widths
pub record Adds (t : Totals) (ws : List ℕ) (u : Totals) : Type 0 where
  pub widest : u.widest ≡ max t.widest (largest ws)
  pub squares_sum : u.squares ≡ t.squares + squares ws

pass : (b : Bool) (e : CoreRefusal) (t u : Totals) (ms : List Measure) → judge (cond b (Err e) (Ok t)) ms ≡ Ok u → judge (Ok t) ms ≡ Ok u
pass true e t u ms h =
    let never : Err e ≡ Ok u = sym (judge_offence e ms) ∙ h in
    cc
pass false e t u ms h = h

adds : (t u : Totals) (ms : List Measure) → judge (Ok t) ms ≡ Ok u → Adds t (widths_in ms) u
unfolding judge judged
adds t u [] h =
    let w : t.widest ≡ u.widest = cc in
    let q : t.squares ≡ u.squares = cc in
    record { widest = omega arith; squares_sum = omega arith }
adds t u (Operands p n ∷ ms) h = adds t u ms (pass _ _ t u ms h)
adds t u (Depth p n ∷ ms) h = adds t u ms (pass _ _ t u ms h)
adds t u (Width p n ∷ ms) h =
    let rest = adds (record { widest = max t.widest n; squares = t.squares + n * n }) u ms (pass _ _ _ u ms h) in
    let w : u.widest ≡ max (max t.widest n) (largest (widths_in ms)) = rest.widest in
    let q : u.squares ≡ t.squares + n * n + squares (widths_in ms) = rest.squares_sum in
    record { widest = omega arith; squares_sum = omega arith }

-- the totals of a program without an offence are its width and the sum of its squared widths
pub program_totals : (p : ProgramTree) (u : Totals) → judge_program p ≡ Ok u → (u.widest ≡ width_of p) × (u.squares ≡ square_sum p)
program_totals p u h =
    let a = adds no_widths u (program_measures p) h in
    let w : u.widest ≡ max 0 (largest (widths_in (program_measures p))) = a.widest in
    let q : u.squares ≡ 0 + squares (widths_in (program_measures p)) = a.squares_sum in
    let zero_max : max 0 (largest (widths_in (program_measures p))) ≡ largest (widths_in (program_measures p)) = omega arith in
    let zero_sum : 0 + squares (widths_in (program_measures p)) ≡ squares (widths_in (program_measures p)) = omega arith in
    (w ∙ zero_max ∙ ap largest (widths_of_program p), q ∙ zero_sum ∙ ap squares (widths_of_program p))
