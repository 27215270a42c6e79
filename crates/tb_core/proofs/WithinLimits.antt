-- The measures of a program without an offence are within their limits: so are the operands of its calls, the parameters
-- of its lambda expressions, and its widths.
use Rattle.std.proofs.Common.{◌≡◌, refl, sym, ap, ◌∙◌, subst, ℕ, zero, suc, ◌+◌, ◌*◌, ◌<◌, ◌≤◌, max, ◌-◌, ⊎_elim, inl, inr, arith, Bool, true, false, cond, List, [], ◌∷◌, ◌++◌, length, drop, Some, slice_get, IsOk, Result, Ok, Err}
use Rattle.std.proofs.lemmas.Bool.{ltb-false, or_parts}
use Rattle.std.proofs.lemmas.Option.{same_Some}
use Rattle.tb_semantics.specs.Graph.{IsIn}
use Rattle.tb_core.specs.declared.limits.CoreRefusal.{CoreRefusal}
use Rattle.tb_core.specs.declared.limits.Totals.{Totals}
use Rattle.tb_core.specs.Tree.{Tree, Node, Form, Quote, Local, Global, Lambda, If, SetLocal, SetGlobal, DefGlobal, Let, Letrec, Seq, Call, PrimUse, Apply, Trees, none, more, LambdaTree, ProgramTree, parameters}
use Rattle.tb_core.specs.Width.{nodes, width_of, square_sum}
use Rattle.tb_core.specs.Limits.{Measure, Operands, Depth, Width, measures, measures_form, measures_all, measures_of_lambdas, lambda_measures, lambdas_measures, first_measures, form_measures, forms_measures, program_measures, judged, judge, no_widths, judge_program, IsSmall, FewOperands, FewParameters}
use Rattle.tb_core.specs.Rules.{Every, Each, EachForm, EachAll, KeepsRules, inner, inner_form, inner_all, standing}
use Rattle.tb_core.proofs.Judging.{judge_offence}
use Rattle.tb_core.proofs.Members.{in-either, in-tested}
use Rattle.tb_core.proofs.Numbers.{around, within, at-first, past-first, greater-at}
use Rattle.tb_core.proofs.TotalWidths.{program_totals}

-- a measure is within its limit
abbrev pub IsWithin : Measure → Type 0
IsWithin (Operands p n) = n ≤ 12
IsWithin (Depth p n) = n ≤ 1000
IsWithin (Width p n) = n ≤ 1000

-- an offence stays one
no_offence : (b : Bool) (e : CoreRefusal) (t u : Totals) (ms : List Measure) → judge (cond b (Err e) (Ok t)) ms ≡ Ok u →
    (b ≡ false) × (judge (Ok t) ms ≡ Ok u)
no_offence true e t u ms h = let never : Err e ≡ Ok u = sym (judge_offence e ms) ∙ h in cc
no_offence false e t u ms h = (refl, h)

pub all-within : (t u : Totals) (ms : List Measure) → judge (Ok t) ms ≡ Ok u → Every IsWithin ms
unfolding judge judged
all-within t u [] h = tt
all-within t u (Operands p n ∷ ms) h = let r = no_offence _ _ t u ms h in (ltb-false 12 n r.0, all-within t u ms r.1)
all-within t u (Depth p n ∷ ms) h = let r = no_offence _ _ t u ms h in (ltb-false 1000 n r.0, all-within t u ms r.1)
all-within t u (Width p n ∷ ms) h =
    let r = no_offence _ _ _ u ms h in
    (ltb-false 1000 n (or_parts _ _ r.0).0, all-within (record { widest = max t.widest n; squares = t.squares + n * n }) u ms r.1)

stays_small : (t u : Totals) (ms : List Measure) → IsSmall t → judge (Ok t) ms ≡ Ok u → IsSmall u
unfolding judge judged
stays_small t u [] s h =
    let w : t.widest ≡ u.widest = cc in
    let q : t.squares ≡ u.squares = cc in (subst (λ n. n ≤ 1048576) q s.0, subst (λ n. n ≤ 1000) w s.1)
stays_small t u (Operands p n ∷ ms) s h = stays_small t u ms s (no_offence _ _ t u ms h).1
stays_small t u (Depth p n ∷ ms) s h = stays_small t u ms s (no_offence _ _ t u ms h).1
stays_small t u (Width p n ∷ ms) s h =
    let r = no_offence _ _ _ u ms h in let o = or_parts _ _ r.0 in
    let a = ltb-false 1000 n o.0 in let b = ltb-false 1048576 (t.squares + n * n) o.1 in let w = s.1 in
    stays_small (record { widest = max t.widest n; squares = t.squares + n * n }) u ms (b, omega arith) r.1

module _ (P : Measure → Type 0) where
  pub every-left : (ms ns : List Measure) → Every P (ms ++ ns) → Every P ms
  every-left [] ns h = tt
  every-left (m ∷ ms) ns h = (h.0, every-left ms ns h.1)

  pub every-right : (ms ns : List Measure) → Every P (ms ++ ns) → Every P ns
  every-right [] ns h = h
  every-right (m ∷ ms) ns h = every-right ms ns h.1

  -- the measures of a lambda expression that stands in an expression are among those of the expression
  module _ (f : ℕ → ℕ → ℕ → List Measure) (m : ℕ) where
    abbrev Stands : Type 0
    Stands = (s : ℕ) × (d : ℕ) × Every P (f m s d)

    stands_lambdas : (s d : ℕ) (ls : List ℕ) → IsIn m ls → Every P (measures_of_lambdas f s d ls) → Stands
    stands_lambdas s d [] i h = absurd i
    stands_lambdas s d (l ∷ ls) (inl e) h = (s, d, subst (λ n. Every P (f n s d)) e (every-left (f l s d) _ h))
    stands_lambdas s d (l ∷ ls) (inr i) h = stands_lambdas s d ls i (every-right (f l s d) _ h)

    mutual
      pub stands-tree : (s d : ℕ) (e : Tree) → IsIn m (inner e) → Every P (measures f s d e) → Stands
      stands-tree s d (Node p n k) i h = stands_form s d p k i h

      stands_form : (s d : ℕ) (p : _) (k : Form) → IsIn m (inner_form k) → Every P (measures_form f s d p k) → Stands
      stands_form s d p (Quote c) i h = absurd i
      stands_form s d p (Local x) i h = absurd i
      stands_form s d p (Global g) i h = absurd i
      stands_form s d p (Lambda l) i h = ⊎_elim (λ e. (s, d, subst (λ n. Every P (f n s d)) e h)) (λ x. absurd x) i
      stands_form s d p (If a b c) i h =
          ⊎_elim (λ j. stands-tree s (d + 1) a j (every-left (measures f s (d + 1) a) _ h.1))
          (λ j. ⊎_elim (λ k. stands-tree s (d + 1) b k (every-left (measures f s (d + 1) b) _ (every-right (measures f s (d + 1) a) _ h.1)))
          (λ k. stands-tree s (d + 1) c k (every-right (measures f s (d + 1) b) _ (every-right (measures f s (d + 1) a) _ h.1)))
          (in-either m (inner b) _ j))
          (in-either m (inner a) _ i)
      stands_form s d p (SetLocal x e) i h = stands-tree s (d + 1) e i h.1
      stands_form s d p (SetGlobal g e) i h = stands-tree s (d + 1) e i h.1
      stands_form s d p (DefGlobal g e) i h = stands-tree s (d + 1) e i h.1
      stands_form s d p (Let xs es e) i h =
          ⊎_elim (λ j. stands-all s (d + 1) es j (every-left (measures_all f s (d + 1) es) _ h.1))
          (λ j. stands-tree (s + length xs) (d + 1) e j (every-right (measures_all f s (d + 1) es) _ h.1))
          (in-either m (inner_all es) _ i)
      stands_form s d p (Letrec xs ls e) i h =
          ⊎_elim (λ j. stands_lambdas (s + length xs) d ls j (every-left (measures_of_lambdas f (s + length xs) d ls) _ h.1))
          (λ j. stands-tree (s + length xs) (d + 1) e j (every-right (measures_of_lambdas f (s + length xs) d ls) _ h.1))
          (in-either m ls _ i)
      stands_form s d p (Seq es) i h = stands-all s (d + 1) es i h.1
      stands_form s d p (Call g es) i h =
          ⊎_elim (λ j. stands-tree s (d + 1) g j (every-left (measures f s (d + 1) g) _ (h.1).1))
          (λ j. stands-all s (d + 1) es j (every-right (measures f s (d + 1) g) _ (h.1).1))
          (in-either m (inner g) _ i)
      stands_form s d p (PrimUse q es) i h = stands-all s (d + 1) es i h.1
      stands_form s d p (Apply g l) i h =
          ⊎_elim (λ j. stands-tree s (d + 1) g j (every-left (measures f s (d + 1) g) _ h.1))
          (λ j. stands-tree s (d + 1) l j (every-right (measures f s (d + 1) g) _ h.1))
          (in-either m (inner g) _ i)

      pub stands-all : (s d : ℕ) (es : Trees) → IsIn m (inner_all es) → Every P (measures_all f s d es) → Stands
      stands-all s d none i h = absurd i
      stands-all s d (more e es) i h =
          ⊎_elim (λ j. stands-tree s d e j (every-left (measures f s d e) _ h)) (λ j. stands-all s d es j (every-right (measures f s d e) _ h))
          (in-either m (inner e) _ i)

    pub stands-forms : (ls : List LambdaTree) (es : Trees) → f ≡ lambdas_measures ls 0 → IsIn m (inner_all es) → Every P (forms_measures ls es) → Stands
    stands-forms ls none q i h = absurd i
    stands-forms ls (more (Node p n k) es) q i h =
        ⊎_elim
        (λ j. stands-tree 0 1 (Node p n k) j
        (subst (λ g. Every P (measures g 0 1 (Node p n k))) (sym q)
        (every-right (first_measures ls p k) (Width p (nodes (Node p n k)) ∷ _) (every-left (form_measures ls (Node p n k)) _ h)).1))
        (λ j. stands-forms ls es q j (every-right (form_measures ls (Node p n k)) _ h))
        (in-either m (inner (Node p n k)) _ i)

-- the calls of an expression whose measures are within have few operands
module _ (f : ℕ → ℕ → ℕ → List Measure) where
  abbrev Few : ℕ → Form → Type 0
  Few s k = FewOperands k

  mutual
    pub few-tree : (s d : ℕ) (e : Tree) → Every IsWithin (measures f s d e) → Each Few e
    few-tree s d (Node p n k) h = (few_here s d p k h, few_form s d p k h)

    few_here : (s d : ℕ) (p : _) (k : Form) → Every IsWithin (measures_form f s d p k) → FewOperands k
    few_here s d p (Call g es) h = h.0
    few_here s d p (Quote c) h = tt
    few_here s d p (Local x) h = tt
    few_here s d p (Global g) h = tt
    few_here s d p (Lambda l) h = tt
    few_here s d p (If a b c) h = tt
    few_here s d p (SetLocal x e) h = tt
    few_here s d p (SetGlobal g e) h = tt
    few_here s d p (DefGlobal g e) h = tt
    few_here s d p (Let xs es e) h = tt
    few_here s d p (Letrec xs ls e) h = tt
    few_here s d p (Seq es) h = tt
    few_here s d p (PrimUse q es) h = tt
    few_here s d p (Apply g l) h = tt

    few_form : (s d : ℕ) (p : _) (k : Form) → Every IsWithin (measures_form f s d p k) → EachForm Few k
    few_form s d p (Quote c) h = tt
    few_form s d p (Local x) h = tt
    few_form s d p (Global g) h = tt
    few_form s d p (Lambda l) h = tt
    few_form s d p (If a b c) h = (
      few-tree s (d + 1) a (every-left IsWithin (measures f s (d + 1) a) _ h.1),
      few-tree s (d + 1) b (every-left IsWithin (measures f s (d + 1) b) _ (every-right IsWithin (measures f s (d + 1) a) _ h.1)),
      few-tree s (d + 1) c (every-right IsWithin (measures f s (d + 1) b) _ (every-right IsWithin (measures f s (d + 1) a) _ h.1)),
    )
    few_form s d p (SetLocal x e) h = few-tree s (d + 1) e h.1
    few_form s d p (SetGlobal g e) h = few-tree s (d + 1) e h.1
    few_form s d p (DefGlobal g e) h = few-tree s (d + 1) e h.1
    few_form s d p (Let xs es e) h = (
      few-all s (d + 1) es (every-left IsWithin (measures_all f s (d + 1) es) _ h.1),
      few-tree (s + length xs) (d + 1) e (every-right IsWithin (measures_all f s (d + 1) es) _ h.1),
    )
    few_form s d p (Letrec xs ls e) h =
        few-tree (s + length xs) (d + 1) e (every-right IsWithin (measures_of_lambdas f (s + length xs) d ls) _ h.1)
    few_form s d p (Seq es) h = few-all s (d + 1) es h.1
    few_form s d p (Call g es) h = (
      few-tree s (d + 1) g (every-left IsWithin (measures f s (d + 1) g) _ (h.1).1),
      few-all s (d + 1) es (every-right IsWithin (measures f s (d + 1) g) _ (h.1).1),
    )
    few_form s d p (PrimUse q es) h = few-all s (d + 1) es h.1
    few_form s d p (Apply g l) h = (
      few-tree s (d + 1) g (every-left IsWithin (measures f s (d + 1) g) _ h.1),
      few-tree s (d + 1) l (every-right IsWithin (measures f s (d + 1) g) _ h.1),
    )

    pub few-all : (s d : ℕ) (es : Trees) → Every IsWithin (measures_all f s d es) → EachAll Few es
    few-all s d none h = tt
    few-all s d (more e es) h = (
      few-tree s d e (every-left IsWithin (measures f s d e) _ h),
      few-all s d es (every-right IsWithin (measures f s d e) _ h),
    )

few_forms : (ls : List LambdaTree) (es : Trees) → Every IsWithin (forms_measures ls es) → EachAll (λ s k. FewOperands k) es
few_forms ls none h = tt
few_forms ls (more (Node p n k) es) h = (
  few-tree (lambdas_measures ls 0) 0 1 (Node p n k)
      (every-right IsWithin (first_measures ls p k) (Width p (nodes (Node p n k)) ∷ _) (every-left IsWithin (form_measures ls (Node p n k)) _ h)).1,
  few_forms ls es (every-right IsWithin (form_measures ls (Node p n k)) _ h),
)

-- each form is narrow
abbrev pub NarrowForms : Trees → Type 0
NarrowForms none = Unit {0}
NarrowForms (more e es) = (nodes e ≤ 1000) × NarrowForms es

narrow_forms : (ls : List LambdaTree) (es : Trees) → Every IsWithin (forms_measures ls es) → NarrowForms es
narrow_forms ls none h = tt
narrow_forms ls (more (Node p n k) es) h = (
  (every-right IsWithin (first_measures ls p k) (Width p (nodes (Node p n k)) ∷ _) (every-left IsWithin (form_measures ls (Node p n k)) _ h)).0,
  narrow_forms ls es (every-right IsWithin (form_measures ls (Node p n k)) _ h),
)

-- the measures of the lambda expression of a number
by_index : (ls : List LambdaTree) (first k n : ℕ) (l : LambdaTree) (s d : ℕ) → n ≡ first + k → slice_get ls k ≡ Some l →
    lambdas_measures ls first n s d ≡ lambda_measures (lambdas_measures (drop (suc k) ls) (suc n)) l s d
by_index [] first k n l s d q e = cc
by_index (m ∷ ms) first zero n l s d q e =
    let t : m ≡ l = same_Some m l e in
    let z : first ≡ n = omega arith in
    at-first first n _ _ z
    ∙ ap (λ v. lambda_measures (lambdas_measures ms (suc first)) v s d) t
    ∙ ap (λ i. lambda_measures (lambdas_measures ms (suc i)) l s d) z
by_index (m ∷ ms) first (suc k) n l s d q e =
    past-first first n _ _ (omega arith) ∙ by_index ms (suc first) k n l s d (omega arith) e

get_drop : {X : Type 0} (n : ℕ) (xs : List X) (j : ℕ) → slice_get (drop n xs) j ≡ slice_get xs (n + j)
get_drop zero xs j = ap (slice_get xs) (let z : j ≡ 0 + j = omega arith in z)
get_drop (suc n) [] j = refl
get_drop (suc n) (x ∷ xs) j =
    let z : suc (n + j) ≡ suc n + j = omega arith in get_drop n xs j ∙ ap (slice_get (x ∷ xs)) z

module _ (p : ProgramTree) (r : KeepsRules p) (h : Every IsWithin (program_measures p)) where
  -- the measures of a lambda expression, where it stands, are within
  record LambdaWithin (n : ℕ) (l : LambdaTree) : Type 0 where
    scope : ℕ
    depth : ℕ
    rest : List LambdaTree
    tail : (j : ℕ) → slice_get rest j ≡ slice_get p.lambdas (suc n + j)
    measured : Every IsWithin (lambda_measures (lambdas_measures rest (suc n)) l scope depth)

  from_tail : (ls : List LambdaTree) (first n : ℕ) (l : LambdaTree) (s d : ℕ) → first ≤ n →
      ((j : ℕ) → slice_get ls j ≡ slice_get p.lambdas (first + j)) → slice_get p.lambdas n ≡ Some l →
      Every IsWithin (lambdas_measures ls first n s d) → LambdaWithin n l
  from_tail ls first n l s d le t e w =
      let k : first + (n - first) ≡ n = omega arith in
      record {
        scope = s;
        depth = d;
        rest = drop (suc (n - first)) ls;
        tail = λ j. get_drop (suc (n - first)) ls j ∙ t (suc (n - first) + j)
            ∙ ap (slice_get p.lambdas) (let z : first + (suc (n - first) + j) ≡ suc n + j = omega arith in z);
        measured = subst (Every IsWithin) (by_index ls first (n - first) n l s d (sym k) (t (n - first) ∙ ap (slice_get p.lambdas) k ∙ e)) w;
      }

  lambda_within : (fuel n : ℕ) (l : LambdaTree) → n < fuel → slice_get p.lambdas n ≡ Some l → LambdaWithin n l
  lambda_within zero n l lt e = absurd (omega arith)
  lambda_within (suc fuel) n l lt e =
      ⊎_elim
      (λ j.
      let w = stands-forms IsWithin (lambdas_measures p.lambdas 0) n p.lambdas p.forms refl j h in
      from_tail p.lambdas 0 n l w.0 w.1 (omega arith) (λ k. ap (slice_get p.lambdas) (let z : k ≡ 0 + k = omega arith in z)) e w.2)
      (λ j.
      let o = around p.lambdas n j in
      let g = greater-at p.lambdas 0 o.0 o.1 r.inner_greater o.2 n o.3 in
      let outer = lambda_within fuel o.0 o.1 (omega arith) o.2 in
      let w = stands-tree IsWithin (lambdas_measures outer.rest (suc o.0)) n (outer.scope + length (parameters o.1)) (outer.depth + 1) (o.1).body o.3 (((outer.measured).1).1).1 in
      from_tail outer.rest (suc o.0) n l w.0 w.1 (omega arith) outer.tail e w.2)
      (in-either n (inner_all p.forms) _ (in-tested (standing p) n (r.lambdas_at_least_once n (within p.lambdas n l e))))

  -- what is within at a lambda expression: its parameters, the calls of its body, and the nodes there
  pub record LambdaFits (l : LambdaTree) : Type 0 where
    pub parameters_few : FewParameters l
    pub calls_few : Each (λ s k. FewOperands k) l.body
    pub narrow : nodes l.body ≤ 1000

  lambda_fits : (n : ℕ) (l : LambdaTree) → slice_get p.lambdas n ≡ Some l → LambdaFits l
  lambda_fits n l e =
      let w = lambda_within (suc n) n l (omega arith) e in
      let m = w.measured in
      let width : w.scope + length (parameters l) + nodes l.body ≤ 1000 = ((m.1).1).0 in
      record {
        parameters_few = m.0;
        calls_few = few-tree (lambdas_measures w.rest (suc n)) (w.scope + length (parameters l)) (w.depth + 1) l.body ((m.1).1).1;
        narrow = omega arith;
      }

  each_index : (Q : LambdaTree → Type 0) (ls : List LambdaTree) →
      ((n : ℕ) (l : LambdaTree) → slice_get ls n ≡ Some l → Q l) → Every Q ls
  each_index Q [] f = tt
  each_index Q (l ∷ ls) f = (f 0 l refl, each_index Q ls (λ n m e. f (suc n) m e))

  pub lambdas-fit : Every LambdaFits p.lambdas
  lambdas-fit = each_index LambdaFits p.lambdas lambda_fits

  pub forms-few : EachAll (λ s k. FewOperands k) p.forms
  forms-few = few_forms p.lambdas p.forms h

  pub forms-narrow : NarrowForms p.forms
  forms-narrow = narrow_forms p.lambdas p.forms h

every_of : {X : Type 0} (P Q : X → Type 0) (xs : List X) → ((x : X) → P x → Q x) → Every P xs → Every Q xs
every_of P Q [] f h = tt
every_of P Q (x ∷ xs) f h = (f x h.0, every_of P Q xs f h.1)

-- a program without an offence
the_totals : {X Y : Type 0} (o : Result X Y) → IsOk o → (x : X) × (o ≡ Ok x)
the_totals (Ok x) h = (x, refl)
the_totals (Err y) h = cc

pub within-program : (p : ProgramTree) → IsOk (judge_program p) → Every IsWithin (program_measures p)
within-program p ok = let t = the_totals (judge_program p) ok in all-within no_widths t.0 (program_measures p) t.1

pub forms-law : (p : ProgramTree) → KeepsRules p → IsOk (judge_program p) → EachAll (λ s k. FewOperands k) p.forms
forms-law p r ok = forms-few p r (within-program p ok)

pub bodies-law : (p : ProgramTree) → KeepsRules p → IsOk (judge_program p) → Every (λ (l : LambdaTree). Each (λ s k. FewOperands k) l.body) p.lambdas
bodies-law p r ok = every_of (LambdaFits p r (within-program p ok)) _ p.lambdas (λ l f. f.calls_few) (lambdas-fit p r (within-program p ok))

pub parameters-law : (p : ProgramTree) → KeepsRules p → IsOk (judge_program p) → Every FewParameters p.lambdas
parameters-law p r ok = every_of (LambdaFits p r (within-program p ok)) FewParameters p.lambdas (λ l f. f.parameters_few) (lambdas-fit p r (within-program p ok))

pub bodies-narrow : (p : ProgramTree) → KeepsRules p → IsOk (judge_program p) → Every (λ (l : LambdaTree). nodes l.body ≤ 1000) p.lambdas
bodies-narrow p r ok = every_of (LambdaFits p r (within-program p ok)) _ p.lambdas (λ l f. f.narrow) (lambdas-fit p r (within-program p ok))

small_totals : (p : ProgramTree) (t : Totals) → judge_program p ≡ Ok t → IsSmall t
small_totals p t e = stays_small no_widths t (program_measures p) (omega arith, omega arith) e

pub width-law : (p : ProgramTree) → IsOk (judge_program p) → width_of p ≤ 1000
width-law p ok = let t = the_totals (judge_program p) ok in subst (λ n. n ≤ 1000) (program_totals p t.0 t.1).0 (small_totals p t.0 t.1).1

pub squares-law : (p : ProgramTree) → IsOk (judge_program p) → square_sum p ≤ 1048576
squares-law p ok = let t = the_totals (judge_program p) ok in subst (λ n. n ≤ 1048576) (program_totals p t.0 t.1).1 (small_totals p t.0 t.1).0
