-- The procs of a program are no wider than its bodies, all together.
use Rattle.std.proofs.Common.{◌≡◌, refl, sym, ap, ◌∙◌, subst, ℕ, ◌+◌, ◌^◌, inl, inr, ⊎_elim, arith, Bool, List, [], ◌∷◌, ◌++◌, length, map, eq-eqb, ne_eqb}
use Rattle.tb_semantics.specs.Graph.{IsIn, IsApart}
use Rattle.tb_core.specs.FirstUses.{first_of}
use Rattle.tb_core.specs.Lifting.{Lifted}
use Rattle.tb_core.specs.OperandOrder.{Line}
use Rattle.tb_core.specs.Rules.{Every}
use Rattle.tb_core.proofs.Members.{in-left, in-right, in-either, in-tested, append-same}
use Rattle.tb_ir.specs.Tree.{Node, Trees, none, more, ProgramTree}
use Rattle.tb_ir.specs.FreeVariables.{inner_free, added_to}
use Rattle.tb_ir.specs.Rules as K
use Rattle.tb_ir.specs.Rules.{IsLambda, LiftedKeeps, nodes_of, nodes_of_lambdas, of_nodes, standing_at, times, KeepsRules, IsOrderOf}
use Rattle.tb_ir.specs.TreeMachine.{line_of}
use Rattle.tb_ir.specs.Width.{is_lined, nodes, widths, lambdas_widths, form_widths, lifted_widths, all_widths}
use Rattle.tb_ir.specs.AnfWidth as W
use Rattle.tb_ir.specs.AnfTree.{ProcTree}
use Rattle.tb_anf.specs.NormalForm.{size, size_all, form_procs, normal_form}
use Rattle.tb_anf.specs.Wider.{AreAtMost, AreNoWider}
use Rattle.tb_anf.proofs.Apart.{of_nodes-append, apart-append}
use Rattle.tb_anf.proofs.Cells.{single, good-forms, own_formals, all-fit}
use Rattle.tb_anf.proofs.InScope.{all_fit, times-append}
use Rattle.tb_anf.proofs.Operands.{apart-left, apart-right, apart-both, every-left, every-right}
use Rattle.tb_anf.proofs.Operations.{FitNode, fits}
use Rattle.tb_anf.proofs.Scopes.{every-append}
use Rattle.tb_anf.proofs.Tasks.{Task, tasks, tasks_all, gathered, gathered-append, widths-tasks, numbers_of, numbers-append, all-stand, stand_in_all}
use Rattle.tb_anf.proofs.Widths.{Wide, wide_all, stands, Ordered, ordered}

abbrev lambda_numbers : List Lifted → List ℕ
lambda_numbers set = map (λ (m : Lifted). m.lambda) set

-- the lambda expressions that are lifted, each with the variables that are added to it
abbrev lifted_tasks : List Lifted → List Task
lifted_tasks [] = []
lifted_tasks (m ∷ ms) = record { number = m.lambda; scope = length m.added } ∷ lifted_tasks ms

lifted_gathered : (lined : ℕ → Bool) (own : ℕ → ℕ) (f : ℕ → ℕ → List ℕ) (set : List Lifted) →
    lifted_widths lined own f set ≡ gathered f (lifted_tasks set)
lifted_gathered lined own f [] = refl
lifted_gathered lined own f (m ∷ ms) = ap (λ z. f m.lambda (length m.added) ++ z) (lifted_gathered lined own f ms)

lifted_numbers : (set : List Lifted) → numbers_of (lifted_tasks set) ≡ lambda_numbers set
lifted_numbers [] = refl
lifted_numbers (m ∷ ms) = ap (λ z. m.lambda ∷ z) (lifted_numbers ms)

in_numbers : (m : Lifted) (set : List Lifted) → IsIn m set → IsIn m.lambda (lambda_numbers set)
in_numbers m [] i = absurd i
in_numbers m (k ∷ ks) (inl e) = inl (ap (λ (z : Lifted). z.lambda) e)
in_numbers m (k ∷ ks) (inr i) = inr (in_numbers m ks i)

-- what is added to a lambda expression that is lifted once
added_own : (set : List Lifted) (m : Lifted) → IsApart (lambda_numbers set) → IsIn m set →
    added_to set m.lambda ≡ m.added
added_own [] m a i = absurd i
added_own (k ∷ ks) m a (inl e) =
    rw (eq-eqb k.lambda m.lambda (ap (λ (z : Lifted). z.lambda) e)) (ap (λ (z : Lifted). z.added) e)
added_own (k ∷ ks) m a (inr i) =
    rw (ne_eqb k.lambda m.lambda (λ e. a.0 (subst (λ z. IsIn z (lambda_numbers ks)) (sym e) (in_numbers m ks i))))
    (added_own ks m a.1 i)

apart_swap : (xs ys zs : List ℕ) → IsApart ((xs ++ ys) ++ zs) → IsApart ((xs ++ zs) ++ ys)
apart_swap xs ys zs h =
    let both = apart-left (xs ++ ys) zs h in
    apart-append (xs ++ zs) ys
    (apart-append xs zs (apart-left xs ys both) (apart-right (xs ++ ys) zs h)
    (λ y i j. apart-both (xs ++ ys) zs y h (in-left y xs ys i) j))
    (apart-right xs ys both)
    (λ y i j. ⊎_elim (λ k. apart-both xs ys y both k j) (λ k. apart-both (xs ++ ys) zs y h (in-right y xs ys j) k)
    (in-either y xs zs i))

in_swap : (xs ys zs : List ℕ) (y : ℕ) → IsIn y ((xs ++ ys) ++ zs) → IsIn y ((xs ++ zs) ++ ys)
in_swap xs ys zs y i =
    ⊎_elim
    (λ j. ⊎_elim (λ k. in-left y (xs ++ zs) ys (in-left y xs zs k)) (in-right y (xs ++ zs) ys) (in-either y xs ys j))
    (λ j. in-left y (xs ++ zs) ys (in-right y xs zs j))
    (in-either y (xs ++ ys) zs i)

at_most-append : (xs ys vs ws : List ℕ) → AreAtMost xs ys → AreAtMost vs ws → AreAtMost (xs ++ vs) (ys ++ ws)
at_most-append [] [] vs ws a b = b
at_most-append (x ∷ xs) (y ∷ ys) vs ws a b = (a.0, at_most-append xs ys vs ws a.1 b)
at_most-append [] (y ∷ ys) vs ws a b = absurd a
at_most-append (x ∷ xs) [] vs ws a b = absurd a

map_append : (f : ProcTree → ℕ) (xs ys : List ProcTree) → map f (xs ++ ys) ≡ map f xs ++ map f ys
map_append f [] ys = refl
map_append f (x ∷ xs) ys = ap (λ z. f x ∷ z) (map_append f xs ys)

module _ (p : ProgramTree) (order : List Line) (rules : KeepsRules (2 ^ 31) p) (lines : IsOrderOf p order) where
  abbrev lined : ℕ → Bool
  lined s = is_lined (line_of order s)

  abbrev own : ℕ → ℕ
  own = own_formals p order rules lines

  abbrev inner_widths : ℕ → ℕ → List ℕ
  inner_widths = lambdas_widths lined own p.lambdas 0

  -- the widths of the forms without the lambda expressions in them
  abbrev own_widths : Trees → List ℕ
  own_widths none = []
  own_widths (more e es) = nodes lined own e ∷ own_widths es

  forms_times : (k : ℕ) (es : Trees) → times k (form_widths lined own inner_widths es) ≡
      times k (own_widths es) + times k (gathered inner_widths (tasks_all 0 es))
  forms_times k none = omega arith
  forms_times k (more e es) =
      let a = ap (times k) (widths-tasks lined own inner_widths 0 e) in
      let b = times-append k (widths lined own inner_widths 0 e) (form_widths lined own inner_widths es) in
      let c = ap (times k) (gathered-append inner_widths (tasks 0 e) (tasks_all 0 es))
      ∙ times-append k (gathered inner_widths (tasks 0 e)) (gathered inner_widths (tasks_all 0 es)) in
      let h = forms_times k es in
      omega arith

  forms_at_most : (n : ℕ) (es : Trees) → Every (FitNode (line_of order) own) (nodes_of es) →
      AreAtMost (map W.proc_width (form_procs (line_of order) n es)) (own_widths es)
  forms_at_most n none h = tt
  forms_at_most n (more (Node q s f) es) h =
      let e = Node q s f in
      let a = fits (line_of order) own e (every-left _ (K.nodes e) _ h) n in
      (omega arith, forms_at_most (n + size e) es (every-right _ (K.nodes e) _ h))

  set_apart : IsApart (lambda_numbers p.set)
  set_apart = apart-right _ (lambda_numbers p.set) rules.lambdas_at_most_once

  lifted_wide : (ms : List Lifted) → ((m : Lifted) → IsIn m ms → IsIn m p.set) → Every (LiftedKeeps p) ms →
      Every (Wide p order rules lines) (lifted_tasks ms)
  lifted_wide [] h k = tt
  lifted_wide (m ∷ ms) h k =
      let e = added_own p.set m set_apart (h m (inl refl)) in
      let c = k.0.closed in
      let long = ap length e in
      let none_captured = ap (λ z. length (first_of [] z)) c in (
        record {
          variables = m.added;
          few = omega arith;
          free_there = λ y i. absurd (subst (IsIn y) c i);
          added_there = λ y i. subst (IsIn y) e i;
          both = omega arith;
        },
        lifted_wide ms (λ n i. h n (inr i)) k.1,
      )

  -- the lambda expressions in the forms, and those that are lifted
  abbrev roots : List Task
  roots = tasks_all 0 p.forms ++ lifted_tasks p.set

  abbrev at_forms : List ℕ
  at_forms = stand_in_all p.forms

  root_numbers : numbers_of roots ++ stands p order rules lines p.lambdas ≡
      (at_forms ++ lambda_numbers p.set) ++ stands p order rules lines p.lambdas
  root_numbers = ap (λ z. z ++ stands p order rules lines p.lambdas)
      (numbers-append (tasks_all 0 p.forms) (lifted_tasks p.set)
      ∙ append-same _ _ _ _ (all-stand 0 p.forms) (lifted_numbers p.set))

  standing_parts : K.standing p ≡ (at_forms ++ stands p order rules lines p.lambdas) ++ lambda_numbers p.set
  standing_parts = ap (λ z. z ++ lambda_numbers p.set)
      (of_nodes-append standing_at (nodes_of p.forms) (nodes_of_lambdas p.lambdas))

  roots_wide : Every (Wide p order rules lines) roots
  roots_wide = every-append _ (tasks_all 0 p.forms) (lifted_tasks p.set)
      (wide_all p order rules lines (tasks_all 0 p.forms)
      (λ k i. subst (IsIn k) (sym (of_nodes-append standing_at (nodes_of p.forms) (nodes_of_lambdas p.lambdas)))
      (in-left k at_forms _ (subst (IsIn k) (all-stand 0 p.forms) i)))
      (all_fit (inner_free p) (single p order rules lines) p.forms 0 [] (omega arith)
      (λ y i. subst (IsIn y) rules.in_scope i) (good-forms p order rules lines)))
      (lifted_wide p.set (λ m i. i) rules.lifted)

  lambdas_ordered : Ordered p order rules lines 0 (size_all p.forms) p.lambdas roots
  lambdas_ordered =
      ordered p order rules lines p.lambdas 0 (size_all p.forms) roots
      (λ i m e. let z : i ≡ 0 + i = omega arith in subst (λ k. IsLambda p k m) z e)
      rules.inner_greater
      (subst IsApart (sym root_numbers)
      (apart_swap at_forms (stands p order rules lines p.lambdas) (lambda_numbers p.set)
      (subst IsApart standing_parts rules.lambdas_at_most_once)))
      (λ l le lt. subst (IsIn l) (sym root_numbers)
      (in_swap at_forms (stands p order rules lines p.lambdas) (lambda_numbers p.set) l
      (subst (IsIn l) standing_parts (in-tested (K.standing p) l (rules.lambdas_at_least_once l (omega arith))))))
      roots_wide

  pub no-wider : AreNoWider (W.all_widths (normal_form p order)) (all_widths p order)
  no-wider =
      let o = lambdas_ordered in
      record {
        arranged = own_widths p.forms ++ o.widths_of;
        same = λ k.
            let a = times-append k (own_widths p.forms) o.widths_of in
            let b = o.same k in
            let c = ap (times k) (gathered-append inner_widths (tasks_all 0 p.forms) (lifted_tasks p.set))
            ∙ times-append k (gathered inner_widths (tasks_all 0 p.forms)) _ in
            let d = forms_times k p.forms in
            let e = times-append k (form_widths lined own inner_widths p.forms)
            (lifted_widths lined own inner_widths p.set) in
            let f = ap (times k) (lifted_gathered lined own inner_widths p.set) in
            omega arith;
        at_most = subst (λ z. AreAtMost z (own_widths p.forms ++ o.widths_of))
            (sym (map_append W.proc_width (form_procs (line_of order) 0 p.forms) _))
            (at_most-append _ _ _ _
            (forms_at_most 0 p.forms (every-left _ (nodes_of p.forms) _ (all-fit p order rules lines))) o.at_most);
      }
