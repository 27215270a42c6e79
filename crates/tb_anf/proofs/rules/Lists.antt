-- The procs of a normal form: those of the forms stand first, and then those of the lambda expressions in order.
use Rattle.std.proofs.Common.{◌≡◌, refl, sym, ap, ◌∙◌, subst, ℕ, suc, ◌+◌, true, not, List, [], ◌∷◌, ◌++◌, filter, length, Option, append-nil}
use Rattle.tb_core.specs.OperandOrder.{Line}
use Rattle.tb_ir.specs.AnfTree.{ProcTree}
use Rattle.tb_ir.specs.AnfRules.{is_form, forms_of, lambdas_of, Numbered}
use Rattle.tb_ir.specs.Tree.{Tree, Node, Trees, none, more, LambdaTree, ProgramTree}
use Rattle.tb_ir.specs.TreeMachine.{line_of}
use Rattle.tb_anf.specs.NormalForm.{size, size_all, form_proc, form_procs, lambda_proc, lambda_procs, normal_form}

module _ (line : ℕ → Option (List ℕ)) where
  form_is : (n : ℕ) (e : Tree) → is_form (form_proc line n e) ≡ true
  form_is n (Node p s f) = refl

  forms_kept : (n : ℕ) (es : Trees) (qs : List ProcTree) → filter is_form (form_procs line n es ++ qs) ≡ form_procs line n es ++ filter is_form qs
  forms_kept n none qs = refl
  forms_kept n (more e es) qs = rw (form_is n e) (ap (λ rs. form_proc line n e ∷ rs) (forms_kept (n + size e) es qs))

  forms_dropped : (n : ℕ) (es : Trees) (qs : List ProcTree) → filter (λ q. not (is_form q)) (form_procs line n es ++ qs) ≡ filter (λ q. not (is_form q)) qs
  forms_dropped n none qs = refl
  forms_dropped n (more e es) qs = rw (form_is n e) (forms_dropped (n + size e) es qs)

  module _ (p : ProgramTree) where
    lambdas_dropped : (l n : ℕ) (ms : List LambdaTree) → filter is_form (lambda_procs p line l n ms) ≡ []
    lambdas_dropped l n [] = refl
    lambdas_dropped l n (m ∷ ms) = lambdas_dropped (suc l) (n + size m.body) ms

    lambdas_kept : (l n : ℕ) (ms : List LambdaTree) → filter (λ q. not (is_form q)) (lambda_procs p line l n ms) ≡ lambda_procs p line l n ms
    lambdas_kept l n [] = refl
    lambdas_kept l n (m ∷ ms) = ap (λ qs. lambda_proc p line l n m ∷ qs) (lambdas_kept (suc l) (n + size m.body) ms)

    in_order : (l n : ℕ) (ms : List LambdaTree) → Numbered l (lambda_procs p line l n ms)
    in_order l n [] = tt
    in_order l n (m ∷ ms) = (refl, in_order (suc l) (n + size m.body) ms)

    pub procs-count : (l n : ℕ) (ms : List LambdaTree) → length (lambda_procs p line l n ms) ≡ length ms
    procs-count l n [] = refl
    procs-count l n (m ∷ ms) = ap suc (procs-count (suc l) (n + size m.body) ms)

module _ (p : ProgramTree) (order : List Line) where
  abbrev pub own_procs : List ProcTree
  own_procs = lambda_procs p (line_of order) 0 (size_all p.forms) p.lambdas

  pub forms-are : forms_of (normal_form p order) ≡ form_procs (line_of order) 0 p.forms
  forms-are = forms_kept (line_of order) 0 p.forms own_procs
      ∙ ap (λ qs. form_procs (line_of order) 0 p.forms ++ qs) (lambdas_dropped (line_of order) p 0 (size_all p.forms) p.lambdas)
      ∙ append-nil (form_procs (line_of order) 0 p.forms)

  pub lambdas-are : lambdas_of (normal_form p order) ≡ own_procs
  lambdas-are = forms_dropped (line_of order) 0 p.forms own_procs ∙ lambdas_kept (line_of order) p 0 (size_all p.forms) p.lambdas

  pub forms-first : (normal_form p order).procs ≡ forms_of (normal_form p order) ++ lambdas_of (normal_form p order)
  forms-first = sym (ap (λ qs. qs ++ lambdas_of (normal_form p order)) forms-are ∙ ap (λ qs. form_procs (line_of order) 0 p.forms ++ qs) lambdas-are)

  pub numbered : Numbered 0 (lambdas_of (normal_form p order))
  numbered = subst (Numbered 0) (sym lambdas-are) (in_order (line_of order) p 0 (size_all p.forms) p.lambdas)

  pub lambdas-count : length (lambdas_of (normal_form p order)) ≡ length p.lambdas
  lambdas-count = ap length lambdas-are ∙ procs-count (line_of order) p 0 (size_all p.forms) p.lambdas
