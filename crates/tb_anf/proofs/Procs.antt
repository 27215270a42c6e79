-- The procs of a program in A-normal form by number: the forms, and what each lambda expression captures.
use Rattle.std.proofs.Common.{◌≡◌, refl, sym, ap, ◌∙◌, subst, ℕ, zero, suc, ◌+◌, ◌<◌, ◌≤◌, ◌⊎◌, inl, inr, ⊎_elim, arith, List, [], ◌∷◌, ◌++◌, length, Option, Some, None, slice_get, eq-eqb, ne_eqb}
use Rattle.std.proofs.lemmas.Bool.{cases_eq}
use Rattle.tb_semantics.specs.Graph.{IsIn}
use Rattle.tb_core.specs.FirstUses.{first_of}
use Rattle.tb_core.specs.Lifting.{Lifted}
use Rattle.tb_core.specs.OperandOrder.{Line}
use Rattle.tb_core.proofs.FirstUses.{first_of-in}
use Rattle.tb_core.proofs.Members.{in-tested, tested-in}
use Rattle.tb_ir.specs.Tree.{Tree, Node, Trees, none, more, tree_at, LambdaTree, ProgramTree}
use Rattle.tb_ir.specs.FreeVariables.{inner_free, captured, lambdas_free}
use Rattle.tb_ir.specs.AnfTree.{ProcTree}
use Rattle.tb_ir.specs.AnfMachine.{Code, InBlock, proc_of, captured_by, form_of}
use Rattle.tb_ir.specs.TreeMachine.{line_of}
use Rattle.tb_anf.specs.NormalForm.{size, size_all, AtEnd, block_of, form_procs, lambda_proc, lambda_procs, normal_form}

-- what is captured is free
pub captured-free : (p : ProgramTree) (l y : ℕ) → IsIn y (captured p l) → IsIn y (inner_free p l)
captured-free p l y i = in-tested (inner_free p l) y
    (sym (first_of-in [] (inner_free p l) y) ∙ tested-in (captured p l) y i)

module _ (p : ProgramTree) (line : ℕ → Option (List ℕ)) where
  -- the forms have no lambda expression
  skip_forms : (n : ℕ) (es : Trees) (qs : List ProcTree) (l : ℕ) → proc_of (form_procs line n es ++ qs) l ≡ proc_of qs l
  skip_forms n none qs l = refl
  skip_forms n (more (Node q s f) es) qs l = skip_forms (n + size (Node q s f)) es qs l

  lambda_captured : (first n : ℕ) (ms : List LambdaTree) (l : ℕ) →
      (captured_by (proc_of (lambda_procs p line first n ms) l) ≡ captured p l) ⊎
      ((l < first ⊎ (first + length ms ≤ l)) × (captured_by (proc_of (lambda_procs p line first n ms) l) ≡ []))
  lambda_captured first n [] l = inr (before_or_not first l, refl)
    where
      before_or_not : (a b : ℕ) → b < a ⊎ (a + 0 ≤ b)
      before_or_not zero b = inr (omega arith)
      before_or_not (suc a) zero = inl (omega arith)
      before_or_not (suc a) (suc b) = ⊎_elim (λ h. inl (omega arith)) (λ h. inr (omega arith)) (before_or_not a b)
  lambda_captured first n (m ∷ ms) l =
      ⊎_elim
      (λ e. inl (rw (eq-eqb first l e) (ap (captured p) e)))
      (λ ne. ⊎_elim
      (λ h. inl (rw (ne_eqb first l ne) h))
      (λ h. inr (⊎_elim (λ lt. inl (omega arith)) (λ le. inr (omega arith)) h.0, rw (ne_eqb first l ne) h.1))
      (lambda_captured (suc first) (n + size m.body) ms l))
      (cases_eq first l)

-- a lambda expression that is not there has no free variables
pub free-past : (set : List Lifted) (ms : List LambdaTree) (first l : ℕ) → l < first ⊎ (first + length ms ≤ l) →
    lambdas_free set ms first l ≡ []
free-past set [] first l h = refl
free-past set (m ∷ ms) first l h =
    let ne : first ≡ l → ⊥ = λ e. ⊎_elim (λ lt. absurd (omega arith)) (λ le. absurd (omega arith)) h in
    rw (ne_eqb first l ne)
    (free-past set ms (suc first) l (⊎_elim (λ lt. inl (omega arith)) (λ le. inr (omega arith)) h))

-- the closures of both machines capture the same
pub same-captured : (p : ProgramTree) (order : List Line) (l : ℕ) →
    captured_by (proc_of (normal_form p order).procs l) ≡ captured p l
same-captured p order l =
    ap captured_by (skip_forms p (line_of order) 0 p.forms _ l)
    ∙ ⊎_elim (λ h. h)
    (λ h. h.1 ∙ sym (ap (first_of []) (free-past p.set p.lambdas 0 l h.0)))
    (lambda_captured p (line_of order) 0 (size_all p.forms) p.lambdas l)

-- the form of a number on both sides
pub data SameForm (line : ℕ → Option (List ℕ)) : Option Tree → Option Code → Type 0 where
  no_form : SameForm line None None
  same_form : (n : ℕ) (e : Tree) → SameForm line (Some e) (Some (InBlock (block_of line n e AtEnd)))

no_lambda_form : (p : ProgramTree) (line : ℕ → Option (List ℕ)) (first n : ℕ) (ms : List LambdaTree) (k : ℕ) →
    form_of (slice_get (lambda_procs p line first n ms) k) ≡ None
no_lambda_form p line first n [] k = refl
no_lambda_form p line first n (m ∷ ms) zero = refl
no_lambda_form p line first n (m ∷ ms) (suc k) = no_lambda_form p line (suc first) (n + size m.body) ms k

forms_at : (p : ProgramTree) (line : ℕ → Option (List ℕ)) (n : ℕ) (es : Trees) (first at : ℕ) (ms : List LambdaTree)
    (k : ℕ) → SameForm line (tree_at es k)
    (form_of (slice_get (form_procs line n es ++ lambda_procs p line first at ms) k))
forms_at p line n none first at ms k = subst (SameForm line None) (sym (no_lambda_form p line first at ms k)) no_form
forms_at p line n (more (Node q s f) es) first at ms zero = same_form n (Node q s f)
forms_at p line n (more (Node q s f) es) first at ms (suc k) = forms_at p line (n + size (Node q s f)) es first at ms k

pub same-forms : (p : ProgramTree) (order : List Line) (k : ℕ) →
    SameForm (line_of order) (tree_at p.forms k) (form_of (slice_get (normal_form p order).procs k))
same-forms p order k = forms_at p (line_of order) 0 p.forms 0 (size_all p.forms) p.lambdas k

-- the lambda expression of a number on both sides
pub data SameLambda (p : ProgramTree) (line : ℕ → Option (List ℕ)) (l : ℕ) : Option LambdaTree → Option ProcTree →
    Type 0 where
  no_lambda : SameLambda p line l None None
  same_lambda : (n : ℕ) (m : LambdaTree) → SameLambda p line l (Some m) (Some (lambda_proc p line l n m))

lambda_at : (p : ProgramTree) (line : ℕ → Option (List ℕ)) (first n : ℕ) (ms : List LambdaTree) (k l : ℕ) →
    l ≡ first + k → SameLambda p line l (slice_get ms k) (proc_of (lambda_procs p line first n ms) l)
lambda_at p line first n [] k l e = no_lambda
lambda_at p line first n (m ∷ ms) zero l e =
    let same : first ≡ l = omega arith in
    subst (λ z. SameLambda p line z (Some m) (proc_of (lambda_procs p line first n (m ∷ ms)) z)) same
    (rw (eq-eqb first first refl) (same_lambda n m))
lambda_at p line first n (m ∷ ms) (suc k) l e =
    let ne : first ≡ l → ⊥ = λ q. omega arith in
    rw (ne_eqb first l ne) (lambda_at p line (suc first) (n + size m.body) ms k l (omega arith))

pub same-lambdas : (p : ProgramTree) (order : List Line) (l : ℕ) →
    SameLambda p (line_of order) l (slice_get p.lambdas l) (proc_of (normal_form p order).procs l)
same-lambdas p order l =
    subst (SameLambda p (line_of order) l (slice_get p.lambdas l)) (sym (skip_forms p (line_of order) 0 p.forms _ l))
    (lambda_at p (line_of order) 0 (size_all p.forms) p.lambdas l l (omega arith))
