-- The procs that are made by the tables of a program are those of its A-normal form.
use Rattle.std.proofs.Common.{◌≡◌, refl, ap, ◌∙◌, ℕ, suc, ◌+◌, Bool, List, [], ◌∷◌, ◌++◌, map, Option, Some, nat_eq, is_some, append_assoc}
use Rattle.std.proofs.Math.Path.{fun_ext}
use Rattle.indexmap.specs.IndexMap.{get}
use Rattle.tb_core.specs.OperandOrder.{Line}
use Rattle.tb_core.specs.Tree.{option_list}
use Rattle.tb_ir.specs.AnfTree.{ProcTree}
use Rattle.tb_ir.specs.FreeVariables.{parameters, added_to, captured}
use Rattle.tb_ir.specs.AnfPlain.{view_proc}
use Rattle.tb_ir.specs.Tree.{LambdaTree, ProgramTree, Trees}
use Rattle.tb_ir.specs.declared.anf.AnfProc.{AnfProc}
use Rattle.tb_ir.specs.TreeMachine.{line_of}
use Rattle.tb_anf.specs.NormalForm.{AtEnd, size, size_all, block_of, has_rest, is_lifted, form_procs, lambda_proc, lambda_procs, normal_form}
use Rattle.tb_anf.specs.calls.Captures.{added_in, row_at}
use Rattle.tb_anf.specs.calls.Procs.{proc_by, procs_by, all_by, AreMade}
use Rattle.tb_anf.specs.calls.Lines.{line_at}
use Rattle.tb_anf.specs.declared.lines.Walk.{Walk}
use Rattle.tb_anf.specs.declared.normal.Tables.{Tables}

module _ (p : ProgramTree) (t : Tables) (added : (l : ℕ) → added_in t.set.now (get nat_eq t.index.now l) ≡ added_to p.set l)
    (lifted : (l : ℕ) → is_some (get nat_eq t.index.now l) ≡ is_lifted p l) (known : (l : ℕ) → row_at t.rows.now l ≡ captured p l)
    (line : ℕ → Option (List ℕ)) where
  made : ℕ → ℕ → LambdaTree → Bool → List ℕ → List ℕ → ProcTree
  made l n m is params own = record {
    lambda = Some l;
    lifted = is;
    place = m.place;
    params = params;
    rest = has_rest m.rest;
    captured = own;
    body = block_of line n m.body AtEnd;
  }

  one_same : (l n : ℕ) (m : LambdaTree) → proc_by line t l n m ≡ lambda_proc p line l n m
  unfolding made
  one_same l n m =
      ap (λ b. made l n m b (parameters m ++ added_in t.set.now (get nat_eq t.index.now l)) (row_at t.rows.now l)) (lifted l)
      ∙ ap (λ xs. made l n m (is_lifted p l) xs (row_at t.rows.now l)) (ap (λ ys. parameters m ++ ys) (added l) ∙ append_assoc m.formals (option_list m.rest) (added_to p.set l))
      ∙ ap (λ ys. made l n m (is_lifted p l) (m.formals ++ (option_list m.rest ++ added_to p.set l)) ys) (known l)

  pub procs-same : (l n : ℕ) (ms : List LambdaTree) → procs_by line t l n ms ≡ lambda_procs p line l n ms
  procs-same l n [] = refl
  procs-same l n (m ∷ ms) =
      ap (λ q. q ∷ procs_by line t (suc l) (n + size m.body) ms) (one_same l n m)
      ∙ ap (λ qs. lambda_proc p line l n m ∷ qs) (procs-same (suc l) (n + size m.body) ms)

  pub all-same : (order : List Line) → ((s : ℕ) → line s ≡ line_of order s) → all_by line t p.forms p.lambdas ≡ (normal_form p order).procs
  all-same order h =
      ap (λ qs. form_procs line 0 p.forms ++ qs) (procs-same 0 (size_all p.forms) p.lambdas)
      ∙ ap (λ g. form_procs g 0 p.forms ++ lambda_procs p g 0 (size_all p.forms) p.lambdas) (fun_ext h)

pub made-normal : (p : ProgramTree) (order : List Line) (w : Walk) (t : Tables) (es : Trees) (ms : List LambdaTree) (procs : List AnfProc) → AreMade w t es ms procs →
    es ≡ p.forms → ms ≡ p.lambdas → ((s : ℕ) → line_at w s ≡ line_of order s) →
    ((l : ℕ) → added_in t.set.now (get nat_eq t.index.now l) ≡ added_to p.set l) → ((l : ℕ) → is_some (get nat_eq t.index.now l) ≡ is_lifted p l) →
    ((l : ℕ) → row_at t.rows.now l ≡ captured p l) → map view_proc procs ≡ (normal_form p order).procs
made-normal p order w t es ms procs h e f lines added lifted known =
    h.are ∙ ap (λ ds. all_by (line_at w) t ds ms) e ∙ ap (λ ks. all_by (line_at w) t p.forms ks) f
    ∙ all-same p t added lifted known (line_at w) order lines
