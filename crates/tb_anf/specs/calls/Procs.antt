-- The procs of lambda expressions by the tables of a program.
use Rattle.std.specs.Prelude.{◌≡◌, map, ℕ, suc, ◌+◌, ◌++◌, List, [], ◌∷◌, Option, Some, nat_eq, is_some}
use Rattle.indexmap.specs.IndexMap.{get}
use Rattle.tb_ir.specs.AnfPlain.{view_proc}
use Rattle.tb_ir.specs.AnfTree.{ProcTree}
use Rattle.tb_ir.specs.FreeVariables.{parameters}
use Rattle.tb_ir.specs.Tree.{LambdaTree, Trees}
use Rattle.tb_anf.specs.NormalForm.{AtEnd, size, size_all, block_of, form_procs, has_rest}
use Rattle.tb_anf.specs.calls.Captures.{added_in, row_at}
use Rattle.tb_ir.specs.declared.anf.AnfProc.{AnfProc}
use Rattle.tb_anf.specs.calls.Lines.{line_at}
use Rattle.tb_anf.specs.declared.lines.Walk.{Walk}
use Rattle.tb_anf.specs.declared.normal.Tables.{Tables}

-- the proc of the lambda expression of this number, whose body is node n
abbrev pub proc_by : (ℕ → Option (List ℕ)) → Tables → ℕ → ℕ → LambdaTree → ProcTree
proc_by line t l n m = record {
  lambda = Some l;
  lifted = is_some (get nat_eq t.index.now l);
  place = m.place;
  params = parameters m ++ added_in t.set.now (get nat_eq t.index.now l);
  rest = has_rest m.rest;
  captured = row_at t.rows.now l;
  body = block_of line n m.body AtEnd;
}

abbrev pub procs_by : (ℕ → Option (List ℕ)) → Tables → ℕ → ℕ → List LambdaTree → List ProcTree
procs_by line t l n [] = []
procs_by line t l n (m ∷ ms) = proc_by line t l n m ∷ procs_by line t (suc l) (n + size m.body) ms

-- the procs of these forms, and then those of the lambda expressions
abbrev pub all_by : (ℕ → Option (List ℕ)) → Tables → Trees → List LambdaTree → List ProcTree
all_by line t es ms = form_procs line 0 es ++ procs_by line t 0 (size_all es) ms

-- the procs that a walk makes of forms and lambda expressions
pub record AreMade (w : Walk) (t : Tables) (es : Trees) (ms : List LambdaTree) (procs : List AnfProc) : Type 0 where
  pub are : map view_proc procs ≡ all_by (line_at w) t es ms
