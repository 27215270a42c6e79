-- The steps of trees and of A-normal form are steps of the machine of values.
use Rattle.std.proofs.Common.{ℕ, true, false, List, [], ◌∷◌, Option, Some, None}
use Rattle.tb_prim.specs.declared.place.Place.{Place}
use Rattle.tb_prim.specs.declared.event.Event.{Event}
use Rattle.tb_core.specs.OperandOrder.{Line}
use Rattle.tb_core.specs.Store.{Value}
use Rattle.tb_ir.specs.Tree.{Tree, Node, Form, Quote, Local, Global, Lambda, If, NewCell, CellGet, CellSet, SetGlobal, DefGlobal, Let, Letrec, Seq, Call, Direct, PrimUse, Apply, Trees, none, more, ProgramTree}
use Rattle.tb_ir.specs.AnfTree as A
use Rattle.tb_ir.specs.AnfTree.{AnfTree}
use Rattle.tb_ir.specs.Machine.{Env}
use Rattle.tb_ir.specs.TreeMachine as T
use Rattle.tb_ir.specs.TreeMachine.{TreeWork, Sel, SetGlo, Rest, Args, Context, TreeConfig, TreeState, Frames}
use Rattle.tb_ir.specs.AnfMachine as N
use Rattle.tb_ir.specs.AnfMachine.{Code, InBlock, InOp, AnfWork, Binding, AnfConfig, AnfState, AnfFrames}
use Rattle.tb_ir.proofs.Steps as S
use Rattle.tb_ir.proofs.Steps.{Stepped, quiet, emits, stops, lost, OwnSteps}

module _ (x : Context) (c : TreeConfig) where
  sequence : (ds : Trees) (r : Env) (fs : Frames) (es : List Event) → Stepped c es (T.sequence x c ds r fs es)
  sequence none r fs es = lost
  sequence (more e none) r fs es = S.stays c _ fs es
  sequence (more e (more d ds)) r fs es = S.stays c _ _ es

  complete : (p : Place) (f : Form) (vs : List Value) (r : Env) (fs : Frames) (es : List Event) →
      Stepped c es (T.complete x c p f vs r fs es)
  complete p (NewCell e) (v ∷ []) r fs es = S.grows c _ fs _ es
  complete p (CellGet e) (v ∷ []) r fs es = S.get_cell c p v fs es
  complete p (CellSet d e) (v ∷ w ∷ []) r fs es = S.set_cell c v w fs es
  complete p (Call f ds) (v ∷ vs) r fs es = S.enter c p v vs fs es
  complete p (Direct l ds) vs r fs es = S.enter_lifted c l vs fs es
  complete p (Apply f l) (v ∷ w ∷ []) r fs es = S.apply c p v w fs es
  complete p (PrimUse q ds) vs r fs es = S.use_primitive c p q vs fs es
  complete p (Let xs ds e) vs r fs es = S.stays c _ fs es
  complete p _ vs r fs es = lost

  operand : (p : Place) (s : ℕ) (f : Form) (vs : List Value) (r : Env) (ns : List ℕ) (e : Option Tree) (fs : Frames)
      (es : List Event) → Stepped c es (T.operand x c p s f vs r ns e fs es)
  operand p s f vs r ns None fs es = lost
  operand p s f vs r ns (Some e) fs es = S.stays c _ _ es

  operands_left : (p : Place) (s : ℕ) (f : Form) (vs : List Value) (r : Env) (all ns : List ℕ) (fs : Frames)
      (es : List Event) → Stepped c es (T.operands_left x c p s f vs r all ns fs es)
  operands_left p s f vs r all [] fs es = complete p f _ r fs es
  operands_left p s f vs r all (n ∷ ns) fs es = operand p s f vs r ns _ fs es

  continue : (p : Place) (s : ℕ) (f : Form) (vs : List Value) (r : Env) (fs : Frames) (es : List Event) →
      Stepped c es (T.continue x c p s f vs r fs es)
  continue p s f vs r fs es = operands_left p s f vs r _ _ fs es

  eval_form : (p : Place) (s : ℕ) (f : Form) (r : Env) (es : List Event) → Stepped c es (T.eval_form x c p s f r es)
  eval_form p s (Quote k) r es = S.stays c _ _ es
  eval_form p s (Local y) r es = S.give_value c _ es
  eval_form p s (Global g) r es = S.read_value c p _ es
  eval_form p s (Lambda l) r es = S.grows c _ _ _ es
  eval_form p s (If a b d) r es = S.stays c _ _ es
  eval_form p s (SetGlobal g e) r es = S.stays c _ _ es
  eval_form p s (DefGlobal g e) r es = S.stays c _ _ es
  eval_form p s (Seq ds) r es = sequence ds r c.frames es
  eval_form p s (Letrec xs ls e) r es = S.grows c _ _ _ es
  eval_form p s (NewCell e) r es = continue p s (NewCell e) [] r c.frames es
  eval_form p s (CellGet e) r es = continue p s (CellGet e) [] r c.frames es
  eval_form p s (CellSet d e) r es = continue p s (CellSet d e) [] r c.frames es
  eval_form p s (Let xs ds e) r es = continue p s (Let xs ds e) [] r c.frames es
  eval_form p s (Call f ds) r es = continue p s (Call f ds) [] r c.frames es
  eval_form p s (Direct l ds) r es = continue p s (Direct l ds) [] r c.frames es
  eval_form p s (PrimUse q ds) r es = continue p s (PrimUse q ds) [] r c.frames es
  eval_form p s (Apply f l) r es = continue p s (Apply f l) [] r c.frames es

  evaluate : (e : Tree) (r : Env) (es : List Event) → Stepped c es (T.evaluate x c e r es)
  evaluate (Node p s f) r es = eval_form p s f r es

  give : (v : Value) (w : TreeWork) (fs : Frames) (es : List Event) → Stepped c es (T.give x c v w fs es)
  give v (Sel a b r) fs es = S.either c es _ (S.stays c _ fs es) (S.stays c _ fs es)
  give v (SetGlo g true p) fs es = S.assign_global c g v fs es
  give v (SetGlo g false p) fs es = S.set_global c g p v fs es
  give v (Rest ds r) fs es = sequence ds r fs es
  give v (Args p s f vs r) fs es = continue p s f _ r fs es

pub tree-steps : (p : ProgramTree) (order : List Line) → OwnSteps (T.language p order)
tree-steps p order = record {
  evaluates = λ c e r es. evaluate (T.context_of p order) c e r es;
  gives = λ c v w fs es. give (T.context_of p order) c v w fs es;
}

module _ (captured : ℕ → List ℕ) (c : AnfConfig) where
  with_value : (v : Option Value) (es : List Event) (k : Value → AnfState) → ((v : Value) → Stepped c es (k v)) →
      Stepped c es (N.with_value c v es k)
  with_value None es k h = lost
  with_value (Some v) es k h = h v

  with_values : (vs : Option (List Value)) (es : List Event) (k : List Value → AnfState) →
      ((vs : List Value) → Stepped c es (k vs)) → Stepped c es (N.with_values c vs es k)
  with_values None es k h = lost
  with_values (Some vs) es k h = h vs

  run_call : (p : Place) (es : List Event) (vs : List Value) → Stepped c es (N.run_call c p es vs)
  run_call p es (v ∷ vs) = S.enter c p v vs _ es
  run_call p es [] = lost

  run_apply : (p : Place) (es : List Event) (vs : List Value) → Stepped c es (N.run_apply c p es vs)
  run_apply p es (v ∷ w ∷ []) = S.apply c p v w _ es
  run_apply p es _ = lost

  run_cell_set : (es : List Event) (vs : List Value) → Stepped c es (N.run_cell_set c es vs)
  run_cell_set es (v ∷ w ∷ []) = S.set_cell c v w _ es
  run_cell_set es _ = lost

  run_branch : (v : Value) (b d : A.Block) (r : Env) (es : List Event) →
      Stepped c es (N.run_branch captured c v b d r es)
  run_branch v b d r es = S.either c es _ (S.stays c _ _ es) (S.stays c _ _ es)

  run_op : (op : A.Op) (r : Env) (es : List Event) → Stepped c es (N.run_op captured c op r es)
  run_op (A.Atom a) r es = S.give_value c _ es
  run_op (A.Global g p) r es = S.read_value c p _ es
  run_op (A.SetGlobal g a p) r es = with_value _ es _ (λ v. S.set_global c g p v _ es)
  run_op (A.DefGlobal g a) r es = with_value _ es _ (λ v. S.assign_global c g v _ es)
  run_op (A.PrimUse q ds p) r es = with_values _ es _ (λ vs. S.use_primitive c p q vs _ es)
  run_op (A.NewCell a) r es = with_value _ es _ (λ v. S.grows c _ _ _ es)
  run_op (A.CellGet a p) r es = with_value _ es _ (λ v. S.get_cell c p v _ es)
  run_op (A.CellSet a b) r es = with_values _ es _ (run_cell_set es)
  run_op (A.Close l) r es = S.grows c _ _ _ es
  run_op (A.Call f ds p) r es = with_values _ es _ (run_call p es)
  run_op (A.Direct l ds) r es = with_values _ es _ (λ vs. S.enter_lifted c l vs _ es)
  run_op (A.Apply f l p) r es = with_values _ es _ (run_apply p es)
  run_op (A.Branch a b d) r es = with_value (N.atom_value r a) es _ (λ v. run_branch v b d r es)

  run_block : (b : A.Block) (r : Env) (es : List Event) → Stepped c es (N.run_block captured c b r es)
  run_block (A.Bind x op b) r es = S.stays c _ _ es
  run_block (A.CloseAll xs ls b) r es = S.grows c _ _ _ es
  run_block (A.Tail op) r es = S.stays c _ _ es

  run_code : (e : Code) (r : Env) (es : List Event) → Stepped c es (N.evaluate captured c e r es)
  run_code (InBlock b) r es = run_block b r es
  run_code (InOp op) r es = run_op op r es

  give_block : (v : Value) (w : AnfWork) (fs : AnfFrames) (es : List Event) → Stepped c es (N.give captured c v w fs es)
  give_block v (Binding x b r) fs es = S.stays c _ fs es

pub anf-steps : (p : AnfTree) → OwnSteps (N.language p)
anf-steps p = record {
  evaluates = λ c e r es. run_code _ c e r es;
  gives = λ c v w fs es. give_block _ c v w fs es;
}
