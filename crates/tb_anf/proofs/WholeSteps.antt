-- The step theorem: related states move on to related states.
use Rattle.std.proofs.Common.{◌≡◌, refl, sym, subst, ℕ, ◌++◌, ◌<◌, inl, inr, arith, List, Some}
use Rattle.tb_prim.specs.declared.event.Event.{Event}
use Rattle.tb_semantics.specs.Graph.{IsIn}
use Rattle.tb_semantics.proofs.Simulation as Sim
use Rattle.tb_core.specs.FreeVariables.{without}
use Rattle.tb_core.specs.OperandOrder.{Line}
use Rattle.tb_ir.specs.Tree.{Tree, Node, Form, Quote, Local, Global, Lambda, If, NewCell, CellGet, CellSet, SetGlobal, DefGlobal, Let, Letrec, Seq, Call, Direct, PrimUse, Apply, tree_at, LambdaTree, ProgramTree}
use Rattle.tb_ir.specs.FreeVariables.{free, inner_free, parameters, added_to}
use Rattle.tb_ir.specs.AnfTree.{Operand}
use Rattle.tb_ir.specs.Machine as M
use Rattle.tb_ir.specs.Machine.{Env, Eval, Running, gather, push}
use Rattle.tb_ir.specs.Rules.{IsLambda}
use Rattle.tb_ir.specs.TreeMachine as T
use Rattle.tb_ir.specs.TreeMachine.{Frames, TreeWork, TreeState, line_of}
use Rattle.tb_ir.specs.AnfMachine.{InBlock, AnfFrames, AnfState, free_block}
use Rattle.tb_anf.specs.NormalForm.{After, block_of}
use Rattle.tb_anf.proofs.Advance.{Simple, constant, variable}
use Rattle.tb_anf.proofs.Calls.{Calls, Grounded}
use Rattle.tb_anf.proofs.Enters.{enters-moves}
use Rattle.tb_anf.proofs.Environments.{Named}
use Rattle.tb_anf.proofs.Evaluates.{evaluates-quote, evaluates-local, evaluates-global, evaluates-lambda, evaluates-if, evaluates-set, evaluates-definition, evaluates-sequence}
use Rattle.tb_anf.proofs.Gives.{gives-moves}
use Rattle.tb_anf.proofs.Groups.{evaluates-letrec}
use Rattle.tb_anf.proofs.Moves.{runs-moves, bound-moves, reads-next, returns-moves}
use Rattle.tb_anf.proofs.Names.{names, names_form, AreNew, Sound, SoundForm}
use Rattle.tb_anf.proofs.OperandMoves.{evaluates-operands}
use Rattle.tb_anf.proofs.Parts.{form-sound}
use Rattle.tb_anf.proofs.Rel.{Follows}
use Rattle.tb_anf.proofs.States as S
use Rattle.tb_anf.proofs.States.{Ground, at, Related, Stored}
use Rattle.tb_anf.proofs.Turns.{taken, Turns}
use Rattle.tb_anf.proofs.Weights.{state_weight}

module _ (p : ProgramTree) (order : List Line) (input : List ℕ) where
  abbrev x : T.Context
  x = T.context_of p order

  abbrev mine : ℕ → List ℕ
  mine = taken p order input

  pub evaluates : (h : Ground) (q m r : Env) (k : After) (needed : List ℕ) (fs : Frames) (ts : AnfFrames)
      (es : List Event) (n : ℕ) (e : Tree) → Follows x (Calls p) mine m fs k ts needed → Stored x (Calls p) h.store →
      Sound x (Calls p) n e → AreNew (names n e) needed → Named (free x.inner e) q m →
      r ≡ gather (free_block mine (block_of x.line n e k)) m →
      Turns p order input (Running (at h (Eval (InBlock (block_of x.line n e k)) r) ts) es)
      (Running (at h (Eval e q) fs) es)
  evaluates h q m r k needed fs ts es n (Node u s f) fo st so nw nm eq =
      by f (form-sound x (Calls p) n u s f so) (λ y i. nw y (inr i)) nm eq
    where
      by : (f : Form) → SoundForm x (Calls p) n s f → AreNew (names_form n f) needed →
          Named (free x.inner (Node u s f)) q m →
          r ≡ gather (free_block mine (block_of x.line n (Node u s f) k)) m →
          Turns p order input (Running (at h (Eval (InBlock (block_of x.line n (Node u s f) k)) r) ts) es)
          (Running (at h (Eval (Node u s f) q) fs) es)
      by (Quote c) so nw nm eq = evaluates-quote p order input h q m r k needed fs ts es fo st n u s c nm eq
      by (Local y) so nw nm eq = evaluates-local p order input h q m r k needed fs ts es fo st n u s y nm eq
      by (Global g) so nw nm eq = evaluates-global p order input h q m r k needed fs ts es fo st n u s g nm eq
      by (Lambda l) so nw nm eq = evaluates-lambda p order input h q m r k needed fs ts es fo st n u s l so nm eq
      by (If a b c) so nw nm eq = evaluates-if p order input h q m r k needed fs ts es fo st n u s a b c so nw nm eq
      by (SetGlobal g e) so nw nm eq = evaluates-set p order input h q m r k needed fs ts es fo st n u s g e so nw nm eq
      by (DefGlobal g e) so nw nm eq =
          evaluates-definition p order input h q m r k needed fs ts es fo st n u s g e so nw nm eq
      by (Letrec xs ls e) so nw nm eq =
          evaluates-letrec p order input h q m r k needed fs ts es n u s xs ls e fo st so nw nm eq
      by (Seq ds) so nw nm eq = evaluates-sequence p order input h q m r k needed fs ts es fo st n u s ds so nw nm eq
      by (NewCell e) so nw nm eq =
          evaluates-operands p order input h q m r k needed fs ts es n u s (NewCell e) fo st refl so nw nm eq
      by (CellGet e) so nw nm eq =
          evaluates-operands p order input h q m r k needed fs ts es n u s (CellGet e) fo st refl so nw nm eq
      by (CellSet c e) so nw nm eq =
          evaluates-operands p order input h q m r k needed fs ts es n u s (CellSet c e) fo st refl so nw nm eq
      by (Let xs ds e) so nw nm eq =
          evaluates-operands p order input h q m r k needed fs ts es n u s (Let xs ds e) fo st refl so nw nm eq
      by (Call c ds) so nw nm eq =
          evaluates-operands p order input h q m r k needed fs ts es n u s (Call c ds) fo st refl so nw nm eq
      by (Direct l ds) so nw nm eq =
          evaluates-operands p order input h q m r k needed fs ts es n u s (Direct l ds) fo st refl so nw nm eq
      by (PrimUse g ds) so nw nm eq =
          evaluates-operands p order input h q m r k needed fs ts es n u s (PrimUse g ds) fo st refl so nw nm eq
      by (Apply c l) so nw nm eq =
          evaluates-operands p order input h q m r k needed fs ts es n u s (Apply c l) fo st refl so nw nm eq

  -- an atom weighs one
  reads-weight : (h : Ground) (e : Tree) (a : Operand) (q m : Env) (w : TreeWork) (fs : Frames) (es : List Event) →
      Simple e a → Named (free x.inner e) q m →
      state_weight (line_of order) (M.step (T.language p order) (Running (at h (Eval e q) (push w fs)) es)) <
      state_weight (line_of order) (Running (at h (Eval e q) (push w fs)) es)
  reads-weight h _ _ q m w fs es (constant c) nm = omega arith
  reads-weight h _ _ q m w fs es (variable {p = u} {s = s} y) nm =
      let k = nm.has y (inl refl) in
      subst (λ o. state_weight (line_of order) (M.give_value (at h (Eval (Node u s (Local y)) q) (push w fs)) o es) <
      state_weight (line_of order) (Running (at h (Eval (Node u s (Local y)) q) (push w fs)) es)) (sym k.1)
      (omega arith)

  module _ (bodies : (l : ℕ) (m : LambdaTree) → IsLambda p l m → Grounded p l → (n : ℕ) → Sound x (Calls p) n m.body)
      (inner : (l : ℕ) (m : LambdaTree) → IsLambda p l m →
      inner_free p l ≡ without (parameters m ++ added_to p.set l) (free (inner_free p) m.body))
      (sound : (k n : ℕ) (e : Tree) → tree_at p.forms k ≡ Some e → Sound x (Calls p) n e)
      (closed : (k : ℕ) (e : Tree) → tree_at p.forms k ≡ Some e → (y : ℕ) → IsIn y (free x.inner e) → ⊥) where
    pub turns : (t : AnfState) (s : TreeState) → Related p order mine t s → Turns p order input t s
    turns _ _ (S.evals h n e q m r k needed {fs = fs} {ts = ts} {es = es} f so nw nm eq st) =
        evaluates h q m r k needed fs ts es n e f st so nw nm eq
    turns _ _ (S.reads h e a q m r w b needed {fs = fs} {ts = ts} {es = es} si aw nm eq st) =
        Sim.source_moves
        (reads-next p order input (state_weight (line_of order)) h e a q m r w b needed fs ts es si aw nm eq st)
        (reads-weight h e a q m w fs es si nm)
    turns _ _ (S.gives h v a m r w b needed {fs = fs} {ts = ts} {es = es} aw va eq st) =
        gives-moves p order input h v a m r w b needed fs ts es aw va eq st
    turns _ _ (S.runs h m r j hs op {fs = fs} {ts = ts} {es = es} rd wi eq f st) =
        runs-moves p order input (state_weight (line_of order)) h m r j hs op fs ts es rd wi eq f st
    turns _ _ (S.returns h v {fs = fs} {ts = ts} {es = es} f st) =
        returns-moves p order input (state_weight (line_of order)) sound closed h v fs ts es f st
    turns _ _ (S.enters h callee vs may {fs = fs} {ts = ts} {es = es} f st) =
        enters-moves p order input bodies inner h callee vs fs ts es f st may
    turns _ _ (S.bound h n e q m r k needed {fs = fs} {ts = ts} {es = es} f so nw nm eq st wi) =
        bound-moves p order input (state_weight (line_of order)) h n e q m r k needed fs ts es f so nw nm eq st
    turns _ _ (S.stopped h k j wi) = Sim.both_move (S.stopped h k j wi)
    turns _ _ (S.lost h k j wi) = Sim.both_move (S.lost h k j wi)
