-- How related states move on: operations, values that are given, and forms.
use Rattle.std.proofs.Common.{◌≡◌, refl, subst, ℕ, suc, arith, true, false, List, [], ◌∷◌, Option, Some, sym, inl}
use Rattle.tb_prim.specs.declared.event.Event.{Event}
use Rattle.tb_semantics.specs.Graph.{IsIn}
use Rattle.tb_semantics.proofs.Simulation as Sim
use Rattle.tb_core.specs.OperandOrder.{Line}
use Rattle.tb_core.specs.Store.{Value}
use Rattle.tb_ir.specs.Tree.{Tree, ProgramTree, tree_at, Node, Local}
use Rattle.tb_ir.specs.FreeVariables.{free}
use Rattle.tb_ir.specs.Machine as M
use Rattle.tb_ir.specs.Machine.{Env, Empty, Control, Eval, Bound, Val, Entering, Frame, Running, Stopped, Lost, gather}
use Rattle.tb_ir.specs.Measures.{tree_measured, anf_measured}
use Rattle.tb_ir.specs.TreeMachine as T
use Rattle.tb_ir.specs.TreeMachine.{Frames, TreeState, line_of}
use Rattle.tb_ir.specs.AnfMachine as N
use Rattle.tb_ir.specs.AnfMachine.{Code, InBlock, InOp, AnfFrames, AnfState, captured_by, proc_of, free_block, form_of}
use Rattle.tb_anf.specs.NormalForm.{AtEnd, normal_form, After, block_of}
use Rattle.tb_anf.proofs.Blocks.{given}
use Rattle.tb_anf.proofs.Calls.{Calls}
use Rattle.tb_anf.proofs.Names.{Sound, names, AreNew}
use Rattle.tb_anf.proofs.Procs.{captured-free, same-captured, same-forms, SameForm, no_form, same_form}
use Rattle.tb_anf.proofs.Rel.{FramesRel, top, waiting, at_end, Awaits, Follows}
use Rattle.tb_anf.proofs.States as S
use Rattle.tb_anf.proofs.States.{Ground, at, Within, Related, Stored, run-op}
use Rattle.tb_ir.specs.AnfTree.{Operand, Block}
use Rattle.tb_anf.proofs.Environments.{Named, named-gather}
use Rattle.tb_anf.proofs.Advance.{Simple, constant, variable}

-- what is left of steps that the target takes by itself
abbrev pub pending_control : Control Code → ℕ
pending_control (Eval (InBlock b) r) = 1
pending_control (Eval (InOp op) r) = 0
pending_control (Bound e r) = 0
pending_control (Val v) = 2
pending_control (Entering callee vs) = 0

abbrev pub pending : AnfState → ℕ
pending (Running c es) = pending_control c.control
pending (Stopped c es) = 0
pending (Lost c es) = 0

module _ (p : ProgramTree) (order : List Line) (input : List ℕ) (size_s : TreeState → ℕ) where
  abbrev pub taken : ℕ → List ℕ
  taken l = captured_by (proc_of (normal_form p order).procs l)

  abbrev pub Moves : AnfState → TreeState → Type 0
  Moves t s = Sim.Moves (anf_measured (normal_form p order) input) (tree_measured p order input)
      (Related p order taken) pending size_s t s

  pub fewer : (l y : ℕ) → IsIn y (taken l) → IsIn y ((T.context_of p order).inner l)
  fewer l y i = captured-free p l y (subst (IsIn y) (same-captured p order l) i)

  -- an operation
  pub runs-moves : (h : Ground) (m r : Env) (j : Control Tree) (hs : Frames) (op : _) (fs : Frames) (ts : AnfFrames)
      (es : List Event) →
      S.Ready p order taken m (at h j hs) es fs op (M.step (T.language p order) (Running (at h j hs) es)) →
      Within (Eval (InOp op) r) ts j hs → r ≡ gather (N.free_op taken op) m →
      FramesRel (T.context_of p order) (Calls p) taken fs ts → Stored (T.context_of p order) (Calls p) h.store →
      Moves (Running (at h (Eval (InOp op) r) ts) es) (Running (at h j hs) es)
  runs-moves h m r j hs op fs ts es rd wi e f st =
      Sim.both_move (run-op p order taken (same-captured p order) h m r j hs fs ts es op _ rd wi e f st)

  -- the body behind procedures that name one another
  pub bound-moves : (h : Ground) (n : ℕ) (e : Tree) (q m r : Env) (k : After) (needed : List ℕ) (fs : Frames)
      (ts : AnfFrames) (es : List Event) → Follows (T.context_of p order) (Calls p) taken m fs k ts needed →
      Sound (T.context_of p order) (Calls p) n e → AreNew (names n e) needed →
      Named (free (T.context_of p order).inner e) q m →
      gather (free_block taken (block_of (line_of order) n e k)) r ≡ gather (free_block taken (block_of
      (line_of order) n e k)) m →
      Stored (T.context_of p order) (Calls p) h.store →
      Moves (Running (at h (Bound (InBlock (block_of (line_of order) n e k)) r) ts) es) (Running (at h
      (Bound e q) fs) es)
  bound-moves h n e q m r k needed fs ts es f so nw nm eq st =
      Sim.both_move (S.evals h n e _ m _ k needed f so nw
      (named-gather (free (T.context_of p order).inner e) (λ y i. i) nm) eq st)

  -- the source reads an atom, and the target waits
  pub reads-next : (h : Ground) (e : Tree) (a : Operand) (q m r : Env) (w : T.TreeWork) (b : Block) (needed : List ℕ)
      (fs : Frames) (ts : AnfFrames) (es : List Event) → Simple e a →
      Awaits (T.context_of p order) (Calls p) taken m a w fs b ts needed →
      Named (free (T.context_of p order).inner e) q m →
      r ≡ gather (free_block taken b) m → Stored (T.context_of p order) (Calls p) h.store →
      Related p order taken (Running (at h (Eval (InBlock b) r) ts) es)
      (M.step (T.language p order) (Running (at h (Eval e q) (M.push w fs)) es))
  reads-next h _ _ q m r w b needed fs ts es (constant c) aw nm eq st = S.gives h _ _ m r w b needed aw refl eq st
  reads-next h _ _ q m r w b needed fs ts es (variable {p = u} {s = s} y) aw nm eq st =
      let k = nm.has y (inl refl) in
      subst (λ o. Related p order taken (Running (at h (Eval (InBlock b) r) ts) es)
      (M.give_value (at h (Eval (Node u s (Local y)) q) (M.push w fs)) o es)) (sym k.1)
      (S.gives h k.0 _ m r w b needed aw k.2 eq st)

  -- forms, where each is sound wherever its numbers begin, and names nothing
  module _ (sound : (k n : ℕ) (e : Tree) → tree_at p.forms k ≡ Some e → Sound (T.context_of p order) (Calls p) n e)
      (closed : (k : ℕ) (e : Tree) → tree_at p.forms k ≡ Some e → (y : ℕ) →
      IsIn y (free (T.context_of p order).inner e) → ⊥) where
    next_form : (h : Ground) (v : Value) (k : ℕ) (es : List Event) (o : Option Tree) (o' : Option Code) →
        tree_at p.forms k ≡ o → SameForm (line_of order) o o' → Stored (T.context_of p order) (Calls p) h.store →
        Related p order taken
        (M.top (N.language (normal_form p order))
        (at h (Val v) (record { marked = false; work = M.Top k } ∷ [])) k o' [] es)
        (M.top (T.language p order) (at h (Val v) (record { marked = false; work = M.Top k } ∷ [])) k o [] es)
    next_form h v k es _ _ e no_form st =
        S.stopped h (Val v) (Val v) (record { marked = refl; roots = λ l i. i })
    next_form h v k es _ _ e (same_form n d) st =
        S.evals h n d _ Empty _ AtEnd [] (at_end (top false (suc k))) (sound k n d e) (λ y i j. j)
        (record { has = λ y i. absurd (closed k d e y i) }) refl st

    -- a value is given
    pub returns-moves : (h : Ground) (v : Value) (fs : Frames) (ts : AnfFrames) (es : List Event) →
        FramesRel (T.context_of p order) (Calls p) taken fs ts → Stored (T.context_of p order) (Calls p) h.store →
        Moves (Running (at h (Val v) ts) es) (Running (at h (Val v) fs) es)
    returns-moves h v _ _ es (top true k) st = Sim.both_move (S.returns h v (top false k) st)
    returns-moves h v _ _ es (top false k) st =
        Sim.both_move (next_form h v k es (tree_at p.forms k) _ refl (same-forms p order k) st)
    returns-moves h v _ _ es (waiting true a out e) st = Sim.both_move (S.returns h v (waiting false a out e) st)
    returns-moves h v _ _ es
        (waiting false {m = m} {r = r} {y = y} {w = w} {b = b} {fs = fs} {ts = ts} {needed = needed} a out e) st =
        Sim.target_moves (given p order taken fewer h m r y w b needed fs ts v es a out e st) (omega arith)
