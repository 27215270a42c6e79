-- The target goes from a block to its operation, and from a value to the block that awaits it.
use Rattle.std.proofs.Common.{◌≡◌, ap, ◌∙◌, subst, ℕ, ⊎_elim, false, List, [], ◌∷◌, ◌++◌}
use Rattle.tb_prim.specs.declared.event.Event.{Event}
use Rattle.tb_semantics.specs.Graph.{IsIn}
use Rattle.tb_core.specs.FreeVariables.{without}
use Rattle.tb_core.specs.OperandOrder.{Line}
use Rattle.tb_core.specs.Space.{values_locations}
use Rattle.tb_core.specs.Store.{Value}
use Rattle.tb_core.proofs.Members.{in-left, in-right, in-either}
use Rattle.tb_ir.specs.Tree.{Tree, ProgramTree}
use Rattle.tb_ir.specs.AnfTree as A
use Rattle.tb_ir.specs.AnfTree.{Operand, Block, Op}
use Rattle.tb_ir.specs.Machine as M
use Rattle.tb_ir.specs.Machine.{Env, Bind, Control, Eval, Val, Frame, Config, Running, gather, push, lookup}
use Rattle.tb_ir.specs.Space.{marks, control_locations, frames_locations}
use Rattle.tb_ir.specs.TreeMachine as T
use Rattle.tb_ir.specs.TreeMachine.{Frames, TreeWork, TreeState, env_values}
use Rattle.tb_ir.specs.AnfMachine as N
use Rattle.tb_ir.specs.AnfMachine.{Code, InBlock, InOp, AnfFrames, AnfState, Binding, free_block, free_op, free_of_atom, atom_value}
use Rattle.tb_anf.specs.NormalForm.{After, put}
use Rattle.tb_anf.proofs.Environments.{lookup-same, gather-sub, gather-bind}
use Rattle.tb_anf.proofs.Calls.{Calls}
use Rattle.tb_anf.proofs.Rel.{Awaits, awaits-more, Follows, at_end, then, waiting, framed}
use Rattle.tb_anf.proofs.Roots.{Held, Waits, gather-roots, frames-wait}
use Rattle.tb_anf.proofs.States as S
use Rattle.tb_anf.proofs.States.{Ground, at, Within, Related, Ready, Stored, source}

module _ (p : ProgramTree) (order : List Line) (taken : ℕ → List ℕ)
    (fewer : (l y : ℕ) → IsIn y (taken l) → IsIn y ((T.context_of p order).inner l)) where
  abbrev pub x : T.Context
  x = T.context_of p order

  -- what the source has, where it is about to do an operation of the target above these frames
  pub record Stands (m : Env) (j : Control Tree) (hs fs : Frames) (op : Op) : Type 0 where
    pub marked : marks fs ≡ marks hs
    pub frames : (l : ℕ) → IsIn l (frames_locations T.work_values fs) →
        IsIn l (control_locations j ++ frames_locations T.work_values hs)
    pub atoms : (y : ℕ) → IsIn y (free_op taken op) →
        Held m y (control_locations j ++ frames_locations T.work_values hs)

  op_within : (m r : Env) (j : Control Tree) (hs fs : Frames) (ts : AnfFrames) (op : Op) → Stands m j hs fs op →
      r ≡ gather (free_op taken op) m → Waits fs ts → Within (Eval (InOp op) r) ts j hs
  op_within m r j hs fs ts op s e w = record {
    marked = w.marked ∙ s.marked;
    roots = λ l i. ⊎_elim
        (λ z. let n = gather-roots (free_op taken op) m l (subst (λ u. IsIn l (values_locations (env_values u))) e z) in
        s.atoms n.0 n.2 n.1 n.3 l n.4)
        (λ z. s.frames l (w.roots l z))
        (in-either l (values_locations (env_values r)) _ i);
  }

  -- the target goes to the operation of a block
  pub put-runs : (h : Ground) (m r : Env) (j : Control Tree) (hs fs : Frames) (ts : AnfFrames) (k : After)
      (needed : List ℕ) (es : List Event) (op : Op) → Follows x (Calls p) taken m fs k ts needed →
      Ready p order taken m (at h j hs) es fs op (M.step (T.language p order) (Running (at h j hs) es)) →
      Stands m j hs fs op → r ≡ gather (free_block taken (put k op)) m → Stored x (Calls p) h.store →
      Related p order taken (N.run_block taken (at h (Eval (InBlock (put k op)) r) ts) (put k op) r es)
      (Running (at h j hs) es)
  put-runs h m r j hs fs ts _ needed es op (at_end f) rd s e st =
      let cut = ap (gather (free_op taken op)) e ∙ gather-sub (free_op taken op) (free_op taken op) m (λ y i. i) in
      S.runs h m _ j hs op rd (op_within m _ j hs fs ts op s cut (frames-wait x (Calls p) taken fewer f)) cut f st
  put-runs h m r j hs _ ts _ needed es op (then {y = z} {w = w} {b = b} {fs = fs} a out) rd s e st =
      let mine = free_op taken op in
      let later = without (z ∷ []) (free_block taken b) in
      let cut = ap (gather mine) e ∙ gather-sub mine (mine ++ later) m (λ y i. in-left y mine later i) in
      let rest = ap (gather later) e ∙ gather-sub later (mine ++ later) m (λ y i. in-right y mine later i) in
      let f = waiting false a out rest in
      S.runs h m _ j hs op rd (op_within m _ j hs _ _ op s cut (frames-wait x (Calls p) taken fewer f)) cut f st

  -- a value is given to the block that awaits it
  pub given : (h : Ground) (m r : Env) (z : ℕ) (w : TreeWork) (b : Block) (needed : List ℕ) (fs : Frames)
      (ts : AnfFrames) (v : Value) (es : List Event) → Awaits x (Calls p) taken m (A.Var z) w fs b ts needed →
      (IsIn z needed → ⊥) → r ≡ gather (without (z ∷ []) (free_block taken b)) m → Stored x (Calls p) h.store →
      Related p order taken
      (N.give taken (at h (Val v) (framed false (Binding z b r) ∷ ts)) v (Binding z b r) ts es)
      (Running (at h (Val v) (push w fs)) es)
  given h m r z w b needed fs ts v es a out e st =
      S.gives h v (A.Var z) (Bind z v m) _ w b needed (awaits-more x (Calls p) taken z v out a) (lookup-same z v m)
      (ap (λ u. gather (free_block taken b) (Bind z v u)) e ∙ gather-bind z v (free_block taken b) m) st
