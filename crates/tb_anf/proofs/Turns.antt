-- Moves of related states: the target goes to an operation, or the source goes on by itself.
use Rattle.std.proofs.Common.{◌≡◌, refl, sym, subst, ℕ, ◌<◌, arith, List}
use Rattle.tb_prim.specs.declared.event.Event.{Event}
use Rattle.tb_semantics.specs.Graph.{IsIn}
use Rattle.tb_semantics.proofs.Simulation as Sim
use Rattle.tb_core.specs.OperandOrder.{Line}
use Rattle.tb_ir.specs.Tree.{Tree, ProgramTree}
use Rattle.tb_ir.specs.AnfTree.{Block, Op}
use Rattle.tb_ir.specs.Machine as M
use Rattle.tb_ir.specs.Machine.{Env, Control, Eval, Running, gather}
use Rattle.tb_ir.specs.Measures.{tree_measured, anf_measured}
use Rattle.tb_ir.specs.TreeMachine as T
use Rattle.tb_ir.specs.TreeMachine.{Frames, TreeWork, TreeState, line_of}
use Rattle.tb_ir.specs.AnfMachine as N
use Rattle.tb_ir.specs.AnfMachine.{InBlock, AnfFrames, AnfState, captured_by, proc_of, free_block}
use Rattle.tb_anf.specs.NormalForm.{After, AtEnd, Then, put, atom, value_name, bound, normal_form}
use Rattle.tb_anf.proofs.Advance.{Begins, into, reads, Kind, stays, binds, kind, own_name}
use Rattle.tb_anf.proofs.Blocks.{Stands, put-runs}
use Rattle.tb_anf.proofs.Calls.{Calls}
use Rattle.tb_anf.proofs.Moves.{pending}
use Rattle.tb_anf.proofs.Names.{names, AreNew, Sound}
use Rattle.tb_anf.proofs.Procs.{captured-free, same-captured}
use Rattle.tb_anf.proofs.Rel.{Awaits, Follows}
use Rattle.tb_anf.proofs.States.{Ground, at, Related, Ready, Stored}
use Rattle.tb_anf.proofs.Weights.{state_weight}

-- an operand before a block: its own block, or nothing where it is an atom
pub begins-bound : (x : T.Context) (calls : _) (taken : ℕ → List ℕ) (m : Env) (n : ℕ) (e : Tree) (w : TreeWork)
    (fs : Frames) (b : Block) (ts : AnfFrames) (needed : List ℕ) → Sound x calls n e → AreNew (names n e) needed →
    Awaits x calls taken m (atom n e) w fs b ts needed →
    Begins x calls taken m e w fs (bound x.line n e b) ts
begins-bound x calls taken m n e w fs b ts needed so nw aw = by (kind x.line n e)
  where
    by : Kind x.line n e → Begins x calls taken m e w fs (bound x.line n e b) ts
    by (stays si g) = subst (λ z. Begins x calls taken m e w fs z ts) (sym (g b)) (reads si aw)
    by (binds a g) =
        subst (λ z. Begins x calls taken m e w fs z ts) (sym (g b))
        (into n (value_name n) so nw (subst (λ z. Awaits x calls taken m z w fs b ts needed) a aw)
        (nw (value_name n) (own_name n e)))

module _ (p : ProgramTree) (order : List Line) (input : List ℕ) where
  abbrev pub taken : ℕ → List ℕ
  taken l = captured_by (proc_of (normal_form p order).procs l)

  abbrev pub Turns : AnfState → TreeState → Type 0
  Turns t s = Sim.Moves (anf_measured (normal_form p order) input) (tree_measured p order input)
      (Related p order taken) pending (state_weight (line_of order)) t s

  pub fewer : (l y : ℕ) → IsIn y (taken l) → IsIn y ((T.context_of p order).inner l)
  fewer l y i = captured-free p l y (subst (IsIn y) (same-captured p order l) i)

  -- nothing is left for the target alone once it is at an operation
  pub put_pending : (c : N.AnfConfig) (k : After) (op : Op) (r : Env) (es : List Event) →
      pending (N.run_block taken c (put k op) r es) ≡ 0
  put_pending c AtEnd op r es = refl
  put_pending c (Then y b) op r es = refl

  -- the target goes from a block to its operation
  pub put-moves : (h : Ground) (m r : Env) (j : Control Tree) (hs fs : Frames) (ts : AnfFrames) (k : After)
      (needed : List ℕ) (es : List Event) (op : Op) → Follows (T.context_of p order) (Calls p) taken m fs k ts needed →
      Ready p order taken m (at h j hs) es fs op (M.step (T.language p order) (Running (at h j hs) es)) →
      Stands p order taken fewer m j hs fs op → r ≡ gather (free_block taken (put k op)) m →
      Stored (T.context_of p order) (Calls p) h.store →
      Turns (Running (at h (Eval (InBlock (put k op)) r) ts) es) (Running (at h j hs) es)
  put-moves h m r j hs fs ts k needed es op f rd s e st =
      let z = put_pending (at h (Eval (InBlock (put k op)) r) ts) k op r es in
      Sim.target_moves (put-runs p order taken fewer h m r j hs fs ts k needed es op f rd s e st) (omega arith)

  -- the source goes on by itself
  pub source-goes : (t : AnfState) (s z : TreeState) → M.step (T.language p order) s ≡ z → Related p order taken t z →
      state_weight (line_of order) z < state_weight (line_of order) s → Turns t s
  source-goes t s z e r lt =
      Sim.source_moves (subst (Related p order taken t) (sym e) r)
      (subst (λ u. state_weight (line_of order) u < state_weight (line_of order) s) (sym e) lt)
