-- Related states have the same events, the target holds no more at once, and both have made the same.
use Rattle.std.proofs.Common.{◌≡◌, refl, subst, ℕ, zero, suc, ◌<◌, ◌≤◌, ⊎_elim, arith, List, [], ◌∷◌, ◌++◌, length, slice_get}
use Rattle.tb_prim.specs.declared.event.Event.{Event}
use Rattle.tb_semantics.specs.Graph.{IsIn, root, below, total}
use Rattle.tb_semantics.proofs.Reachable.{total-more}
use Rattle.tb_semantics.proofs.Simulation.{Alike}
use Rattle.tb_core.specs.OperandOrder.{Line}
use Rattle.tb_core.specs.Space.{values_locations}
use Rattle.tb_core.proofs.Members.{in-left, in-right, in-either}
use Rattle.tb_ir.specs.Tree.{Tree, ProgramTree}
use Rattle.tb_ir.specs.FreeVariables.{free}
use Rattle.tb_ir.specs.AnfTree.{Operand, Block}
use Rattle.tb_ir.specs.Machine.{Env, Item, Control, Eval, Val, Entering, Running, Stopped, Lost, gather, push}
use Rattle.tb_ir.specs.Measures.{tree_measured, anf_measured}
use Rattle.tb_ir.specs.Space.{marks, control_locations, frames_locations, locations_of, of_item, store_graph, closures_in, words_in}
use Rattle.tb_ir.specs.TreeMachine as T
use Rattle.tb_ir.specs.TreeMachine.{Frames, TreeWork, env_values, TreeState}
use Rattle.tb_ir.specs.AnfMachine as N
use Rattle.tb_ir.specs.AnfMachine.{Code, InBlock, AnfFrames, AnfState, free_block, free_of_atom, atom_value, captured_by, proc_of}
use Rattle.tb_anf.specs.NormalForm.{After, block_of, normal_form}
use Rattle.tb_anf.proofs.Advance.{Simple, constant, variable}
use Rattle.tb_anf.proofs.Roots.{Held, Waits, held-more, named-held, atom-held, gather-roots, awaits-held, follows-held, awaits-waits, follows-waits, frames-wait}
use Rattle.tb_anf.proofs.Environments.{Named}
use Rattle.tb_anf.proofs.Calls.{Calls}
use Rattle.tb_anf.proofs.Names.{Sound}
use Rattle.tb_anf.proofs.Rel.{Awaits, Follows}
use Rattle.tb_anf.proofs.States as S
use Rattle.tb_anf.proofs.States.{Ground, at, Within, Related}
use Rattle.tb_anf.proofs.Uses.{block-uses}

some_location : (st : List Item) (k l : ℕ) → IsIn l (locations_of (slice_get st k)) → k < length st
some_location [] k l i = absurd i
some_location (j ∷ st) zero l i = omega arith
some_location (j ∷ st) (suc k) l i = let h = some_location st k l i in omega arith

-- what is reached from fewer roots
reached_less : (size : Item → ℕ) (statics : ℕ) (h : Ground) (k : Control Code) (ts : AnfFrames) (j : Control Tree)
    (fs : Frames) → Within k ts j fs →
    total (λ l. of_item size (slice_get h.store l)) (store_graph N.work_values statics (at h k ts)) ≤ total
    (λ l. of_item size (slice_get h.store l)) (store_graph T.work_values statics (at h j fs))
reached_less size statics h k ts j fs w =
    total-more (λ l. of_item size (slice_get h.store l)) (store_graph N.work_values statics (at h k ts))
    (below statics ++ (control_locations j ++ (frames_locations T.work_values fs ++ values_locations h.globals)))
    (λ a l i. some_location h.store a l i)
    (λ l i. root (⊎_elim (in-left l (below statics) _)
    (λ i'. in-right l (below statics) _ (⊎_elim
    (λ r. moved l (w.roots l (in-left l (control_locations k) _ r)))
    (λ r. ⊎_elim
    (λ r'. moved l (w.roots l (in-right l (control_locations k) _ r')))
    (λ r'. in-right l (control_locations j) _ (in-right l (frames_locations T.work_values fs) _ r'))
    (in-either l (frames_locations N.work_values ts) _ r))
    (in-either l (control_locations k) _ i')))
    (in-either l (below statics) _ i)))
  where
    moved : (l : ℕ) → IsIn l (control_locations j ++ frames_locations T.work_values fs) →
        IsIn l (control_locations j ++ (frames_locations T.work_values fs ++ values_locations h.globals))
    moved l i = ⊎_elim (in-left l (control_locations j) _)
        (λ z. in-right l (control_locations j) _ (in-left l (frames_locations T.work_values fs) _ z))
        (in-either l (control_locations j) _ i)

module _ (p : ProgramTree) (order : List Line) where
  abbrev pub taken : ℕ → List ℕ
  taken l = captured_by (proc_of (normal_form p order).procs l)

  module _ (fewer : (l y : ℕ) → IsIn y (captured_by (proc_of (normal_form p order).procs l)) →
      IsIn y ((T.context_of p order).inner l)) where
    abbrev x : T.Context
    x = T.context_of p order

    -- an environment that is gathered for a block, and the frames
    cut_within : (m r : Env) (b : Block) (ts : AnfFrames) (j : Control Tree) (fs : Frames) →
        r ≡ gather (free_block taken b) m → marks ts ≡ marks fs →
        ((y : ℕ) → IsIn y (free_block taken b) → Held m y (control_locations j ++ frames_locations T.work_values fs)) →
        ((l : ℕ) → IsIn l (frames_locations N.work_values ts) →
        IsIn l (control_locations j ++ frames_locations T.work_values fs)) → (k : Control Code) →
        control_locations k ≡ values_locations (env_values r) → Within k ts j fs
    cut_within m r b ts j fs e ma h g k c = record {
      marked = ma;
      roots = λ l i. ⊎_elim
          (λ z. let n = gather-roots (free_block taken b) m l
          (subst (λ u. IsIn l (values_locations (env_values u))) e (subst (IsIn l) c z)) in
          h n.0 n.2 n.1 n.3 l n.4)
          (g l) (in-either l (control_locations k) _ i);
    }

    simple_held : {e : Tree} {a : Operand} (q m : Env) (y : ℕ) → Simple e a → (s : IsIn y (free_of_atom a)) →
        IsIn y (free x.inner e)
    simple_held q m y (constant c) s = absurd s
    simple_held q m y (variable z) s = s

    running : (input : List ℕ) (h : Ground) (k : Control Code) (ts : AnfFrames) (j : Control Tree) (fs : Frames)
        (es : List Event) → Within k ts j fs →
        Alike (anf_measured (normal_form p order) input) (tree_measured p order input) 0 (Running (at h k ts) es)
        (Running (at h j fs) es)
    running input h k ts j fs es w =
        let m = w.marked in
        let a = reached_less closures_in (length p.statics) h k ts j fs w in
        let b = reached_less words_in (length p.statics) h k ts j fs w in
        record {
          events = refl;
          fits = record { frames = omega arith; closures = omega arith; words = omega arith };
          made = omega arith;
        }

    stopped : (input : List ℕ) (h : Ground) (k : Control Code) (ts : AnfFrames) (j : Control Tree) (fs : Frames)
        (es : List Event) → Within k ts j fs →
        Alike (anf_measured (normal_form p order) input) (tree_measured p order input) 0 (Stopped (at h k ts) es)
        (Stopped (at h j fs) es)
    stopped input h k ts j fs es w =
        let r = running input h k ts j fs es w in
        record { events = refl; fits = r.fits; made = r.made }

    lost : (input : List ℕ) (h : Ground) (k : Control Code) (ts : AnfFrames) (j : Control Tree) (fs : Frames)
        (es : List Event) → Within k ts j fs →
        Alike (anf_measured (normal_form p order) input) (tree_measured p order input) 0 (Lost (at h k ts) es)
        (Lost (at h j fs) es)
    lost input h k ts j fs es w =
        let r = running input h k ts j fs es w in
        record { events = refl; fits = r.fits; made = r.made }

    -- an expression and its block
    evals_within : (n : ℕ) (e : Tree) (q m r : Env) (k : After) (needed : List ℕ) (fs : Frames) (ts : AnfFrames) →
        Follows x (Calls p) taken m fs k ts needed → Sound x (Calls p) n e → Named (free x.inner e) q m →
        r ≡ gather (free_block taken (block_of x.line n e k)) m →
        Within (Eval (InBlock (block_of x.line n e k)) r) ts (Eval e q) fs
    evals_within n e q m r k needed fs ts f so nm eq =
        let u = follows-waits x (Calls p) taken fewer f in
        let env = values_locations (env_values q) in
        cut_within m r (block_of x.line n e k) ts (Eval e q) fs eq u.marked
        (λ y i. ⊎_elim
        (λ z. held-more m y env _ (λ l v. in-left l env _ v) (named-held y nm z))
        (λ z. held-more m y (frames_locations T.work_values fs) _ (λ l v. in-right l env _ v)
        (follows-held x (Calls p) taken fewer f y z))
        (block-uses x (Calls p) taken fewer e so.proper n k y i))
        (λ l i. in-right l env _ (u.roots l i)) _ refl

    -- a block that awaits a value, which these locations hold
    awaits_within : (m r : Env) (a : Operand) (w : TreeWork) (b : Block) (needed : List ℕ) (fs : Frames)
        (ts : AnfFrames)
        (j : Control Tree) → Awaits x (Calls p) taken m a w fs b ts needed → r ≡ gather (free_block taken b) m →
        ((y : ℕ) → IsIn y (free_of_atom a) → Held m y (control_locations j)) →
        Within (Eval (InBlock b) r) ts j (push w fs)
    awaits_within m r a w b needed fs ts j h eq own =
        let u = awaits-waits x (Calls p) taken fewer h in
        let above = values_locations (T.work_values w) ++ frames_locations T.work_values fs in
        let ma = u.marked in
        cut_within m r b ts j (push w fs) eq (omega arith)
        (λ y i. ⊎_elim
        (λ z. held-more m y (control_locations j) _ (λ l v. in-left l (control_locations j) above v) (own y z))
        (λ z. held-more m y above _ (λ l v. in-right l (control_locations j) above v) z)
        (awaits-held x (Calls p) taken fewer h y i))
        (λ l i. in-right l (control_locations j) above
        (in-right l (values_locations (T.work_values w)) _ (u.roots l i)))
        _ refl

    same_control : (k : Control Code) (j : Control Tree) (fs : Frames) (ts : AnfFrames) →
        control_locations k ≡ control_locations j → Waits fs ts → Within k ts j fs
    same_control k j fs ts e u = record {
      marked = u.marked;
      roots = λ l i. ⊎_elim
          (λ z. in-left l (control_locations j) _ (subst (IsIn l) e z))
          (λ z. in-right l (control_locations j) _ (u.roots l z))
          (in-either l (control_locations k) _ i);
    }

    -- related states are alike
    pub alike : (input : List ℕ) (t : AnfState) (s : TreeState) → Related p order taken t s →
        Alike (anf_measured (normal_form p order) input) (tree_measured p order input) 0 t s
    alike input _ _ (S.evals h n e q m r k needed {fs = fs} {ts = ts} f so nw nm eq st) =
        running input h _ ts _ fs _ (evals_within n e q m r k needed fs ts f so nm eq)
    alike input _ _ (S.reads h e a q m r w b needed {fs = fs} {ts = ts} si aw nm eq st) =
        running input h _ ts _ (push w fs) _
        (awaits_within m r a w b needed fs ts (Eval e q) aw eq (λ y i. named-held y nm (simple_held q m y si i)))
    alike input _ _ (S.gives h v a m r w b needed {fs = fs} {ts = ts} aw va eq st) =
        running input h _ ts _ (push w fs) _
        (awaits_within m r a w b needed fs ts (Val v) aw eq (λ y i. atom-held m a v y va i))
    alike input _ _ (S.runs h m r j hs op {ts = ts} rd wi eq f st) = running input h _ ts j hs _ wi
    alike input _ _ (S.returns h v {fs = fs} {ts = ts} f st) =
        let u = frames-wait x (Calls p) taken fewer f in
        running input h (Val v) ts (Val v) fs _ (same_control (Val v) (Val v) fs ts refl u)
    alike input _ _ (S.enters h callee vs may {fs = fs} {ts = ts} f st) =
        let u = frames-wait x (Calls p) taken fewer f in
        running input h (Entering callee vs) ts (Entering callee vs) fs _
        (same_control (Entering callee vs) (Entering callee vs) fs ts refl u)
    alike input _ _
        (S.bound h n e q m r k needed {fs = fs} {ts = ts} f so nw nm eq st wi) = running input h _ ts _ fs _ wi
    alike input _ _ (S.stopped h k j {fs = fs} {ts = ts} wi) = stopped input h k ts j fs _ wi
    alike input _ _ (S.lost h k j {fs = fs} {ts = ts} wi) = lost input h k ts j fs _ wi
