-- The value of the last operand has come: the target goes to the operation.
use Rattle.std.proofs.Common.{◌≡◌, subst, ℕ, inl, inr, ◌⊎◌, ⊎_elim, arith, true, List, [], ◌∷◌, ◌++◌, Some, slice_get}
use Rattle.tb_prim.specs.declared.place.Place.{Place}
use Rattle.tb_prim.specs.declared.event.Event.{Event}
use Rattle.tb_semantics.specs.Graph.{IsIn}
use Rattle.tb_core.specs.OperandOrder.{Line}
use Rattle.tb_core.specs.Space.{value_locations, values_locations}
use Rattle.tb_core.specs.Store.{Value}
use Rattle.tb_core.proofs.Members.{in-left, in-right, in-either}
use Rattle.tb_ir.specs.Tree.{Tree, Trees, Form, Let, ProgramTree}
use Rattle.tb_ir.specs.AnfTree.{Operand}
use Rattle.tb_ir.specs.Machine.{Env, Eval, Val, Running, gather, push}
use Rattle.tb_ir.specs.Space.{frames_locations}
use Rattle.tb_ir.specs.TreeMachine as T
use Rattle.tb_ir.specs.TreeMachine.{Frames, Args, numbers, env_values}
use Rattle.tb_ir.specs.AnfMachine as N
use Rattle.tb_ir.specs.AnfMachine.{AnfFrames, InBlock, atom_value, free_block}
use Rattle.tb_anf.specs.NormalForm.{After, put}
use Rattle.tb_anf.proofs.Arranged.{operand-count}
use Rattle.tb_anf.proofs.Blocks.{put-runs}
use Rattle.tb_anf.proofs.Given.{gives-ready}
use Rattle.tb_anf.proofs.Calls.{Calls}
use Rattle.tb_anf.proofs.Names.{by_operands, SoundForm}
use Rattle.tb_anf.proofs.Rel.{operand_atoms, operation, Done, done-last, Follows}
use Rattle.tb_anf.proofs.Roots.{held-more, done-held, in-values-left}
use Rattle.tb_anf.proofs.States.{Ground, at, Related, Stored}
use Rattle.tb_anf.proofs.Uses.{operation_named, some_atom}

in_values_last : (vs : List Value) (v : Value) (l : ℕ) → IsIn l (values_locations (vs ++ v ∷ [])) →
    IsIn l (value_locations v) ⊎ IsIn l (values_locations vs)
in_values_last [] v l i = ⊎_elim inl (λ z. absurd z) (in-either l (value_locations v) [] i)
in_values_last (u ∷ vs) v l i =
    ⊎_elim
    (λ z. inr (in-left l (value_locations u) _ z))
    (λ z. ⊎_elim inl (λ w. inr (in-right l (value_locations u) _ w)) (in_values_last vs v l z))
    (in-either l (value_locations u) _ i)

module _ (p : ProgramTree) (order : List Line) (taken : ℕ → List ℕ)
    (fewer : (l y : ℕ) → IsIn y (taken l) → IsIn y ((T.context_of p order).inner l)) where
  pub gives-runs : (h : Ground) (v : Value) (a : Operand) (m q r : Env) (q' : Place) (s n i : ℕ) (f : Form)
      (vs : List Value) (done : List ℕ) (ds : List Operand) (k : After) (fs : Frames) (ts : AnfFrames)
      (needed : List ℕ) (es : List Event) → by_operands f ≡ true →
      ((xs : List ℕ) (ds : Trees) (e : Tree) → f ≡ Let xs ds e → ⊥) → SoundForm (T.context_of p order) (Calls p) n s f →
      numbers ((T.context_of p order).line s) f ≡ done ++ i ∷ [] → slice_get (operand_atoms n f) i ≡ Some a →
      Done m (operand_atoms n f) done ds vs → atom_value m a ≡ Some v →
      Follows (T.context_of p order) (Calls p) taken m fs k ts needed →
      r ≡ gather (free_block taken (put k (operation n q' f))) m → Stored (T.context_of p order) (Calls p) h.store →
      Related p order taken
      (N.run_block taken (at h (Eval (InBlock (put k (operation n q' f))) r) ts) (put k (operation n q' f)) r es)
      (Running (at h (Val v) (push (Args q' s f vs q) fs)) es)
  gives-runs h v a m q r q' s n i f vs done ds k fs ts needed es o l so ns g d e fo eq st =
      let x = T.context_of p order in
      let all = done-last i a v d g e in
      let hs = push (Args q' s f vs q) fs in
      let below = values_locations (vs ++ env_values q) ++ frames_locations T.work_values fs in
      put-runs p order taken fewer h m r (Val v) hs fs ts k needed es (operation n q' f) fo
      (gives-ready p order taken h v a m q q' s n i f vs done ds fs es o l so ns g d e)
      (record {
        marked = omega arith;
        frames = λ u z. in-right u (value_locations v) below (in-right u (values_locations (vs ++ env_values q)) _ z);
        atoms = λ y z.
            let b = some_atom (operand_atoms n f) y (operation_named x (Calls p) taken fewer n q' f y z) in
            let lt = b.4 in
            let long = operand-count n f o so.here.long in
            held-more m y (values_locations (vs ++ v ∷ [])) (value_locations v ++ below)
            (λ u w. ⊎_elim (in-left u (value_locations v) below)
            (λ w'. in-right u (value_locations v) below (in-left u (values_locations (vs ++ env_values q)) _
            (in-values-left vs (env_values q) u w'))) (in_values_last vs v u w))
            (done-held b.0 y b.1 all (subst (IsIn b.0) ns ((so.here.permuted o).full b.0 (omega arith))) b.2 b.3);
      }) eq st
