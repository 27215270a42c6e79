-- The value of an operand has come in the source: it goes on to the next operand or to the body of a `let`, or
-- the target goes to the operation.
use Rattle.std.proofs.Common.{◌≡◌, refl, sym, ap, ◌∙◌, subst, ℕ, suc, true, List, [], ◌∷◌, ◌++◌, length, drop, Some, slice_get, append_assoc}
use Rattle.tb_prim.specs.declared.place.Place.{Place}
use Rattle.tb_prim.specs.declared.event.Event.{Event}
use Rattle.tb_core.specs.OperandOrder.{Line}
use Rattle.tb_core.specs.Reference.{arranged}
use Rattle.tb_core.specs.Store.{Value}
use Rattle.tb_ir.specs.Tree.{Tree, Trees, Form, Let, operands, ProgramTree}
use Rattle.tb_ir.specs.AnfTree.{Operand}
use Rattle.tb_ir.specs.Machine as M
use Rattle.tb_ir.specs.Machine.{Env, Eval, Val, Running, gather, push}
use Rattle.tb_ir.specs.TreeMachine as T
use Rattle.tb_ir.specs.TreeMachine.{Frames, Args, numbers, free_of_numbers, free_of_body}
use Rattle.tb_ir.specs.AnfMachine.{AnfFrames, InBlock, atom_value, free_block}
use Rattle.tb_anf.specs.NormalForm.{After, around}
use Rattle.tb_anf.proofs.Arranged.{all-values}
use Rattle.tb_anf.proofs.Environments.{Named, Values}
use Rattle.tb_anf.proofs.Calls.{Calls}
use Rattle.tb_anf.proofs.Names.{names_form, by_operands, AreNew, SoundForm}
use Rattle.tb_anf.proofs.Nodes.{done-length, drop-front, goes-on, operation-ready}
use Rattle.tb_anf.proofs.Parts.{let-goes}
use Rattle.tb_anf.proofs.Rel.{steps, operand_atoms, operation, finish, Done, done-last, Follows}
use Rattle.tb_anf.proofs.States.{Ground, at, Related, Ready, Stored}
use Rattle.tb_semantics.proofs.ListLemmas.{length-last}

module _ (p : ProgramTree) (order : List Line) (taken : ℕ → List ℕ) where
  abbrev pub x : T.Context
  x = T.context_of p order

  -- the numbers of the operands that are left
  pub rest-left : (all done rest : List ℕ) (i : ℕ) (vs : List Value) (v : Value) → all ≡ done ++ i ∷ rest →
      length done ≡ length vs → drop (length (vs ++ v ∷ [])) all ≡ rest
  rest-left all done rest i vs v e l =
      ap (drop (length (vs ++ v ∷ []))) (e ∙ sym (append_assoc done (i ∷ []) rest))
      ∙ drop-front (done ++ i ∷ []) rest (length (vs ++ v ∷ []))
      (length-last done i ∙ ap suc l ∙ sym (length-last vs v))

  -- more operands are left
  pub gives-more : (h : Ground) (v : Value) (a : Operand) (m q r : Env) (q' : Place) (s n i i' : ℕ) (f : Form)
      (vs : List Value) (done rest : List ℕ) (ds : List Operand) (k : After) (fs : Frames) (ts : AnfFrames)
      (needed : List ℕ) (es : List Event) → by_operands f ≡ true → SoundForm x (Calls p) n s f →
      AreNew (names_form n f) needed →
      numbers (x.line s) f ≡ done ++ i ∷ (i' ∷ rest) → slice_get (operand_atoms n f) i ≡ Some a →
      Done m (operand_atoms n f) done ds vs → atom_value m a ≡ Some v →
      Named (free_of_numbers x (operands f) (i' ∷ rest) ++ free_of_body x f) q m →
      Follows x (Calls p) taken m fs k ts needed →
      r ≡ gather (free_block taken (around (steps x.line n f) (i' ∷ rest) (finish x.line n q' f k))) m →
      Stored x (Calls p) h.store →
      Related p order taken
      (Running (at h (Eval (InBlock (around (steps x.line n f) (i' ∷ rest) (finish x.line n q' f k))) r) ts) es)
      (M.step (T.language p order) (Running (at h (Val v) (push (Args q' s f vs q) fs)) es))
  gives-more h v a m q r q' s n i i' f vs done rest ds k fs ts needed es o so nw ns g d e nm fo eq st =
      subst (λ z. Related p order taken
      (Running (at h (Eval (InBlock (around (steps x.line n f) (i' ∷ rest) (finish x.line n q' f k))) r) ts) es)
      (T.operands_left x (at h (Val v) (push (Args q' s f vs q) fs)) q' s f (vs ++ v ∷ []) q
      (numbers (x.line s) f) z fs es))
      (sym (rest-left (numbers (x.line s) f) done (i' ∷ rest) i vs v ns (done-length d)))
      (goes-on p order taken h m q r (Val v) (push (Args q' s f vs q) fs) q' s n i' f (vs ++ v ∷ [])
      (done ++ i ∷ []) rest
      (ds ++ a ∷ []) k fs ts needed es o so nw (ns ∙ sym (append_assoc done (i ∷ []) (i' ∷ rest)))
      (done-last i a v d g e) nm fo eq st)

  -- all operands are there
  there : {m : Env} (s n i : ℕ) (f : Form) {vs : List Value} {done : List ℕ} {ds : List Operand} (a : Operand)
      (v : Value) →
      by_operands f ≡ true → SoundForm x (Calls p) n s f → numbers (x.line s) f ≡ done ++ i ∷ [] →
      slice_get (operand_atoms n f) i ≡ Some a → Done m (operand_atoms n f) done ds vs → atom_value m a ≡ Some v →
      Values m (operand_atoms n f) (arranged 0 (length (numbers (x.line s) f)) (numbers (x.line s) f) (vs ++ v ∷ []))
  there {m} s n i f {vs = vs} {ds = ds} a v o so ns g d e =
      all-values n f o so.here.long (so.here.permuted o)
      (subst (λ is. Done m (operand_atoms n f) is (ds ++ a ∷ []) (vs ++ v ∷ [])) (sym ns) (done-last i a v d g e))

  -- the body of a `let` is next
  pub gives-let : (h : Ground) (v : Value) (a : Operand) (m q r : Env) (q' : Place) (s n i : ℕ) (xs : List ℕ)
      (es' : Trees)
      (b : Tree) (vs : List Value) (done : List ℕ) (ds : List Operand) (k : After) (fs : Frames) (ts : AnfFrames)
      (needed : List ℕ) (es : List Event) → SoundForm x (Calls p) n s (Let xs es' b) →
      AreNew (names_form n (Let xs es' b)) needed →
      numbers (x.line s) (Let xs es' b) ≡ done ++ i ∷ [] → slice_get (operand_atoms n (Let xs es' b)) i ≡ Some a →
      Done m (operand_atoms n (Let xs es' b)) done ds vs → atom_value m a ≡ Some v →
      Named (free_of_body x (Let xs es' b)) q m → Follows x (Calls p) taken m fs k ts needed →
      r ≡ gather (free_block taken (finish x.line n q' (Let xs es' b) k)) m → Stored x (Calls p) h.store →
      Related p order taken (Running (at h (Eval (InBlock (finish x.line n q' (Let xs es' b) k)) r) ts) es)
      (M.step (T.language p order) (Running (at h (Val v) (push (Args q' s (Let xs es' b) vs q) fs)) es))
  gives-let h v a m q r q' s n i xs es' b vs done ds k fs ts needed es so nw ns g d e nm fo eq st =
      let f = Let xs es' b in
      let hs = push (Args q' s f vs q) fs in
      subst (λ z. Related p order taken (Running (at h (Eval (InBlock (finish x.line n q' f k)) r) ts) es)
      (T.operands_left x (at h (Val v) hs) q' s f (vs ++ v ∷ []) q (numbers (x.line s) f) z fs es))
      (sym (rest-left (numbers (x.line s) f) done [] i vs v ns (done-length d)))
      (let-goes p order taken h m q r (Val v) hs n s xs es' b _ k fs ts needed es so nw
      (there s n i f a v refl so ns g d e)
      nm fo eq st)

  -- the operation is next
  pub gives-ready : (h : Ground) (v : Value) (a : Operand) (m q : Env) (q' : Place) (s n i : ℕ) (f : Form)
      (vs : List Value) (done : List ℕ) (ds : List Operand) (fs : Frames) (es : List Event) → by_operands f ≡ true →
      ((xs : List ℕ) (ds : Trees) (e : Tree) → f ≡ Let xs ds e → ⊥) → SoundForm x (Calls p) n s f →
      numbers (x.line s) f ≡ done ++ i ∷ [] → slice_get (operand_atoms n f) i ≡ Some a →
      Done m (operand_atoms n f) done ds vs → atom_value m a ≡ Some v →
      Ready p order taken m (at h (Val v) (push (Args q' s f vs q) fs)) es fs (operation n q' f)
      (M.step (T.language p order) (Running (at h (Val v) (push (Args q' s f vs q) fs)) es))
  gives-ready h v a m q q' s n i f vs done ds fs es o l so ns g d e =
      let hs = push (Args q' s f vs q) fs in
      subst (λ z. Ready p order taken m (at h (Val v) hs) es fs (operation n q' f)
      (T.operands_left x (at h (Val v) hs) q' s f (vs ++ v ∷ []) q (numbers (x.line s) f) z fs es))
      (sym (rest-left (numbers (x.line s) f) done [] i vs v ns (done-length d)))
      (operation-ready p order taken m q (at h (Val v) hs) es fs q' n f _ o l so.here.may
      (there s n i f a v o so ns g d e))
