-- A node that is evaluated operand by operand: the source goes on to the next operand, or has them all.
use Rattle.std.proofs.Common.{◌≡◌, refl, sym, ap, subst, ℕ, zero, suc, inl, ⊎_elim, arith, true, List, [], ◌∷◌, ◌++◌, length, drop}
use Rattle.tb_prim.specs.declared.place.Place.{Place}
use Rattle.tb_prim.specs.declared.event.Event.{Event}
use Rattle.tb_semantics.specs.Graph.{IsIn}
use Rattle.tb_core.specs.OperandOrder.{Line}
use Rattle.tb_core.specs.Store.{Value}
use Rattle.tb_core.proofs.Members.{in-left, in-right, in-either}
use Rattle.tb_ir.specs.Tree.{Tree, Form, NewCell, CellGet, CellSet, Let, Call, Direct, PrimUse, Apply, Trees, tree_at, operands, ProgramTree}
use Rattle.tb_ir.specs.FreeVariables.{free}
use Rattle.tb_ir.specs.AnfTree.{Operand, Block}
use Rattle.tb_ir.specs.Machine.{Env, Eval, Control, Running, gather, push}
use Rattle.tb_ir.specs.TreeMachine as T
use Rattle.tb_ir.specs.TreeMachine.{Frames, TreeWork, TreeConfig, Args, numbers, free_of_tree, free_of_numbers, free_of_body}
use Rattle.tb_ir.specs.AnfMachine.{AnfFrames, InBlock, free_block}
use Rattle.tb_anf.specs.NormalForm.{After, Then, around}
use Rattle.tb_anf.proofs.Advance.{Begins, into, reads, next-operand}
use Rattle.tb_anf.proofs.Environments.{Named, Values, no_value, one_value, named-sub, named-gather}
use Rattle.tb_anf.proofs.Calls.{Calls}
use Rattle.tb_anf.proofs.Names.{names_form, by_operands, AreNew, SoundForm}
use Rattle.tb_anf.proofs.Rel.{steps, operand_atoms, operation, finish, Done, none_done, one_done, Follows, then}
use Rattle.tb_anf.proofs.States as S
use Rattle.tb_anf.proofs.States.{Ground, at, Related, Ready, Stored}
use Rattle.tb_anf.proofs.Uses.{tree_there}

pub done-length : {m : Env} {all ds : List Operand} {is : List ℕ} {vs : List Value} → Done m all is ds vs →
    length is ≡ length vs
done-length none_done = refl
done-length (one_done g e d) = ap suc (done-length d)

-- what is left of a list behind as many elements
pub drop-front : (xs ys : List ℕ) (n : ℕ) → length xs ≡ n → drop n (xs ++ ys) ≡ ys
drop-front [] ys zero e = refl
drop-front [] ys (suc n) e = absurd (omega arith)
drop-front (x ∷ xs) ys zero e = absurd (omega arith)
drop-front (x ∷ xs) ys (suc n) e = drop-front xs ys n (omega arith)

module _ (p : ProgramTree) (order : List Line) (taken : ℕ → List ℕ) where
  abbrev pub x : T.Context
  x = T.context_of p order

  pub begins-related : (h : Ground) (m q r : Env) (e : Tree) (w : TreeWork) (fs : Frames) (b : Block) (ts : AnfFrames)
      (es : List Event) → Begins x (Calls p) taken m e w fs b ts → Named (free x.inner e) q m →
      r ≡ gather (free_block taken b) m → Stored x (Calls p) h.store →
      Related p order taken (Running (at h (Eval (InBlock b) r) ts) es)
      (Running (at h (Eval e (gather (free x.inner e) q)) (push w fs)) es)
  begins-related h m q r e w fs _ ts es (into n y {needed = needed} so nw a out) nm eq st =
      S.evals h n e _ m r (Then y _) needed (then a out) so nw (named-gather (free x.inner e) (λ z i. i) nm) eq st
  begins-related h m q r e w fs b ts es (reads {a = a} {needed = needed} si aw) nm eq st =
      S.reads h e a _ m r w b needed si aw (named-gather (free x.inner e) (λ z i. i) nm) eq st

  -- the next operand of the source; the target stays where it is
  pub goes-on : (h : Ground) (m q r : Env) (k : Control Tree) (hs : Frames) (q' : Place) (s n i : ℕ) (f : Form)
      (vs : List Value) (done rest : List ℕ) (ds : List Operand) (a : After) (fs : Frames) (ts : AnfFrames)
      (needed : List ℕ) (es : List Event) → by_operands f ≡ true → SoundForm x (Calls p) n s f →
      AreNew (names_form n f) needed →
      numbers (x.line s) f ≡ done ++ i ∷ rest → Done m (operand_atoms n f) done ds vs →
      Named (free_of_numbers x (operands f) (i ∷ rest) ++ free_of_body x f) q m →
      Follows x (Calls p) taken m fs a ts needed →
      r ≡ gather (free_block taken (around (steps x.line n f) (i ∷ rest) (finish x.line n q' f a))) m →
      Stored x (Calls p) h.store →
      Related p order taken
      (Running (at h (Eval (InBlock (around (steps x.line n f) (i ∷ rest) (finish x.line n q' f a))) r) ts) es)
      (T.operands_left x (at h k hs) q' s f vs q (numbers (x.line s) f) (i ∷ rest) fs es)
  goes-on h m q r k hs q' s n i f vs done rest ds a fs ts needed es o so nw ns d nm fo eq st =
      let t = tree_there (operands f) i
      ((so.here.permuted o).within i (subst (IsIn i) (sym ns) (in-right i done _ (inl refl)))) in
      let e = t.0 in
      let later = free_of_numbers x (operands f) rest ++ free_of_body x f in
      let own = named-sub (λ y z. in-left y _ (free_of_body x f) (in-left y (free_of_tree x (tree_at (operands f) i)) _
      (subst (λ u. IsIn y (free_of_tree x u)) (sym t.1) z))) nm in
      let after = named-sub (λ y z. ⊎_elim
      (λ w. in-left y _ (free_of_body x f) (in-right y (free_of_tree x (tree_at (operands f) i)) _ w))
      (λ w. in-right y (free_of_numbers x (operands f) (i ∷ rest)) _ w)
      (in-either y (free_of_numbers x (operands f) rest) _ z)) nm in
      subst (λ u. Related p order taken
      (Running (at h (Eval (InBlock (around (steps x.line n f) (i ∷ rest) (finish x.line n q' f a))) r) ts) es)
      (T.operand x (at h k hs) q' s f vs q rest u fs es)) (sym t.1)
      (begins-related h m q r e (Args q' s f vs (gather later q)) fs _ ts es
      (next-operand x (Calls p) taken m (gather later q) q' s n i f vs done rest ds a fs ts needed e o so nw ns t.1 d
      (named-gather later (λ y z. z) after) fo) own eq st)

  -- all operands of an operation: the source carries it out with their values
  pub operation-ready : (m q : Env) (d : TreeConfig) (es : List Event) (fs : Frames) (q' : Place) (n : ℕ) (f : Form)
      (ws : List Value) → by_operands f ≡ true → ((xs : List ℕ) (ds : Trees) (e : Tree) → f ≡ Let xs ds e → ⊥) →
      Calls p f → Values m (operand_atoms n f) ws →
      Ready p order taken m d es fs (operation n q' f) (T.complete x d q' f ws q fs es)
  operation-ready m q d es fs q' n (NewCell e) _ o l may (one_value {v = v} h no_value) = S.new_cell _ v h
  operation-ready m q d es fs q' n (CellGet e) _ o l may (one_value {v = v} h no_value) = S.cell_get _ q' v h
  operation-ready m q d es fs q' n (CellSet c e) _ o l may (one_value {v = v} h (one_value {v = u} k no_value)) =
      S.cell_set _ _ v u (one_value h (one_value k no_value))
  operation-ready m q d es fs q' n (Let xs ds e) ws o l may h = absurd (l xs ds e refl)
  operation-ready m q d es fs q' n (Call f ds) _ o l may (one_value {v = v} {vs = vs} h k) = S.call _ _ q' v vs
      (one_value h k)
  operation-ready m q d es fs q' n (Direct g ds) ws o l may h = S.direct g _ ws may h
  operation-ready m q d es fs q' n (PrimUse g ds) ws o l may h = S.primitive g _ q' ws h
  operation-ready m q d es fs q' n (Apply f a) _ o l may (one_value {v = v} h (one_value {v = u} k no_value)) =
      S.apply _ _ q' v u (one_value h (one_value k no_value))
  operation-ready m q d es fs q' n _ ws o l may h = cc
