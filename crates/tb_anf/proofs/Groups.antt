-- Procedures that name one another are made on both sides.
use Rattle.std.proofs.Common.{◌≡◌, refl, sym, ap, ◌∙◌, subst, ℕ, suc, ◌⊎◌, inl, inr, ⊎_elim, List, [], ◌∷◌, ◌++◌, length}
use Rattle.tb_prim.specs.declared.place.Place.{Place}
use Rattle.tb_prim.specs.declared.event.Event.{Event}
use Rattle.tb_semantics.specs.Graph.{IsIn}
use Rattle.tb_semantics.proofs.Simulation as Sim
use Rattle.tb_core.specs.FreeVariables.{of_lambdas}
use Rattle.tb_core.specs.OperandOrder.{Line}
use Rattle.tb_core.specs.Rules.{Every}
use Rattle.tb_core.specs.Space.{values_locations}
use Rattle.tb_core.specs.Store.{At}
use Rattle.tb_core.proofs.Members.{in-left, in-right, in-either}
use Rattle.tb_ir.specs.Tree.{Tree, Node, Form, Letrec, ProgramTree}
use Rattle.tb_ir.specs.FreeVariables.{free, free_form}
use Rattle.tb_ir.specs.Machine.{Env, Item, Clo, Eval, Bound, Running, gather, bind_located, closures}
use Rattle.tb_ir.specs.Space.{frames_locations}
use Rattle.tb_ir.specs.TreeMachine as T
use Rattle.tb_ir.specs.TreeMachine.{Frames, env_values, line_of}
use Rattle.tb_ir.specs.AnfMachine.{InBlock, AnfFrames, free_block}
use Rattle.tb_anf.specs.NormalForm.{After, block_of}
use Rattle.tb_anf.proofs.Calls.{Calls, MayClose}
use Rattle.tb_anf.proofs.Environments.{Named, named-sub, named-gather, named-gathers, named-located, gather-sub, gather-located, lookup-gather}
use Rattle.tb_anf.proofs.Names.{names_form, AreNew, SoundForm}
use Rattle.tb_anf.proofs.Parts.{letrec-sound}
use Rattle.tb_anf.proofs.Procs.{captured-free, same-captured}
use Rattle.tb_anf.proofs.Rel.{Follows, follows-more}
use Rattle.tb_anf.proofs.Roots.{gather-roots, named-held, follows-held, follows-waits}
use Rattle.tb_anf.proofs.States as S
use Rattle.tb_anf.proofs.States.{Ground, at, Related, Within, Stored, HasCaptured}
use Rattle.tb_anf.proofs.Turns.{taken, Turns, fewer}
use Rattle.tb_anf.proofs.Uses.{block-uses}

-- what is bound to locations on both sides
located-roots : (xs : List ℕ) (k : ℕ) (q r : Env) (P : ℕ → Type 0) →
    ((l : ℕ) → IsIn l (values_locations (env_values r)) → IsIn l (values_locations (env_values q)) ⊎ P l) → (l : ℕ) →
    IsIn l (values_locations (env_values (bind_located xs k r))) →
    IsIn l (values_locations (env_values (bind_located xs k q))) ⊎ P l
located-roots [] k q r P h l i = h l i
located-roots (x ∷ xs) k q r P h l (inl e) = inl (inl e)
located-roots (x ∷ xs) k q r P h l (inr i) = ⊎_elim (λ z. inl (inr z)) inr (located-roots xs (suc k) q r P h l i)

pub stored-append : (x : T.Context) (calls : Form → Type 0) (st is : List Item) → Stored x calls st →
    Stored x calls is →
    Stored x calls (st ++ is)
stored-append x calls [] is s h = h
stored-append x calls (i ∷ st) is s h = (s.0, stored-append x calls st is s.1 h)

module _ (p : ProgramTree) (order : List Line) (input : List ℕ) where
  abbrev x : T.Context
  x = T.context_of p order

  abbrev mine : ℕ → List ℕ
  mine = taken p order input

  -- names on which nothing rests are bound to locations
  follows-located : (xs : List ℕ) (l : ℕ) {m : Env} {fs : Frames} {k : After} {ts : AnfFrames} {needed : List ℕ} →
      ((y : ℕ) → IsIn y xs → IsIn y needed → ⊥) → Follows x (Calls p) mine m fs k ts needed →
      Follows x (Calls p) mine (bind_located xs l m) fs k ts needed
  follows-located [] l new f = f
  follows-located (y ∷ xs) l new f =
      follows-more x (Calls p) mine y (At l) (new y (inl refl)) (follows-located xs (suc l) (λ z i. new z (inr i)) f)

  -- the closures of both sides are the same
  same-closures : (ls : List ℕ) (q r m : Env) → ((l : ℕ) → IsIn l ls → gather (mine l) r ≡ gather (mine l) m) →
      ((l : ℕ) → IsIn l ls → Named (x.captured l) q m) → closures mine ls r ≡ closures x.captured ls q
  same-closures [] q r m g n = refl
  same-closures (l ∷ ls) q r m g n =
      let here = g l (inl refl) ∙ (ap (λ xs. gather xs m) (same-captured p order l)
      ∙ sym (named-gathers (n l (inl refl)))) in
      let rest = same-closures ls q r m (λ k i. g k (inr i)) (λ k i. n k (inr i)) in
      ap (λ z. Clo l z ∷ closures mine ls r) here ∙ ap (λ zs. Clo l (gather (x.captured l) q) ∷ zs) rest

  stored-closures : (ls : List ℕ) (q m : Env) → Every (MayClose p) ls →
      ((l : ℕ) → IsIn l ls → Named (x.captured l) q m) → Stored x (Calls p) (closures x.captured ls q)
  stored-closures [] q m a n = tt
  stored-closures (l ∷ ls) q m a n = (
    (a.0, λ y i. let k = (n l (inl refl)).has y i in (k.0, lookup-gather (x.captured l) q y i ∙ k.1)),
    stored-closures ls q m a.1 (λ k i. n k (inr i)),
  )

  of_one : (I : ℕ → List ℕ) (ls : List ℕ) (l y : ℕ) → IsIn l ls → IsIn y (I l) → IsIn y (of_lambdas I ls)
  of_one I [] l y i j = absurd i
  of_one I (k ∷ ls) l y (inl e) j = in-left y (I k) _ (subst (λ z. IsIn y (I z)) (sym e) j)
  of_one I (k ∷ ls) l y (inr i) j = in-right y (I k) _ (of_one I ls l y i j)

  pub evaluates-letrec : (h : Ground) (q m r : Env) (k : After) (needed : List ℕ) (fs : Frames) (ts : AnfFrames)
      (es : List Event) (n : ℕ) (u : Place) (s : ℕ) (xs ls : List ℕ) (e : Tree) →
      Follows x (Calls p) mine m fs k ts needed → Stored x (Calls p) h.store →
      SoundForm x (Calls p) n s (Letrec xs ls e) → AreNew (names_form n (Letrec xs ls e)) needed →
      Named (free_form x.inner (Letrec xs ls e)) q m →
      r ≡ gather (free_block mine (block_of x.line n (Node u s (Letrec xs ls e)) k)) m →
      Turns p order input
      (Running (at h (Eval (InBlock (block_of x.line n (Node u s (Letrec xs ls e)) k)) r) ts) es)
      (Running (at h (Eval (Node u s (Letrec xs ls e)) q) fs) es)
  evaluates-letrec h q m r k needed fs ts es n u s xs ls e f st so nw nm eq =
      let b = block_of x.line (suc n) e k in
      let F = free_form x.inner (Letrec xs ls e) in
      let G = free_block mine (block_of x.line n (Node u s (Letrec xs ls e)) k) in
      let here = length h.store in
      let q1 = bind_located xs here (gather F q) in
      let r1 = bind_located xs here (gather G r) in
      let m1 = bind_located xs here m in
      let inner = of_lambdas x.inner ls ++ free x.inner e in
      let outer = of_lambdas mine ls ++ free_block mine b in
      let cut : gather G r ≡ gather G m = ap (gather G) eq ∙ gather-sub G G m (λ y i. i) in
      let all : Named inner q1 m1 = named-located xs here (named-gather F (λ y i. i) nm) in
      let alike : (zs : List ℕ) → ((y : ℕ) → IsIn y zs → IsIn y outer) → gather zs r1 ≡ gather zs m1 =
      λ zs sub. ap (λ z. gather zs (bind_located xs here z)) cut ∙ gather-located xs here outer zs m sub in
      let closed : (l : ℕ) → IsIn l ls → Named (x.captured l) q1 m1 =
      λ l i. named-sub (λ y j. in-left y (of_lambdas x.inner ls) _
      (of_one x.inner ls l y i (captured-free p l y j))) all in
      let same : closures mine ls r1 ≡ closures x.captured ls q1 = same-closures ls q1 r1 m1
      (λ l i. alike (mine l) (λ y j. in-left y (of_lambdas mine ls) _ (of_one mine ls l y i j))) closed in
      let w = follows-waits x (Calls p) mine (fewer p order input) f in
      let ground = record h { store = h.store ++ closures x.captured ls q1 } in
      Sim.both_move
      (subst (λ is. Related p order mine
      (Running (at (record h { store = h.store ++ is }) (Bound (InBlock b) r1) ts) es)
      (Running (at ground (Bound e q1) fs) es)) (sym same)
      (S.bound ground (suc n) e q1 m1 r1 k needed
      (follows-located xs here (λ y i. nw y (in-left y xs _ i)) f)
      (letrec-sound x (Calls p) n s xs ls e so)
      (λ y i. nw y (in-right y xs _ i))
      (named-sub (λ y i. in-right y (of_lambdas x.inner ls) _ i) all)
      (alike (free_block mine b) (λ y i. in-right y (of_lambdas mine ls) _ i))
      (stored-append x (Calls p) h.store _ st (stored-closures ls q1 m1 so.here.may closed))
      (record {
        marked = w.marked;
        roots = λ l i. ⊎_elim
            (λ z. ⊎_elim (in-left l (values_locations (env_values q1)) _)
            (in-right l (values_locations (env_values q1)) _)
            (located-roots xs here (gather F q) (gather G r) (λ y. IsIn y (frames_locations T.work_values fs))
            (λ y j. roots_there y j) l z))
            (λ z. in-right l (values_locations (env_values q1)) _ (w.roots l z))
            (in-either l (values_locations (env_values r1)) _ i);
      })))
    where
      roots_there : (l : ℕ) →
          IsIn l (values_locations (env_values (gather
          (free_block mine (block_of x.line n (Node u s (Letrec xs ls e)) k)) r))) →
          IsIn l (values_locations (env_values (gather (free_form x.inner (Letrec xs ls e)) q))) ⊎
          IsIn l (frames_locations T.work_values fs)
      roots_there l i =
          let F = free_form x.inner (Letrec xs ls e) in
          let G = free_block mine (block_of x.line n (Node u s (Letrec xs ls e)) k) in
          let cut : gather G r ≡ gather G m = ap (gather G) eq ∙ gather-sub G G m (λ y j. j) in
          let g = gather-roots G m l (subst (λ z. IsIn l (values_locations (env_values z))) cut i) in
          ⊎_elim
          (λ z. inl (named-held g.0 (named-gather F (λ y j. j) nm) z g.1 g.3 l g.4))
          (λ z. inr (follows-held x (Calls p) mine (fewer p order input) f g.0 z g.1 g.3 l g.4))
          (block-uses x (Calls p) mine (fewer p order input) (Node u s (Letrec xs ls e))
          (so.here, so.proper) n k g.0 g.2)
