-- The parts of a node bind their names once, and none that is free in them.
use Rattle.std.proofs.Common.{◌≡◌, ℕ, suc, ◌+◌, inr, ⊎_elim, List, ◌++◌, map}
use Rattle.std.proofs.lemmas.Bool.{cases_Bool}
use Rattle.tb_prim.specs.declared.place.Place.{Place}
use Rattle.tb_prim.specs.declared.event.Event.{Event}
use Rattle.tb_semantics.specs.Graph.{IsApart}
use Rattle.tb_core.specs.FreeVariables.{is_in, without, of_lambdas}
use Rattle.tb_core.specs.OperandOrder.{Line}
use Rattle.tb_core.specs.Rules.{Every}
use Rattle.tb_core.specs.Store.{Value}
use Rattle.tb_core.proofs.Members.{in-left, in-right, in-tested, in-without}
use Rattle.tb_ir.specs.Tree.{Tree, Node, Form, If, SetGlobal, DefGlobal, Let, Letrec, Trees, more, ProgramTree}
use Rattle.tb_ir.specs.FreeVariables.{free, free_all}
use Rattle.tb_ir.specs.Rules.{nodes, nodes_of}
use Rattle.tb_ir.specs.AnfTree as A
use Rattle.tb_ir.specs.Machine.{Env, Eval, Control, Running, gather, bind_all}
use Rattle.tb_ir.specs.TreeMachine as T
use Rattle.tb_ir.specs.TreeMachine.{Context, Frames, free_of_body}
use Rattle.tb_ir.specs.AnfMachine.{AnfFrames, InBlock, free_block}
use Rattle.tb_anf.specs.NormalForm.{size, size_all, After, block_of}
use Rattle.tb_anf.proofs.Environments.{Named, Values, named-gather}
use Rattle.tb_anf.proofs.Arranged.{named-let}
use Rattle.tb_anf.proofs.Calls.{Calls}
use Rattle.tb_anf.proofs.Names.{names, names_form, names_all, AreNew, ProperNode, Sound, SoundForm}
use Rattle.tb_anf.proofs.Operands.{apart-left, apart-right, apart-both, every-left, every-right}
use Rattle.tb_anf.proofs.Rel.{Follows}
use Rattle.tb_anf.proofs.States as S
use Rattle.tb_anf.proofs.States.{Ground, at, Related, Stored}

module _ (x : Context) (calls : Form → Type 0) where
  pub form-sound : (n : ℕ) (p : Place) (s : ℕ) (f : Form) → Sound x calls n (Node p s f) → SoundForm x calls n s f
  form-sound n p s f h = record {
    apart = (h.apart).1;
    new = λ y i j. h.new y (inr i) j;
    here = (h.proper).0;
    proper = (h.proper).1;
  }

  -- the body of a binder
  inside : (xs ns ms : List ℕ) → IsApart (xs ++ ns) → AreNew (xs ++ ns) (without xs ms) → AreNew ns ms
  inside xs ns ms a h y i j =
      ⊎_elim
      (λ t. apart-both xs ns y a (in-tested xs y t) i)
      (λ t. h y (in-right y xs ns i) (in-without xs ms y j t))
      (cases_Bool (is_in xs y))

  pub let-sound : (n s : ℕ) (xs : List ℕ) (es : Trees) (e : Tree) → SoundForm x calls n s (Let xs es e) →
      Sound x calls (suc n + size_all es) e
  let-sound n s xs es e h =
      let all = names_all (suc n) es in
      let own = names (suc n + size_all es) e in
      record {
        apart = apart-right all own (apart-right xs (all ++ own) h.apart);
        new = λ y i j.
            ⊎_elim
            (λ t. apart-both xs (all ++ own) y h.apart (in-tested xs y t) (in-right y all own i))
            (λ t. h.new y (in-right y xs _ (in-right y all own i))
            (in-right y (free_all x.inner es) _ (in-without xs (free x.inner e) y j t)))
            (cases_Bool (is_in xs y));
        proper = every-right _ _ _ h.proper;
      }

  pub letrec-sound : (n s : ℕ) (xs ls : List ℕ) (e : Tree) → SoundForm x calls n s (Letrec xs ls e) →
      Sound x calls (suc n) e
  letrec-sound n s xs ls e h = record {
    apart = apart-right xs _ h.apart;
    new = λ y i j. inside xs (names (suc n) e) (of_lambdas x.inner ls ++ free x.inner e) h.apart h.new y i
        (in-right y (of_lambdas x.inner ls) _ j);
    proper = h.proper;
  }

  pub set-sound : (n s g : ℕ) (e : Tree) → SoundForm x calls n s (SetGlobal g e) → Sound x calls (suc n) e
  set-sound n s g e h = record { apart = h.apart; new = h.new; proper = h.proper }

  pub def-sound : (n s g : ℕ) (e : Tree) → SoundForm x calls n s (DefGlobal g e) → Sound x calls (suc n) e
  def-sound n s g e h = record { apart = h.apart; new = h.new; proper = h.proper }

  -- the test of an `if`, and its arms
  module _ (n s : ℕ) (a b c : Tree) (h : SoundForm x calls n s (If a b c)) where
    pub test-sound : Sound x calls (suc n) a
    test-sound = record {
      apart = apart-left (names (suc n) a) _ h.apart;
      new = λ y i j. h.new y (in-left y (names (suc n) a) _ i) (in-left y (free x.inner a) _ j);
      proper = every-left _ _ _ h.proper;
    }

    pub then-sound : Sound x calls (suc n + size a) b
    then-sound = record {
      apart = apart-left (names (suc n + size a) b) _ (apart-right (names (suc n) a) _ h.apart);
      new = λ y i j. h.new y (in-right y (names (suc n) a) _ (in-left y (names (suc n + size a) b) _ i))
          (in-right y (free x.inner a) _ (in-left y (free x.inner b) _ j));
      proper = every-left (ProperNode x calls) (nodes b) (nodes c)
          (every-right (ProperNode x calls) (nodes a) (nodes b ++ nodes c) h.proper);
    }

    pub else-sound : Sound x calls (suc n + (size a + size b)) c
    else-sound = record {
      apart = apart-right (names (suc n + size a) b) _ (apart-right (names (suc n) a) _ h.apart);
      new = λ y i j. h.new y (in-right y (names (suc n) a) _ (in-right y (names (suc n + size a) b) _ i))
          (in-right y (free x.inner a) _ (in-right y (free x.inner b) _ j));
      proper = every-right (ProperNode x calls) (nodes b) (nodes c)
          (every-right (ProperNode x calls) (nodes a) (nodes b ++ nodes c) h.proper);
    }

  -- the first of a sequence
  pub first-sound : (n : ℕ) (e : Tree) (es : Trees) → IsApart (names_all n (more e es)) →
      AreNew (names_all n (more e es)) (free_all x.inner (more e es)) →
      Every (ProperNode x calls) (nodes_of (more e es)) → Sound x calls n e
  first-sound n e es a h k = record {
    apart = apart-left (names n e) _ a;
    new = λ y i j. h y (in-left y (names n e) _ i) (in-left y (free x.inner e) _ j);
    proper = every-left _ _ _ k;
  }

module _ (p : ProgramTree) (order : List Line) (taken : ℕ → List ℕ) where
  -- the operands of a `let` are all there, and its body is next on both sides
  pub let-goes : (h : Ground) (m q r : Env) (k : Control Tree) (hs : Frames) (n s : ℕ) (xs : List ℕ) (ds : Trees)
      (e : Tree) (ws : List Value) (a : After) (fs : Frames) (ts : AnfFrames) (needed : List ℕ) (es : List Event) →
      SoundForm (T.context_of p order) (Calls p) n s (Let xs ds e) → AreNew (names_form n (Let xs ds e)) needed →
      Values m (map A.Var xs) ws → Named (free_of_body (T.context_of p order) (Let xs ds e)) q m →
      Follows (T.context_of p order) (Calls p) taken m fs a ts needed →
      r ≡ gather (free_block taken (block_of (T.line_of order) (suc n + size_all ds) e a)) m →
      Stored (T.context_of p order) (Calls p) h.store →
      Related p order taken
      (Running (at h (Eval (InBlock (block_of (T.line_of order) (suc n + size_all ds) e a)) r) ts) es)
      (T.evaluate_cut (T.context_of p order) (at h k hs) e (bind_all xs ws q) fs es)
  let-goes h m q r k hs n s xs ds e ws a fs ts needed es so nw v nm fo eq st =
      let x = T.context_of p order in
      S.evals h (suc n + size_all ds) e _ m r a needed fo (let-sound x (Calls p) n s xs ds e so)
      (λ y i j. nw y (in-right y xs _ (in-right y (names_all (suc n) ds) _ i)) j)
      (named-gather (free x.inner e) (λ y i. i) (named-let xs (free x.inner e) ws q v nm)) eq st
