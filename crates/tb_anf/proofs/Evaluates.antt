-- An expression is next in the source, and its block in the target: how both go on, but for nodes that are
-- evaluated operand by operand.
use Rattle.std.proofs.Common.{◌≡◌, refl, sym, ap, subst, ℕ, suc, ◌+◌, ◌*◌, ◌<◌, inl, ⊎_elim, arith, false, true, List, [], ◌∷◌, ◌++◌}
use Rattle.tb_prim.specs.declared.place.Place.{Place}
use Rattle.tb_prim.specs.declared.event.Event.{Event}
use Rattle.tb_prim.specs.declared.constant.Const.{Const}
use Rattle.tb_semantics.specs.Graph.{IsIn, IsApart}
use Rattle.tb_core.specs.OperandOrder.{Line}
use Rattle.tb_core.specs.Rules.{Every}
use Rattle.tb_core.specs.Space.{values_locations}
use Rattle.tb_core.specs.Store.{value_of}
use Rattle.tb_core.proofs.Members.{in-left, in-right, in-either}
use Rattle.tb_ir.specs.Tree.{Tree, Node, Quote, Local, Global, Lambda, If, SetGlobal, DefGlobal, Seq, Trees, none, more, ProgramTree}
use Rattle.tb_ir.specs.FreeVariables.{free, free_all}
use Rattle.tb_ir.specs.Rules.{nodes_of}
use Rattle.tb_ir.specs.AnfTree as A
use Rattle.tb_ir.specs.AnfTree.{Block, Op}
use Rattle.tb_ir.specs.Machine as M
use Rattle.tb_ir.specs.Machine.{Env, Control, Eval, Running, gather, push, lookup}
use Rattle.tb_ir.specs.TreeMachine as T
use Rattle.tb_ir.specs.TreeMachine.{Frames, TreeWork, Sel, SetGlo, Rest, TreeState, env_values, line_of}
use Rattle.tb_ir.specs.AnfMachine.{InBlock, AnfFrames, free_block, free_op}
use Rattle.tb_anf.specs.NormalForm.{size, size_all, value_name, atom, After, Then, put, bound, block_of, block_of_sequence}
use Rattle.tb_anf.proofs.Advance.{own_name}
use Rattle.tb_anf.proofs.Blocks.{Stands}
use Rattle.tb_anf.proofs.Calls.{Calls}
use Rattle.tb_anf.proofs.Environments.{Named, named-sub, named-gather}
use Rattle.tb_anf.proofs.Names.{names, names_form, names_all, AreNew, ProperNode, Sound, SoundForm}
use Rattle.tb_anf.proofs.Nodes.{begins-related}
use Rattle.tb_anf.proofs.Operands.{apart-right, every-right}
use Rattle.tb_anf.proofs.Parts.{test-sound, then-sound, else-sound, set-sound, def-sound, first-sound}
use Rattle.tb_anf.proofs.Procs.{captured-free}
use Rattle.tb_anf.proofs.Rel.{Awaits, arms, assigned, defined, others, Follows, then}
use Rattle.tb_anf.proofs.Roots.{held-more, named-held}
use Rattle.tb_anf.proofs.States as S
use Rattle.tb_anf.proofs.States.{Ground, at, Related, Ready, Stored}
use Rattle.tb_anf.proofs.Turns.{taken, Turns, fewer, put-moves, source-goes, begins-bound}
use Rattle.tb_anf.proofs.Weights.{state_weight, weight, weight-size, frames_weight}

module _ (p : ProgramTree) (order : List Line) (input : List ℕ) where
  abbrev x : T.Context
  x = T.context_of p order

  abbrev mine : ℕ → List ℕ
  mine = taken p order input

  -- the rest of a sequence awaits a value, which it does not use
  rest-awaits : (m q : Env) (i n : ℕ) (d : Tree) (ds : Trees) (k : After) (needed : List ℕ) (fs : Frames)
      (ts : AnfFrames) (a : A.Operand) → suc n ≡ i → IsApart (names_all i (more d ds)) →
      AreNew (names_all i (more d ds)) (free_all x.inner (more d ds)) →
      Every (ProperNode x (Calls p)) (nodes_of (more d ds)) → AreNew (names_all i (more d ds)) needed →
      Named (free_all x.inner (more d ds)) q m → Follows x (Calls p) mine m fs k ts needed →
      Awaits x (Calls p) mine m a (Rest (more d ds) q) fs (block_of_sequence x.line i (more d ds) k) ts
      (free_all x.inner (more d ds) ++ needed)
  rest-awaits m q i n d ds k needed fs ts a e ap nw pr out nm f =
      let names_of = λ (z : ℕ). names_all z (more d ds) in
      subst (λ z. Awaits x (Calls p) mine m a (Rest (more d ds) q) fs (block_of_sequence x.line z (more d ds) k) ts
      (free_all x.inner (more d ds) ++ needed)) e
      (others n 0
      (record {
        apart = subst (λ z. IsApart (names_of z)) (sym e) ap;
        new = subst (λ z. AreNew (names_of z) (free_all x.inner (more d ds))) (sym e) nw;
        here = record { permuted = λ o. cc; long = omega arith; may = tt };
        proper = pr;
      })
      (subst (λ z. AreNew (names_of z) needed) (sym e) out) nm f)

  -- a sequence goes on to its first expression
  pub sequence-next : (h : Ground) (n : ℕ) (e : Tree) (es : Trees) (q m r : Env) (k : After) (needed : List ℕ)
      (hs fs : Frames) (ts : AnfFrames) (vs : List Event) (j : Control Tree) →
      Follows x (Calls p) mine m fs k ts needed → IsApart (names_all (suc n) (more e es)) →
      AreNew (names_all (suc n) (more e es)) (free_all x.inner (more e es)) →
      Every (ProperNode x (Calls p)) (nodes_of (more e es)) → AreNew (names_all (suc n) (more e es)) needed →
      Named (free_all x.inner (more e es)) q m →
      r ≡ gather (free_block mine (block_of_sequence x.line (suc n) (more e es) k)) m → Stored x (Calls p) h.store →
      Related p order mine
      (Running (at h (Eval (InBlock (block_of_sequence x.line (suc n) (more e es) k)) r) ts) vs)
      (T.sequence x (at h j hs) (more e es) q fs vs)
  sequence-next h n e none q m r k needed hs fs ts vs j f a nw pr out nm eq st =
      S.evals h (suc n) e _ m r k needed f (first-sound x (Calls p) (suc n) e none a nw pr)
      (λ y i. out y (in-left y (names (suc n) e) _ i))
      (named-gather (free x.inner e) (λ y i. i) (named-sub (λ y i. in-left y (free x.inner e) _ i) nm)) eq st
  sequence-next h n e (more d ds) q m r k needed hs fs ts vs j f a nw pr out nm eq st =
      let later = free_all x.inner (more d ds) in
      let own = names (suc n) e in
      let rest = names_all (suc n + size e) (more d ds) in
      let new : AreNew own (later ++ needed) = λ y i l. ⊎_elim
      (λ z. nw y (in-left y own rest i) (in-right y (free x.inner e) later z))
      (λ z. out y (in-left y own rest i) z)
      (in-either y later needed l) in
      S.evals h (suc n) e _ m r (Then (value_name (suc n)) _) (later ++ needed)
      (then (rest-awaits m (gather later q) (suc n + size e) (n + size e) d ds k needed fs ts _ (omega arith)
      (apart-right own rest a) (λ y i l. nw y (in-right y own rest i) (in-right y (free x.inner e) later l))
      (every-right _ _ _ pr) (λ y i. out y (in-right y own rest i))
      (named-gather later (λ y i. i) (named-sub (λ y i. in-right y (free x.inner e) later i) nm)) f)
      (new (value_name (suc n)) (own_name (suc n) e)))
      (first-sound x (Calls p) (suc n) e (more d ds) a nw pr) new
      (named-gather (free x.inner e) (λ y i. i) (named-sub (λ y i. in-left y (free x.inner e) _ i) nm)) eq st

  pub sequence-weight : (c : T.TreeConfig) (e : Tree) (es : Trees) (q : Env) (fs : Frames) (vs : List Event) →
      state_weight (line_of order) (T.sequence x c (more e es) q fs vs) <
      2 * size_all (more e es) + frames_weight (line_of order) fs
  sequence-weight c e none q fs vs = let z = weight-size e in omega arith
  sequence-weight c e (more d ds) q fs vs = let z = weight-size e in omega arith

  module _ (h : Ground) (q m r : Env) (k : After) (needed : List ℕ) (fs : Frames) (ts : AnfFrames) (es : List Event)
      (follows : Follows x (Calls p) mine m fs k ts needed) (st : Stored x (Calls p) h.store) where
    abbrev pub Goes : Block → Tree → Type 0
    Goes b e = Turns p order input (Running (at h (Eval (InBlock b) r) ts) es) (Running (at h (Eval e q) fs) es)

    -- what an operation names is free in the expression
    stands : (e : Tree) (op : Op) → Named (free x.inner e) q m →
        ((y : ℕ) → IsIn y (free_op mine op) → IsIn y (free x.inner e)) →
        Stands p order mine (fewer p order input) m (Eval e q) fs fs op
    stands e op nm sub = record {
      marked = refl;
      frames = λ l i. in-right l (values_locations (env_values q)) _ i;
      atoms = λ y i. held-more m y (values_locations (env_values q)) _
          (λ l. in-left l (values_locations (env_values q)) _) (named-held y nm (sub y i));
    }

    -- the operation of an expression is next
    at_once : (e : Tree) (op : Op) → Named (free x.inner e) q m →
        ((y : ℕ) → IsIn y (free_op mine op) → IsIn y (free x.inner e)) →
        Ready p order mine m (at h (Eval e q) fs) es fs op
        (M.step (T.language p order) (Running (at h (Eval e q) fs) es)) →
        r ≡ gather (free_block mine (put k op)) m → Goes (put k op) e
    at_once e op nm sub rd eq =
        put-moves p order input h m r (Eval e q) fs fs ts k needed es op follows rd (stands e op nm sub) eq st

    pub evaluates-quote : (n : ℕ) (u : Place) (s : ℕ) (c : Const) → Named [] q m →
        r ≡ gather (free_block mine (block_of x.line n (Node u s (Quote c)) k)) m →
        Goes (block_of x.line n (Node u s (Quote c)) k) (Node u s (Quote c))
    evaluates-quote n u s c nm eq =
        at_once (Node u s (Quote c)) (A.Atom (A.Quote c)) nm (λ y i. i) (S.atom (A.Quote c) (value_of c) refl) eq

    pub evaluates-local : (n : ℕ) (u : Place) (s y : ℕ) → Named (y ∷ []) q m →
        r ≡ gather (free_block mine (block_of x.line n (Node u s (Local y)) k)) m →
        Goes (block_of x.line n (Node u s (Local y)) k) (Node u s (Local y))
    evaluates-local n u s y nm eq =
        let v = nm.has y (inl refl) in
        at_once (Node u s (Local y)) (A.Atom (A.Var y)) nm (λ z i. i)
        (subst (λ o. Ready p order mine m (at h (Eval (Node u s (Local y)) q) fs) es fs (A.Atom (A.Var y))
        (M.give_value (at h (Eval (Node u s (Local y)) q) fs) o es)) (sym v.1) (S.atom (A.Var y) v.0 v.2)) eq

    pub evaluates-global : (n : ℕ) (u : Place) (s g : ℕ) → Named [] q m →
        r ≡ gather (free_block mine (block_of x.line n (Node u s (Global g)) k)) m →
        Goes (block_of x.line n (Node u s (Global g)) k) (Node u s (Global g))
    evaluates-global n u s g nm eq =
        at_once (Node u s (Global g)) (A.Global g u) nm (λ y i. i) (S.global g u refl) eq

    pub evaluates-lambda : (n : ℕ) (u : Place) (s l : ℕ) → SoundForm x (Calls p) n s (Lambda l) →
        Named (x.inner l) q m →
        r ≡ gather (free_block mine (block_of x.line n (Node u s (Lambda l)) k)) m →
        Goes (block_of x.line n (Node u s (Lambda l)) k) (Node u s (Lambda l))
    evaluates-lambda n u s l so nm eq =
        at_once (Node u s (Lambda l)) (A.Close l) nm (λ y i. fewer p order input l y i)
        (S.close l q so.here.may refl (named-sub (λ y i. captured-free p l y i) nm)) eq

    -- the first part of a node is next, with its operation awaiting the value
    part_next : (n : ℕ) (e d : Tree) (w : TreeWork) (op : Op) (behind : List ℕ) →
        M.step (T.language p order) (Running (at h (Eval e q) fs) es) ≡
        Running (at h (Eval d (gather (free x.inner d) q)) (push w fs)) es →
        frames_weight (line_of order) (push w fs) + weight d < weight e + frames_weight (line_of order) fs →
        Sound x (Calls p) (suc n) d → AreNew (names (suc n) d) behind →
        Awaits x (Calls p) mine m (atom (suc n) d) w fs (put k op) ts behind → Named (free x.inner d) q m →
        r ≡ gather (free_block mine (bound x.line (suc n) d (put k op))) m → Goes (bound x.line (suc n) d (put k op)) e
    part_next n e d w op behind to lt so nw aw nm eq =
        source-goes p order input _ _ _ to
        (begins-related p order mine h m q r d w fs _ ts es
        (begins-bound x (Calls p) mine m (suc n) d w fs (put k op) ts behind so nw aw) nm eq st)
        (omega arith)

    pub evaluates-if : (n : ℕ) (u : Place) (s : ℕ) (a b c : Tree) → SoundForm x (Calls p) n s (If a b c) →
        AreNew (names_form n (If a b c)) needed → Named (free x.inner (Node u s (If a b c))) q m →
        r ≡ gather (free_block mine (block_of x.line n (Node u s (If a b c)) k)) m →
        Goes (block_of x.line n (Node u s (If a b c)) k) (Node u s (If a b c))
    evaluates-if n u s a b c so nw nm eq =
        let both = free x.inner b ++ free x.inner c in
        let all = names (suc n + size a) b ++ names (suc n + (size a + size b)) c in
        let e = weight-size a in
        part_next n (Node u s (If a b c)) a (Sel b c (gather both q)) _ (both ++ needed) refl (omega arith)
        (test-sound x (Calls p) n s a b c so)
        (λ y i j. ⊎_elim
        (λ z. so.new y (in-left y (names (suc n) a) _ i) (in-right y (free x.inner a) _ z))
        (λ z. nw y (in-left y (names (suc n) a) _ i) z) (in-either y both needed j))
        (arms _ _ (then-sound x (Calls p) n s a b c so) (else-sound x (Calls p) n s a b c so)
        (named-gather both (λ y i. i) (named-sub (λ y i. in-right y (free x.inner a) _ i) nm))
        (λ y i j. so.new y (in-right y (names (suc n) a) all i) (in-right y (free x.inner a) both j)) follows)
        (named-sub (λ y i. in-left y (free x.inner a) both i) nm) eq

    pub evaluates-set : (n : ℕ) (u : Place) (s g : ℕ) (d : Tree) → SoundForm x (Calls p) n s (SetGlobal g d) →
        AreNew (names (suc n) d) needed → Named (free x.inner d) q m →
        r ≡ gather (free_block mine (block_of x.line n (Node u s (SetGlobal g d)) k)) m →
        Goes (block_of x.line n (Node u s (SetGlobal g d)) k) (Node u s (SetGlobal g d))
    evaluates-set n u s g d so nw nm eq =
        let e = weight-size d in
        part_next n (Node u s (SetGlobal g d)) d (SetGlo g false u) _ needed refl (omega arith)
        (set-sound x (Calls p) n s g d so) nw (assigned follows) nm eq

    pub evaluates-definition : (n : ℕ) (u : Place) (s g : ℕ) (d : Tree) → SoundForm x (Calls p) n s (DefGlobal g d) →
        AreNew (names (suc n) d) needed → Named (free x.inner d) q m →
        r ≡ gather (free_block mine (block_of x.line n (Node u s (DefGlobal g d)) k)) m →
        Goes (block_of x.line n (Node u s (DefGlobal g d)) k) (Node u s (DefGlobal g d))
    evaluates-definition n u s g d so nw nm eq =
        let e = weight-size d in
        part_next n (Node u s (DefGlobal g d)) d (SetGlo g true u) _ needed refl (omega arith)
        (def-sound x (Calls p) n s g d so) nw (defined follows) nm eq

    pub evaluates-sequence : (n : ℕ) (u : Place) (s : ℕ) (ds : Trees) → SoundForm x (Calls p) n s (Seq ds) →
        AreNew (names_form n (Seq ds)) needed → Named (free_all x.inner ds) q m →
        r ≡ gather (free_block mine (block_of x.line n (Node u s (Seq ds)) k)) m →
        Goes (block_of x.line n (Node u s (Seq ds)) k) (Node u s (Seq ds))
    evaluates-sequence n u s none so nw nm eq = let l = so.here.long in absurd (omega arith)
    evaluates-sequence n u s (more e ds) so nw nm eq =
        let c = at h (Eval (Node u s (Seq (more e ds))) q) fs in
        let lt = sequence-weight c e ds q fs es in
        source-goes p order input _ _ _ refl
        (sequence-next h n e ds q m r k needed fs fs ts es (Eval (Node u s (Seq (more e ds))) q) follows so.apart so.new
        so.proper nw nm eq st) (omega arith)
