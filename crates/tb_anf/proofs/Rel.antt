-- How the states of a program in A-normal form and of its source are related. An environment `m` holds all that
-- was bound in a body so far: each environment of the target is cut from it.
use Rattle.std.proofs.Common.{◌≡◌, refl, ◌∙◌, ℕ, suc, ◌+◌, Bool, true, false, List, [], ◌∷◌, ◌++◌, map, Option, Some, slice_get}
use Rattle.tb_prim.specs.declared.place.Place.{Place}
use Rattle.tb_prim.specs.declared.constant.Const.{Const}
use Rattle.tb_semantics.specs.Graph.{IsIn}
use Rattle.tb_core.specs.FreeVariables.{without}
use Rattle.tb_core.specs.Store.{Value}
use Rattle.tb_core.proofs.Members.{in-left, in-right}
use Rattle.tb_ir.specs.Tree.{Tree, Node, Form, NewCell, CellGet, CellSet, Let, Seq, Call, Direct, PrimUse, Apply, Trees, more, operands}
use Rattle.tb_ir.specs.FreeVariables.{free, free_all}
use Rattle.tb_ir.specs.AnfTree as A
use Rattle.tb_ir.specs.AnfTree.{Operand, Block, Op}
use Rattle.tb_ir.specs.Machine.{Env, Bind, Frame, Own, Top, gather, push, mark_top}
use Rattle.tb_ir.specs.TreeMachine.{TreeWork, Sel, SetGlo, Rest, Args, Context, Frames, numbers, free_of_numbers, free_of_body}
use Rattle.tb_ir.specs.AnfMachine.{Binding, AnfFrames, free_block, free_of_atom, free_of_atoms, atom_value}
use Rattle.tb_anf.specs.NormalForm.{size, size_all, atom, atoms, After, AtEnd, Then, put, around, block_of, block_of_sequence, bound_operands, named_operands}
use Rattle.tb_anf.proofs.Environments.{Named, named-more, atom-more}
use Rattle.tb_anf.proofs.Names.{names, names_form, by_operands, AreNew, Sound, SoundForm}

-- the operands of a node that is evaluated operand by operand: what puts their blocks before another one, and
-- the atoms of their values
abbrev pub steps : (ℕ → Option (List ℕ)) → ℕ → Form → List (Block → Block)
steps line n (Let xs es e) = named_operands line (suc n) xs es
steps line n f = bound_operands line (suc n) (operands f)

abbrev pub operand_atoms : ℕ → Form → List Operand
operand_atoms n (Let xs es e) = map A.Var xs
operand_atoms n f = atoms (suc n) (operands f)

-- the operation of a node, with the values of its operands
abbrev pub operation : ℕ → Place → Form → Op
operation n p (NewCell e) = A.NewCell (atom (suc n) e)
operation n p (CellGet e) = A.CellGet (atom (suc n) e) p
operation n p (CellSet c e) = A.CellSet (atom (suc n) c) (atom (suc n + size c) e)
operation n p (Call f es) = A.Call (atom (suc n) f) (atoms (suc n + size f) es) p
operation n p (Direct l es) = A.Direct l (atoms (suc n) es)
operation n p (PrimUse q es) = A.PrimUse q (atoms (suc n) es) p
operation n p (Apply f l) = A.Apply (atom (suc n) f) (atom (suc n + size f) l) p
operation n p _ = A.Atom (A.Quote Const.Unspecified)

-- what comes behind the operands of a node
abbrev pub finish : (ℕ → Option (List ℕ)) → ℕ → Place → Form → After → Block
finish line n p (Let xs es e) k = block_of line (suc n + size_all es) e k
finish line n p f k = put k (operation n p f)

pub by-operands : (line : ℕ → Option (List ℕ)) (n : ℕ) (p : Place) (s : ℕ) (f : Form) (k : After) →
    by_operands f ≡ true →
    block_of line n (Node p s f) k ≡ around (steps line n f) (numbers (line s) f) (finish line n p f k)
by-operands line n p s (NewCell e) k h = refl
by-operands line n p s (CellGet e) k h = refl
by-operands line n p s (CellSet c e) k h = refl
by-operands line n p s (Let xs es e) k h = refl
by-operands line n p s (Call f es) k h = refl
by-operands line n p s (Direct l es) k h = refl
by-operands line n p s (PrimUse q es) k h = refl
by-operands line n p s (Apply f l) k h = refl
by-operands line n p s _ k h = cc

-- operands that are evaluated: their numbers, their atoms, and their values
pub data Done (m : Env) (all : List Operand) : List ℕ → List Operand → List Value → Type 0 where
  none_done : Done m all [] [] []
  one_done : {i : ℕ} {a : Operand} {v : Value} {is : List ℕ} {ds : List Operand} {vs : List Value} →
      slice_get all i ≡ Some a → atom_value m a ≡ Some v → Done m all is ds vs →
      Done m all (i ∷ is) (a ∷ ds) (v ∷ vs)

pub done-more : (x : ℕ) (v : Value) {m : Env} {all : List Operand} {is : List ℕ} {ds : List Operand} {vs : List Value} →
    (IsIn x (free_of_atoms ds) → ⊥) → Done m all is ds vs → Done (Bind x v m) all is ds vs
done-more x v new none_done = none_done
done-more x v {m} new (one_done {a = a} {ds = ds} g e h) =
    one_done g (atom-more x v m a (λ i. new (in-left x (free_of_atom a) (free_of_atoms ds) i)) ∙ e)
    (done-more x v (λ i. new (in-right x (free_of_atom a) (free_of_atoms ds) i)) h)

pub done-last : {m : Env} {all : List Operand} {is : List ℕ} {ds : List Operand} {vs : List Value} (i : ℕ) (a : Operand)
    (v : Value) → Done m all is ds vs → slice_get all i ≡ Some a → atom_value m a ≡ Some v →
    Done m all (is ++ i ∷ []) (ds ++ a ∷ []) (vs ++ v ∷ [])
done-last i a v none_done g e = one_done g e none_done
done-last i a v (one_done g' e' h) g e = one_done g' e' (done-last i a v h g e)

-- a frame that is marked or not
abbrev pub framed : {W : Type 0} → Bool → W → Frame W
framed c w = record { marked = c; work = Own w }

module _ (x : Context) (calls : Form → Type 0) (taken : ℕ → List ℕ) where
  mutual
    -- when the source gives the value of an atom to this work above its frames, then the target is at this block
    -- above its own; the variables are those of `m` on which what follows in the body rests
    pub data Awaits : Env → Operand → TreeWork → Frames → Block → AnfFrames → List ℕ → Type 0 where
      operand : (n i : ℕ) (done rest : List ℕ)
          (ds : List Operand) {m q : Env} {a : Operand} {p : Place} {s : ℕ} {f : Form} {vs : List Value}
          {k : After} {fs : Frames} {ts : AnfFrames} {needed : List ℕ} →
          by_operands f ≡ true → SoundForm x calls n s f → AreNew (names_form n f) needed →
          numbers (x.line s) f ≡ done ++ i ∷ rest → slice_get (operand_atoms n f) i ≡ Some a →
          Done m (operand_atoms n f) done ds vs →
          Named (free_of_numbers x (operands f) rest ++ free_of_body x f) q m → Follows m fs k ts needed →
          Awaits m a (Args p s f vs q) fs (around (steps x.line n f) rest (finish x.line n p f k)) ts
          ((free_of_numbers x (operands f) rest ++ free_of_body x f) ++ (free_of_atoms ds ++ needed))
      arms : (n l : ℕ) {m q : Env} {a : Operand} {b c : Tree} {k : After} {fs : Frames} {ts : AnfFrames}
          {needed : List ℕ} → Sound x calls n b → Sound x calls l c → Named (free x.inner b ++ free x.inner c) q m →
          AreNew (names n b ++ names l c) (free x.inner b ++ free x.inner c) → Follows m fs k ts needed →
          Awaits m a (Sel b c q) fs
          (put k (A.Branch a (block_of x.line n b AtEnd) (block_of x.line l c AtEnd))) ts
          ((free x.inner b ++ free x.inner c) ++ needed)
      assigned : {m : Env} {a : Operand} {g : ℕ} {p : Place} {k : After} {fs : Frames} {ts : AnfFrames}
          {needed : List ℕ} → Follows m fs k ts needed →
          Awaits m a (SetGlo g false p) fs (put k (A.SetGlobal g a p)) ts needed
      defined : {m : Env} {a : Operand} {g : ℕ} {p : Place} {k : After} {fs : Frames} {ts : AnfFrames}
          {needed : List ℕ} → Follows m fs k ts needed →
          Awaits m a (SetGlo g true p) fs (put k (A.DefGlobal g a)) ts needed
      others : (n s : ℕ) {m q : Env} {a : Operand} {d : Tree} {ds : Trees} {k : After} {fs : Frames} {ts : AnfFrames}
          {needed : List ℕ} → SoundForm x calls n s (Seq (more d ds)) → AreNew (names_form n (Seq (more d ds))) needed →
          Named (free_all x.inner (more d ds)) q m → Follows m fs k ts needed →
          Awaits m a (Rest (more d ds) q) fs (block_of_sequence x.line (suc n) (more d ds) k) ts
          (free_all x.inner (more d ds) ++ needed)

    -- what comes behind an expression in the target is what waits above the frames of the source
    pub data Follows : Env → Frames → After → AnfFrames → List ℕ → Type 0 where
      at_end : {m : Env} {fs : Frames} {ts : AnfFrames} → FramesRel fs ts → Follows m fs AtEnd ts []
      then : {m : Env} {y : ℕ} {w : TreeWork} {b : Block} {fs : Frames} {ts : AnfFrames} {needed : List ℕ} →
          Awaits m (A.Var y) w fs b ts needed → (IsIn y needed → ⊥) → Follows m (push w fs) (Then y b) ts needed

    -- the frames below
    pub data FramesRel : Frames → AnfFrames → Type 0 where
      top : (c : Bool) (k : ℕ) →
          FramesRel (record { marked = c; work = Top k } ∷ []) (record { marked = c; work = Top k } ∷ [])
      waiting : (c : Bool) {m r : Env} {y : ℕ} {w : TreeWork} {b : Block} {fs : Frames} {ts : AnfFrames}
          {needed : List ℕ} → Awaits m (A.Var y) w fs b ts needed → (IsIn y needed → ⊥) →
          r ≡ gather (without (y ∷ []) (free_block taken b)) m →
          FramesRel (framed c w ∷ fs) (framed c (Binding y b r) ∷ ts)

  -- a name on which nothing rests is bound
  mutual
    pub awaits-more : (y : ℕ) (v : Value) {m : Env} {a : Operand} {w : TreeWork} {fs : Frames} {b : Block}
        {ts : AnfFrames} {needed : List ℕ} → (IsIn y needed → ⊥) → Awaits m a w fs b ts needed →
        Awaits (Bind y v m) a w fs b ts needed
    awaits-more y v new (operand n i done rest ds {f = f} {needed = needed} o so nw ns g d q k) =
        let mine = free_of_numbers x (operands f) rest ++ free_of_body x f in
        operand n i done rest ds o so nw ns g
        (done-more y v (λ i. new (in-right y mine _ (in-left y (free_of_atoms ds) needed i))) d)
        (named-more y v (λ i. new (in-left y mine _ i)) q)
        (follows-more y v (λ i. new (in-right y mine _ (in-right y (free_of_atoms ds) needed i))) k)
    awaits-more y v new (arms n l {b = b} {c = c} {needed = needed} sb sc q nw k) =
        let mine = free x.inner b ++ free x.inner c in
        arms n l sb sc (named-more y v (λ i. new (in-left y mine needed i)) q) nw
        (follows-more y v (λ i. new (in-right y mine needed i)) k)
    awaits-more y v new (assigned k) = assigned (follows-more y v new k)
    awaits-more y v new (defined k) = defined (follows-more y v new k)
    awaits-more y v new (others n s {d = d} {ds = ds} {needed = needed} so nw q k) =
        others n s so nw (named-more y v (λ i. new (in-left y (free_all x.inner (more d ds)) needed i)) q)
        (follows-more y v (λ i. new (in-right y (free_all x.inner (more d ds)) needed i)) k)

    pub follows-more : (y : ℕ) (v : Value) {m : Env} {fs : Frames} {k : After} {ts : AnfFrames} {needed : List ℕ} →
        (IsIn y needed → ⊥) → Follows m fs k ts needed → Follows (Bind y v m) fs k ts needed
    follows-more y v new (at_end f) = at_end f
    follows-more y v new (then h out) = then (awaits-more y v new h) out

  pub mark-frames : {fs : Frames} {ts : AnfFrames} → FramesRel fs ts → FramesRel (mark_top fs) (mark_top ts)
  mark-frames (top c k) = top true k
  mark-frames (waiting c h out e) = waiting true h out e
