-- Related states, and an operation with its atoms: what it does is what the node of the source does.
use Rattle.std.proofs.Common.{◌≡◌, sym, ap, ◌∙◌, subst, ℕ, zero, suc, Bool, true, false, cond, List, [], ◌∷◌, ◌++◌, length, Option, Some, None, slice_get, slice_set, append-nil}
use Rattle.tb_prim.specs.declared.place.Place.{Place}
use Rattle.tb_prim.specs.declared.event.Event.{Event}
use Rattle.tb_prim.specs.declared.event.Cause.{Cause}
use Rattle.tb_prim.specs.declared.primitive.Primitive.{Primitive}
use Rattle.tb_semantics.specs.Graph.{IsIn}
use Rattle.tb_core.specs.OperandOrder.{Line}
use Rattle.tb_core.specs.Rules.{Every}
use Rattle.tb_core.specs.Store.{Value, Unspecified, Undefined, At}
use Rattle.tb_core.specs.Effects.{Effect, Gives, Makes, Changes, Puts, Takes, Peeks, Fails, Misused, effect_of, is_false}
use Rattle.tb_core.specs.Lists.{Walked, Elements, TooLong, NoList, walked}
use Rattle.tb_core.proofs.Members.{in-left, in-right}
use Rattle.tb_ir.specs.Tree.{Tree, Form, Lambda, ProgramTree}
use Rattle.tb_ir.specs.FreeVariables.{free}
use Rattle.tb_ir.specs.AnfTree as A
use Rattle.tb_ir.specs.AnfTree.{Operand, Block, Op}
use Rattle.tb_ir.specs.Machine as M
use Rattle.tb_ir.specs.Machine.{Env, Item, Cell, Obj, Clo, Callee, Closure, Lifted, Control, Eval, Bound, Val, Entering, Frame, Config, State, Running, Stopped, Lost, lookup, gather, contents, push, mark_top, emit}
use Rattle.tb_ir.specs.TreeMachine as T
use Rattle.tb_ir.specs.TreeMachine.{TreeWork, TreeConfig, TreeState, Frames, Context, context_of}
use Rattle.tb_ir.specs.AnfMachine as N
use Rattle.tb_ir.specs.AnfMachine.{Code, InBlock, InOp, AnfWork, AnfConfig, AnfState, AnfFrames, free_block, free_op, free_of_atom, free_of_atoms, atom_value, atom_values}
use Rattle.tb_ir.specs.Space.{marks, control_locations, frames_locations}
use Rattle.tb_anf.specs.NormalForm.{After, AtEnd, block_of}
use Rattle.tb_anf.proofs.Environments.{Named, Values, named-sub, named-gather, named-gathers, gather-sub, lookup-gather, atom-gather, values-gather, values-there}
use Rattle.tb_anf.proofs.Calls.{Calls, MayClose, MayEnter}
use Rattle.tb_anf.proofs.Names.{names, AreNew, Sound}
use Rattle.tb_anf.proofs.Rel.{Awaits, Follows, at_end, FramesRel, mark-frames}
use Rattle.tb_anf.proofs.Advance.{Simple}

-- what configurations of both machines have in common
pub record Ground : Type 0 where
  pub globals : List Value
  pub store : List Item
  pub input : List ℕ
  pub met_end : Bool

abbrev pub at : {C W : Type 0} → Ground → Control C → List (Frame W) → Config C W
at h k fs = record {
  control = k;
  frames = fs;
  globals = h.globals;
  store = h.store;
  input = h.input;
  met_end = h.met_end;
}

-- what the target has at once, the source has
pub record Within (k : Control Code) (ts : AnfFrames) (j : Control Tree) (fs : Frames) : Type 0 where
  pub marked : marks ts ≡ marks fs
  pub roots : (l : ℕ) → IsIn l (control_locations k ++ frames_locations N.work_values ts) →
      IsIn l (control_locations j ++ frames_locations T.work_values fs)

module _ (x : Context) (calls : Form → Type 0) where
  -- a procedure has what it captures, and its lambda expression is as it is to be
  abbrev pub HasCaptured : Item → Type 0
  HasCaptured (Cell v) = Unit {0}
  HasCaptured (Obj o) = Unit {0}
  HasCaptured (Clo l r) = calls (Lambda l) × ((y : ℕ) → IsIn y (x.captured l) → (v : Value) × (lookup r y ≡ Some v))

  abbrev pub Stored : List Item → Type 0
  Stored st = Every HasCaptured st

  pub stored-more : (st : List Item) (i : Item) → Stored st → HasCaptured i → Stored (st ++ i ∷ [])
  stored-more [] i s h = (h, tt)
  stored-more (j ∷ st) i s h = (s.0, stored-more st i s.1 h)

  pub stored-set : (st : List Item) (l : ℕ) (i : Item) → Stored st → HasCaptured i → Stored (slice_set st l i)
  stored-set [] l i s h = s
  stored-set (j ∷ st) zero i s h = (h, s.1)
  stored-set (j ∷ st) (suc l) i s h = (s.0, stored-set st l i s.1 h)

module _ (p : ProgramTree) (order : List Line) (taken : ℕ → List ℕ) where
  abbrev pub source : Context
  source = context_of p order

  -- what the source does next in a configuration is what this operation does with the values of its atoms, above
  -- these frames
  pub data Ready (m : Env) (d : TreeConfig) (es : List Event) (fs : Frames) : Op → TreeState → Type 0 where
    atom : (a : Operand) (v : Value) → atom_value m a ≡ Some v →
        Ready m d es fs (A.Atom a) (M.go d (Val v) fs es)
    global : (g : ℕ) (q : Place) → d.frames ≡ fs →
        Ready m d es fs (A.Global g q) (M.read_value d q (slice_get d.globals g) es)
    set_global : (g : ℕ) (a : Operand) (q : Place) (v : Value) → atom_value m a ≡ Some v →
        Ready m d es fs (A.SetGlobal g a q) (M.set_global d g q v fs es)
    def_global : (g : ℕ) (a : Operand) (v : Value) → atom_value m a ≡ Some v →
        Ready m d es fs (A.DefGlobal g a) (M.assign_global d g v fs es)
    primitive : (q : Primitive) (ds : List Operand) (u : Place) (vs : List Value) → Values m ds vs →
        Ready m d es fs (A.PrimUse q ds u) (M.use_primitive d u q vs fs es)
    new_cell : (a : Operand) (v : Value) → atom_value m a ≡ Some v →
        Ready m d es fs (A.NewCell a) (M.new_cell d v fs es)
    cell_get : (a : Operand) (q : Place) (v : Value) → atom_value m a ≡ Some v →
        Ready m d es fs (A.CellGet a q) (M.get_cell d q v fs es)
    cell_set : (a b : Operand) (v u : Value) → Values m (a ∷ b ∷ []) (v ∷ u ∷ []) →
        Ready m d es fs (A.CellSet a b) (M.set_cell d v u fs es)
    close : (l : ℕ) (q : Env) → MayClose p l → d.frames ≡ fs → Named (source.captured l) q m →
        Ready m d es fs (A.Close l) (M.make_closure d l (source.captured l) q es)
    call : (a : Operand) (ds : List Operand) (q : Place) (v : Value) (vs : List Value) → Values m (a ∷ ds) (v ∷ vs) →
        Ready m d es fs (A.Call a ds q) (M.enter d q v vs fs es)
    direct : (l : ℕ) (ds : List Operand) (vs : List Value) → MayEnter p l → Values m ds vs →
        Ready m d es fs (A.Direct l ds) (M.enter_lifted d l vs fs es)
    apply : (a b : Operand) (q : Place) (v u : Value) → Values m (a ∷ b ∷ []) (v ∷ u ∷ []) →
        Ready m d es fs (A.Apply a b q) (M.apply d q v u fs es)
    branch : (a : Operand) (v : Value) (n l : ℕ) (b c : Tree) (q : Env) → atom_value m a ≡ Some v →
        Sound source (Calls p) n b → Sound source (Calls p) l c →
        Named (free source.inner b ++ free source.inner c) q m →
        Ready m d es fs (A.Branch a (block_of source.line n b AtEnd) (block_of source.line l c AtEnd))
        (cond (is_false v) (T.evaluate_cut source d c q fs es) (T.evaluate_cut source d b q fs es))

  -- what is entered without a procedure may be
  abbrev pub MayRun : Callee → Type 0
  MayRun (Closure l) = Unit {0}
  MayRun (Lifted m) = MayEnter p m

  pub data Related : AnfState → TreeState → Type 0 where
    -- an expression and its block
    evals : (h : Ground) (n : ℕ) (e : Tree) (q m r : Env) (k : After)
        (needed : List ℕ) {fs : Frames} {ts : AnfFrames} {es : List Event} →
        Follows source (Calls p) taken m fs k ts needed → Sound source (Calls p) n e → AreNew (names n e) needed →
        Named (free source.inner e) q m → r ≡ gather (free_block taken (block_of source.line n e k)) m →
        Stored source (Calls p) h.store →
        Related (Running (at h (Eval (InBlock (block_of source.line n e k)) r) ts) es) (Running (at h (Eval e q) fs) es)
    -- an operand that is an atom is not read yet
    reads : (h : Ground) (e : Tree) (a : Operand) (q m r : Env) (w : TreeWork) (b : Block)
        (needed : List ℕ) {fs : Frames} {ts : AnfFrames}
        {es : List Event} → Simple e a → Awaits source (Calls p) taken m a w fs b ts needed →
        Named (free source.inner e) q m → r ≡ gather (free_block taken b) m → Stored source (Calls p) h.store →
        Related (Running (at h (Eval (InBlock b) r) ts) es) (Running (at h (Eval e q) (push w fs)) es)
    gives : (h : Ground) (v : Value) (a : Operand) (m r : Env) (w : TreeWork) (b : Block)
        (needed : List ℕ) {fs : Frames} {ts : AnfFrames}
        {es : List Event} → Awaits source (Calls p) taken m a w fs b ts needed → atom_value m a ≡ Some v →
        r ≡ gather (free_block taken b) m → Stored source (Calls p) h.store →
        Related (Running (at h (Eval (InBlock b) r) ts) es) (Running (at h (Val v) (push w fs)) es)
    -- an operation is next
    runs : (h : Ground) (m r : Env) (j : Control Tree) (hs : Frames)
        (op : Op) {fs : Frames} {ts : AnfFrames} {es : List Event} →
        Ready m (at h j hs) es fs op (M.step (T.language p order) (Running (at h j hs) es)) →
        Within (Eval (InOp op) r) ts j hs → r ≡ gather (free_op taken op) m → FramesRel source (Calls p) taken fs ts →
        Stored source (Calls p) h.store → Related (Running (at h (Eval (InOp op) r) ts) es) (Running (at h j hs) es)
    returns : (h : Ground) (v : Value) {fs : Frames} {ts : AnfFrames} {es : List Event} →
        FramesRel source (Calls p) taken fs ts →
        Stored source (Calls p) h.store → Related (Running (at h (Val v) ts) es) (Running (at h (Val v) fs) es)
    enters : (h : Ground) (callee : Callee) (vs : List Value) → MayRun callee →
        {fs : Frames} {ts : AnfFrames} {es : List Event} →
        FramesRel source (Calls p) taken fs ts → Stored source (Calls p) h.store →
        Related (Running (at h (Entering callee vs) ts) es) (Running (at h (Entering callee vs) fs) es)
    -- procedures that name one another are made, and the environments are not cut yet
    bound : (h : Ground) (n : ℕ) (e : Tree) (q m r : Env) (k : After)
        (needed : List ℕ) {fs : Frames} {ts : AnfFrames} {es : List Event} →
        Follows source (Calls p) taken m fs k ts needed → Sound source (Calls p) n e → AreNew (names n e) needed →
        Named (free source.inner e) q m →
        gather (free_block taken (block_of source.line n e k)) r ≡ gather
        (free_block taken (block_of source.line n e k)) m →
        Stored source (Calls p) h.store →
        Within (Bound (InBlock (block_of source.line n e k)) r) ts (Bound e q) fs →
        Related (Running (at h (Bound (InBlock (block_of source.line n e k)) r) ts) es)
        (Running (at h (Bound e q) fs) es)
    stopped : (h : Ground) (k : Control Code) (j : Control Tree) {fs : Frames} {ts : AnfFrames} {es : List Event} →
        Within k ts j fs → Related (Stopped (at h k ts) es) (Stopped (at h j fs) es)
    lost : (h : Ground) (k : Control Code) (j : Control Tree) {fs : Frames} {ts : AnfFrames} {es : List Event} →
        Within k ts j fs → Related (Lost (at h k ts) es) (Lost (at h j fs) es)

  -- what both machines do alike, above related frames
  module _ (h : Ground) (k : Control Code) (ts : AnfFrames) (j : Control Tree) (hs fs : Frames)
      (within : Within k ts j hs) (rel : FramesRel source (Calls p) taken fs ts) (st : Stored source
      (Calls p) h.store) where
    abbrev c : AnfConfig
    c = at h k ts

    abbrev d : TreeConfig
    d = at h j hs

    fails : (cause : Cause) (q : Place) (es : List Event) → Related (M.fail c cause q es) (M.fail d cause q es)
    fails cause q es = stopped h k j within

    loses : (es : List Event) → Related (Lost c es) (Lost d es)
    loses es = lost h k j within

    gives_value : (v : Value) (es : List Event) → Related (M.go c (Val v) ts es) (M.go d (Val v) fs es)
    gives_value v es = returns h v rel st

    adds : (i : Item) (v : Value) (es : List Event) → HasCaptured source (Calls p) i →
        Related (M.go_with c (Val v) ts (h.store ++ i ∷ []) es) (M.go_with d (Val v) fs (h.store ++ i ∷ []) es)
    adds i v es o = returns (record h { store = h.store ++ i ∷ [] }) v rel (stored-more source (Calls p) h.store i st o)

    writes : (l : ℕ) (i : Item) (v : Value) (es : List Event) → HasCaptured source (Calls p) i →
        Related (M.go_with c (Val v) ts (slice_set h.store l i) es) (M.go_with d (Val v) fs (slice_set h.store l i) es)
    writes l i v es o = returns (record h { store = slice_set h.store l i }) v rel (stored-set source
        (Calls p) h.store l i st o)

    assigns : (g : ℕ) (v : Value) (es : List Event) →
        Related (M.assign_global c g v ts es) (M.assign_global d g v fs es)
    assigns g v es = returns (record h { globals = slice_set h.globals g v }) Unspecified rel st

    sets_held : (g : ℕ) (q : Place) (v : Value) (o : Option Value) (es : List Event) →
        Related (M.set_held_global c g q v o ts es) (M.set_held_global d g q v o fs es)
    sets_held g q v None es = loses es
    sets_held g q v (Some Undefined) es = fails _ q es
    sets_held g q v (Some w) es = assigns g v es

    takes : (b : Bool) (bs : List ℕ) (es : List Event) → Related (M.take_input c b bs ts es) (M.take_input d b bs fs es)
    takes true bs es = gives_value _ _
    takes false [] es = returns (record h { met_end = true }) _ rel st
    takes false (b ∷ bs) es = returns (record h { input = bs }) _ rel st

    peeks : (b : Bool) (bs : List ℕ) (es : List Event) → Related (M.peek_input c b bs ts es) (M.peek_input d b bs fs es)
    peeks true bs es = gives_value _ _
    peeks false [] es = returns (record h { met_end = true }) _ rel st
    peeks false (b ∷ bs) es = gives_value _ _

    performs : (q : Place) (e : Effect) (es : List Event) → Related (M.perform c q e ts es) (M.perform d q e fs es)
    performs q (Gives v) es = gives_value v es
    performs q (Makes o) es = adds (Obj o) _ es tt
    performs q (Changes l o) es = writes l (Obj o) _ es tt
    performs q (Puts ch) es = gives_value _ _
    performs q Takes es = takes h.met_end h.input es
    performs q Peeks es = peeks h.met_end h.input es
    performs q (Fails cause) es = fails cause q es
    performs q Misused es = loses es

    gets_held : (q : Place) (i : Option Item) (es : List Event) →
        Related (M.get_held c q i ts es) (M.get_held d q i fs es)
    gets_held q None es = loses es
    gets_held q (Some (Obj o)) es = loses es
    gets_held q (Some (Clo l r)) es = loses es
    gets_held q (Some (Cell Undefined)) es = fails _ q es
    gets_held q (Some (Cell v)) es = gives_value v es

    gets : (q : Place) (v : Value) (es : List Event) → Related (M.get_cell c q v ts es) (M.get_cell d q v fs es)
    gets q (At l) es = gets_held q (slice_get h.store l) es
    gets q _ es = loses es

    sets_cell_held : (l : ℕ) (i : Option Item) (v : Value) (es : List Event) →
        Related (M.set_held c l i v ts es) (M.set_held d l i v fs es)
    sets_cell_held l None v es = loses es
    sets_cell_held l (Some (Obj o)) v es = loses es
    sets_cell_held l (Some (Clo m r)) v es = loses es
    sets_cell_held l (Some (Cell u)) v es = writes l (Cell v) _ es tt

    sets : (u v : Value) (es : List Event) → Related (M.set_cell c u v ts es) (M.set_cell d u v fs es)
    sets (At l) v es = sets_cell_held l (slice_get h.store l) v es
    sets _ v es = loses es

    enters_at : (q : Place) (l : ℕ) (i : Option Item) (vs : List Value) (es : List Event) →
        Related (M.enter_at c q l i vs ts es) (M.enter_at d q l i vs fs es)
    enters_at q l None vs es = fails _ q es
    enters_at q l (Some (Obj o)) vs es = fails _ q es
    enters_at q l (Some (Cell v)) vs es = fails _ q es
    enters_at q l (Some (Clo m r)) vs es = enters h (Closure l) vs tt (mark-frames source (Calls p) taken rel) st

    enters_value : (q : Place) (v : Value) (vs : List Value) (es : List Event) →
        Related (M.enter c q v vs ts es) (M.enter d q v vs fs es)
    enters_value q (At l) vs es = enters_at q l (slice_get h.store l) vs es
    enters_value q _ vs es = fails _ q es

    applies_to : (q : Place) (l m : ℕ) (w : Walked) (es : List Event) →
        Related (M.apply_to c q l m w ts es) (M.apply_to d q l m w fs es)
    applies_to q l m (Elements vs) es = enters h (Closure l) vs tt (mark-frames source (Calls p) taken rel) st
    applies_to q l m TooLong es = fails _ q es
    applies_to q l m NoList es = fails _ q es

    applies_at : (q : Place) (l : ℕ) (i : Option Item) (v : Value) (es : List Event) →
        Related (M.apply_at c q l i v ts es) (M.apply_at d q l i v fs es)
    applies_at q l None v es = fails _ q es
    applies_at q l (Some (Obj o)) v es = fails _ q es
    applies_at q l (Some (Cell u)) v es = fails _ q es
    applies_at q l (Some (Clo m r)) v es = applies_to q l m (walked (contents h.store) 12 v) es

    applies : (q : Place) (u v : Value) (es : List Event) → Related (M.apply c q u v ts es) (M.apply d q u v fs es)
    applies q (At l) v es = applies_at q l (slice_get h.store l) v es
    applies q _ v es = fails _ q es

    -- where the frames of the source are the ones that are related
    reads_value : hs ≡ fs → (q : Place) (o : Option Value) (es : List Event) →
        Related (M.read_value c q o es) (M.read_value d q o es)
    reads_value e q None es = loses es
    reads_value e q (Some Undefined) es = fails _ q es
    reads_value e q (Some v) es = returns h v (subst (λ z. FramesRel source (Calls p) taken z ts) (sym e) rel) st

    makes_closure : hs ≡ fs → (l : ℕ) (q r : Env) (xs : List ℕ) (es : List Event) →
        gather xs r ≡ gather (source.captured l) q → HasCaptured source (Calls p) (Clo l (gather
        (source.captured l) q)) →
        Related (M.make_closure c l xs r es) (M.make_closure d l (source.captured l) q es)
    makes_closure e l q r xs es g o =
        subst (λ z. Related (M.go_with c (Val (At (length h.store))) ts (h.store ++ Clo l z ∷ []) es)
        (M.make_closure d l (source.captured l) q es)) (sym g)
        (returns (record h { store = h.store ++ Clo l (gather (source.captured l) q) ∷ [] }) _
        (subst (λ z. FramesRel source (Calls p) taken z ts) (sym e) rel) (stored-more source (Calls p) h.store _ st o))

  atom_there : (xs : List ℕ) (m r : Env) (a : Operand) (v : Value) → r ≡ gather xs m →
      ((y : ℕ) → IsIn y (free_of_atom a) → IsIn y xs) → atom_value m a ≡ Some v → atom_value r a ≡ Some v
  atom_there xs m r a v e i k = ap (λ z. atom_value z a) e ∙ (atom-gather xs m a i ∙ k)

  atoms_there : (xs : List ℕ) (m r : Env) (ds : List Operand) (vs : List Value) → r ≡ gather xs m →
      ((y : ℕ) → IsIn y (free_of_atoms ds) → IsIn y xs) → Values m ds vs → atom_values r ds ≡ Some vs
  atoms_there xs m r ds vs e i k = ap (λ z. atom_values z ds) e ∙ values-there (values-gather xs i k)

  two_atoms : (a b : Operand) (y : ℕ) → IsIn y (free_of_atoms (a ∷ b ∷ [])) → IsIn y (free_of_atom a ++ free_of_atom b)
  two_atoms a b y i = subst (λ z. IsIn y (free_of_atom a ++ z)) (append-nil (free_of_atom b)) i

  -- an arm of a branch
  arm : (h : Ground) (k : Control Code) (ts : AnfFrames) (j : Control Tree) (hs fs : Frames) (n : ℕ) (e : Tree)
      (m q r : Env) (es : List Event) → FramesRel source (Calls p) taken fs ts → Stored source (Calls p) h.store →
      Sound source (Calls p) n e →
      Named (free source.inner e) q m →
      gather (free_block taken (block_of source.line n e AtEnd)) r ≡ gather
      (free_block taken (block_of source.line n e AtEnd)) m →
      Related (N.evaluate_cut taken (at h k ts) (InBlock (block_of source.line n e AtEnd)) r ts es)
      (T.evaluate_cut source (at h j hs) e q fs es)
  arm h k ts j hs fs n e m q r es rel st so nm g =
      evals h n e _ m _ AtEnd [] (at_end rel) so (λ y i l. l)
      (named-gather (free source.inner e) (λ y i. i) nm) g st

  chooses : (t : Bool) {s s' : AnfState} {z z' : TreeState} → Related s z → Related s' z' →
      Related (cond t s s') (cond t z z')
  chooses true a b = a
  chooses false a b = b

  -- an operation with the values of its atoms
  pub run-op : ((l : ℕ) → taken l ≡ source.captured l) → (h : Ground) (m r : Env) (j : Control Tree) (hs fs : Frames)
      (ts : AnfFrames) (es : List Event) (op : Op) (next : TreeState) → Ready m (at h j hs) es fs op next →
      Within (Eval (InOp op) r) ts j hs → r ≡ gather (free_op taken op) m → FramesRel source (Calls p) taken fs ts →
      Stored source (Calls p) h.store → Related (N.run_op taken (at h (Eval (InOp op) r) ts) op r es) next
  run-op same h m r j hs fs ts es op next (atom a v k) wi e rel st =
      subst (λ o. Related (M.give_value (at h (Eval (InOp op) r) ts) o es) next)
      (sym (atom_there _ m r a v e (λ y i. i) k))
      (gives_value h (Eval (InOp op) r) ts j hs fs wi rel st v es)
  run-op same h m r j hs fs ts es op next (global g q f) wi e rel st =
      reads_value h (Eval (InOp op) r) ts j hs fs wi rel st f q (slice_get h.globals g) es
  run-op same h m r j hs fs ts es op next (set_global g a q v k) wi e rel st =
      subst (λ o. Related (N.with_value (at h (Eval (InOp op) r) ts) o es
      (λ u. M.set_global (at h (Eval (InOp op) r) ts) g q u ts es)) next)
      (sym (atom_there _ m r a v e (λ y i. i) k))
      (sets_held h (Eval (InOp op) r) ts j hs fs wi rel st g q v (slice_get h.globals g) es)
  run-op same h m r j hs fs ts es op next (def_global g a v k) wi e rel st =
      subst (λ o. Related (N.with_value (at h (Eval (InOp op) r) ts) o es
      (λ u. M.assign_global (at h (Eval (InOp op) r) ts) g u ts es)) next)
      (sym (atom_there _ m r a v e (λ y i. i) k))
      (assigns h (Eval (InOp op) r) ts j hs fs wi rel st g v es)
  run-op same h m r j hs fs ts es op next (primitive q ds u vs k) wi e rel st =
      subst (λ o. Related (N.with_values (at h (Eval (InOp op) r) ts) o es
      (λ us. M.use_primitive (at h (Eval (InOp op) r) ts) u q us ts es)) next)
      (sym (atoms_there _ m r ds vs e (λ y i. i) k))
      (performs h (Eval (InOp op) r) ts j hs fs wi rel st u (effect_of (contents h.store) q vs) es)
  run-op same h m r j hs fs ts es op next (new_cell a v k) wi e rel st =
      subst (λ o. Related (N.with_value (at h (Eval (InOp op) r) ts) o es
      (λ u. M.new_cell (at h (Eval (InOp op) r) ts) u ts es)) next)
      (sym (atom_there _ m r a v e (λ y i. i) k))
      (adds h (Eval (InOp op) r) ts j hs fs wi rel st (Cell v) _ es tt)
  run-op same h m r j hs fs ts es op next (cell_get a q v k) wi e rel st =
      subst (λ o. Related (N.with_value (at h (Eval (InOp op) r) ts) o es
      (λ u. M.get_cell (at h (Eval (InOp op) r) ts) q u ts es)) next)
      (sym (atom_there _ m r a v e (λ y i. i) k))
      (gets h (Eval (InOp op) r) ts j hs fs wi rel st q v es)
  run-op same h m r j hs fs ts es op next (cell_set a b v u k) wi e rel st =
      subst (λ o. Related (N.with_values (at h (Eval (InOp op) r) ts) o es
      (N.run_cell_set (at h (Eval (InOp op) r) ts) es)) next)
      (sym (atoms_there _ m r (a ∷ b ∷ []) (v ∷ u ∷ []) e (two_atoms a b) k))
      (sets h (Eval (InOp op) r) ts j hs fs wi rel st v u es)
  run-op same h m r j hs fs ts es op next (close l q g f k) wi e rel st =
      makes_closure h (Eval (InOp op) r) ts j hs fs wi rel st f l q r (taken l) es
      (ap (gather (taken l)) e ∙ (gather-sub (taken l) (taken l) m (λ y i. i)
      ∙ (ap (λ xs. gather xs m) (same l) ∙ sym (named-gathers k))))
      (g, λ y i. let n = k.has y i in (n.0, lookup-gather (source.captured l) q y i ∙ n.1))
  run-op same h m r j hs fs ts es op next (call a ds q v vs k) wi e rel st =
      subst (λ o. Related (N.with_values (at h (Eval (InOp op) r) ts) o es
      (N.run_call (at h (Eval (InOp op) r) ts) q es)) next)
      (sym (atoms_there _ m r (a ∷ ds) (v ∷ vs) e (λ y i. i) k))
      (enters_value h (Eval (InOp op) r) ts j hs fs wi rel st q v vs es)
  run-op same h m r j hs fs ts es op next (direct l ds vs g k) wi e rel st =
      subst (λ o. Related (N.with_values (at h (Eval (InOp op) r) ts) o es
      (λ us. M.enter_lifted (at h (Eval (InOp op) r) ts) l us ts es)) next)
      (sym (atoms_there _ m r ds vs e (λ y i. i) k))
      (enters h (Lifted l) vs g (mark-frames source (Calls p) taken rel) st)
  run-op same h m r j hs fs ts es op next (apply a b q v u k) wi e rel st =
      subst (λ o. Related (N.with_values (at h (Eval (InOp op) r) ts) o es
      (N.run_apply (at h (Eval (InOp op) r) ts) q es)) next)
      (sym (atoms_there _ m r (a ∷ b ∷ []) (v ∷ u ∷ []) e (two_atoms a b) k))
      (applies h (Eval (InOp op) r) ts j hs fs wi rel st q v u es)
  run-op same h m r j hs fs ts es op next (branch a v n l b c q k sb sc nm) wi e rel st =
      let B = block_of source.line n b AtEnd in
      let C = block_of source.line l c AtEnd in
      let all = free_of_atom a ++ (free_block taken B ++ free_block taken C) in
      subst (λ o. Related (N.with_value (at h (Eval (InOp op) r) ts) o es
      (λ u. N.run_branch taken (at h (Eval (InOp op) r) ts) u B C r es)) next)
      (sym (atom_there all m r a v e (λ y i. in-left y (free_of_atom a) _ i) k))
      (chooses (is_false v)
      (arm h (Eval (InOp op) r) ts j hs fs l c m q r es rel st sc
      (named-sub (λ y i. in-right y (free source.inner b) _ i) nm)
      (ap (gather (free_block taken C)) e ∙ gather-sub (free_block taken C) all m
      (λ y i. in-right y (free_of_atom a) _ (in-right y (free_block taken B) _ i))))
      (arm h (Eval (InOp op) r) ts j hs fs n b m q r es rel st sb
      (named-sub (λ y i. in-left y (free source.inner b) _ i) nm)
      (ap (gather (free_block taken B)) e ∙ gather-sub (free_block taken B) all m
      (λ y i. in-right y (free_of_atom a) _ (in-left y (free_block taken B) _ i)))))
