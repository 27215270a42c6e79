-- What a run of a program that keeps its rules keeps: each expression that is to be evaluated keeps the rules,
-- each environment finds the variables that are named, each procedure is one of the program's, and the frame
-- of the top level is the last.
use Rattle.std.proofs.Common.{◌≡◌, refl, sym, subst, ℕ, zero, suc, ◌<◌, ◌≤◌, ◌⊎◌, inl, inr, ⊎_elim, arith, true, List, [], ◌∷◌, ◌++◌, length, drop, Option, Some, None, slice_get, slice_set}
use Rattle.std.proofs.lemmas.Option.{same_Some}
use Rattle.tb_prim.specs.declared.event.Event.{Event}
use Rattle.tb_semantics.specs.Graph.{IsIn}
use Rattle.tb_core.specs.Tree.{Tree, Node, Form, Quote, Local, Global, Lambda, If, SetLocal, SetGlobal, DefGlobal, Let, Letrec, Seq, Call, PrimUse, Apply, Trees, none, more, count, tree_at, LambdaTree, ProgramTree}
use Rattle.tb_core.specs.FreeVariables.{without, free, free_form, free_all, inner_free}
use Rattle.tb_core.specs.OperandOrder.{operands, has_order, line_at, order_of, HasLine}
use Rattle.tb_core.specs.Store.{Value, Env, Item, Clo}
use Rattle.tb_core.specs.Space.{made}
use Rattle.tb_core.specs.Rules.{Each, EachForm, EachAll, NodeKeeps}
use Rattle.tb_core.specs.Reference
use Rattle.tb_core.specs.Reference.{Control, Eval, Bound, Val, Entering, Work, Sel, SetVar, SetGlo, Rest, Args, Top, Frame, Config, State, Running, Stopped, Lost, Context, context_of, free_of_tree, free_of_numbers, free_of_body}
use Rattle.tb_core.proofs.Members.{in-left, in-right, in-either, without-sub}
use Rattle.tb_core.proofs.Stores.{VarAt, Covers, KeepsSizes, Extends, covers-extends, extends-append, extends-set, get-either, SameKind, set-closure}

-- the rules of a node, and its line
abbrev pub NodeOk : ProgramTree → ℕ → Form → Type 0
NodeOk p s f = NodeKeeps p s f × HasLine p s f

module _ (R S : ℕ → Form → Type 0) where
  mutual
    pub both : (e : Tree) → Each R e → Each S e → Each (λ s f. R s f × S s f) e
    both (Node p s f) r q = ((r.0, q.0), both_form f r.1 q.1)

    both_form : (f : Form) → EachForm R f → EachForm S f → EachForm (λ s f. R s f × S s f) f
    both_form (Quote c) r q = tt
    both_form (Local x) r q = tt
    both_form (Global g) r q = tt
    both_form (Lambda l) r q = tt
    both_form (If a b c) r q = (both a r.0 q.0, both b r.1 q.1, both c r.2 q.2)
    both_form (SetLocal x e) r q = both e r q
    both_form (SetGlobal g e) r q = both e r q
    both_form (DefGlobal g e) r q = both e r q
    both_form (Let xs es e) r q = (both_all es r.0 q.0, both e r.1 q.1)
    both_form (Letrec xs ls e) r q = both e r q
    both_form (Seq es) r q = both_all es r q
    both_form (Call f es) r q = (both f r.0 q.0, both_all es r.1 q.1)
    both_form (PrimUse p es) r q = both_all es r q
    both_form (Apply f l) r q = (both f r.0 q.0, both l r.1 q.1)

    pub both_all : (es : Trees) → EachAll R es → EachAll S es → EachAll (λ s f. R s f × S s f) es
    both_all none r q = tt
    both_all (more e es) r q = (both e r.0 q.0, both_all es r.1 q.1)

module _ (R : ℕ → Form → Type 0) where
  pub each-at : (es : Trees) (n : ℕ) (e : Tree) → EachAll R es → tree_at es n ≡ Some e → Each R e
  each-at none n e h q = cc
  each-at (more d es) zero e h q = subst (Each R) (same_Some d e q) h.0
  each-at (more d es) (suc n) e h q = each-at es n e h.1 q

  pub operand-each : (f : Form) (n : ℕ) (e : Tree) → EachForm R f → tree_at (operands f) n ≡ Some e → Each R e
  operand-each (Let xs es b) n e h q = each-at es n e h.0 q
  operand-each (Call g es) n e h q = each-at (more g es) n e (h.0, h.1) q
  operand-each (PrimUse pr es) n e h q = each-at es n e h q
  operand-each (Apply g l) n e h q = each-at (more g (more l none)) n e (h.0, (h.1, tt)) q
  operand-each _ n e h q = cc

-- the variables that are free in the body of a `let` and not bound by it
abbrev pub let_free : (ℕ → List ℕ) → Form → List ℕ
let_free inner (Let xs es e) = without xs (free inner e)
let_free inner _ = []

pub let-free-body : (x : Context) (f : Form) (y : ℕ) → IsIn y (let_free x.inner f) → IsIn y (free_of_body x f)
let-free-body x (Let xs es e) y i = without-sub xs _ y i
let-free-body x _ y i = absurd i

-- what is free in some operands is free in the node
pub free-at : (inner : ℕ → List ℕ) (es : Trees) (n : ℕ) (e : Tree) (y : ℕ) → tree_at es n ≡ Some e → IsIn y (free inner e) → IsIn y (free_all inner es)
free-at inner none n e y q i = cc
free-at inner (more d es) zero e y q i = in-left y (free inner d) _ (subst (λ t. IsIn y (free inner t)) (sym (same_Some d e q)) i)
free-at inner (more d es) (suc n) e y q i = in-right y (free inner d) _ (free-at inner es n e y q i)

free_of_one : (x : Context) (es : Trees) (n : ℕ) (o : Option Tree) (y : ℕ) → tree_at es n ≡ o → IsIn y (free_of_tree x o) → IsIn y (free_all x.inner es)
free_of_one x es n None y q i = absurd i
free_of_one x es n (Some e) y q i = free-at x.inner es n e y q i

free_of_some : (x : Context) (es : Trees) (ns : List ℕ) (y : ℕ) → IsIn y (free_of_numbers x es ns) → IsIn y (free_all x.inner es)
free_of_some x es [] y i = absurd i
free_of_some x es (n ∷ ns) y i =
    ⊎_elim (λ j. free_of_one x es n (tree_at es n) y refl j) (λ j. free_of_some x es ns y j) (in-either y (free_of_tree x (tree_at es n)) _ i)

operands_free : (inner : ℕ → List ℕ) (f : Form) (y : ℕ) → has_order f ≡ true → IsIn y (free_all inner (operands f)) ⊎ IsIn y (let_free inner f) → IsIn y (free_form inner f)
operands_free inner (Let xs es e) y h (inl i) = in-left y (free_all inner es) _ i
operands_free inner (Let xs es e) y h (inr i) = in-right y (free_all inner es) _ i
operands_free inner (Call g es) y h (inl i) = i
operands_free inner (Call g es) y h (inr i) = absurd i
operands_free inner (PrimUse q es) y h (inl i) = i
operands_free inner (PrimUse q es) y h (inr i) = absurd i
operands_free inner (Apply g l) y h (inl i) =
    ⊎_elim (λ j. in-left y (free inner g) _ j) (λ j. in-right y (free inner g) _ (⊎_elim (λ k. k) (λ k. absurd k) (in-either y (free inner l) [] j))) (in-either y (free inner g) _ i)
operands_free inner (Apply g l) y h (inr i) = absurd i
operands_free inner _ y h i = cc

pub covers-operands : (x : Context) (st : List Item) (f : Form) (ns : List ℕ) (r : Env) → has_order f ≡ true → Covers st (free_form x.inner f) r → Covers st (free_of_numbers x (operands f) ns ++ let_free x.inner f) r
covers-operands x st f ns r h c y i =
    c y (operands_free x.inner f y h (⊎_elim (λ j. inl (free_of_some x (operands f) ns y j)) inr (in-either y (free_of_numbers x (operands f) ns) _ i)))

-- the facts of a program in its own order
abbrev pub own_context : ProgramTree → Context
own_context p = context_of p (order_of p)

-- a procedure is one of the program's, and its environment finds its variables
pub record CloOk (p : ProgramTree) (st : List Item) (m : ℕ) (r : Env) : Type 0 where
  pub lambda : LambdaTree
  pub known : slice_get p.lambdas m ≡ Some lambda
  pub covers : Covers st (inner_free p m) r

abbrev pub StoreOk : ProgramTree → List Item → Type 0
StoreOk p st = (a m : ℕ) (r : Env) → slice_get st a ≡ Some (Clo m r) → CloOk p st m r

abbrev pub ControlOk : ProgramTree → List Item → Control → Type 0
ControlOk p st (Eval e r) = Each (NodeOk p) e × Covers st (free (inner_free p) e) r
ControlOk p st (Bound e r) = Each (NodeOk p) e × Covers st (free (inner_free p) e) r
ControlOk p st (Val v) = Unit {0}
ControlOk p st (Entering l vs) = (m : ℕ) × (r : Env) × (slice_get st l ≡ Some (Clo m r))

-- what waits in a frame of operands
pub record ArgsOk (p : ProgramTree) (st : List Item) (s : ℕ) (f : Form) (vs : List Value) (r : Env) : Type 0 where
  pub ordered : has_order f ≡ true
  pub node : NodeOk p s f
  pub parts : EachForm (NodeOk p) f
  pub short : length vs < length (line_at (order_of p) s)
  pub covers : Covers st (free_of_numbers (own_context p) (operands f) (drop (suc (length vs)) (line_at (order_of p) s)) ++ let_free (inner_free p) f) r

abbrev pub WorkOk : ProgramTree → List Item → Work → Type 0
WorkOk p st (Sel a b r) = Each (NodeOk p) a × Each (NodeOk p) b × Covers st (free (inner_free p) a ++ free (inner_free p) b) r
WorkOk p st (SetVar l) = VarAt st l
WorkOk p st (SetGlo g d q) = g < length p.globals
WorkOk p st (Rest es r) = EachAll (NodeOk p) es × (1 ≤ count es) × Covers st (free_all (inner_free p) es) r
WorkOk p st (Args q s f vs r) = ArgsOk p st s f vs r
WorkOk p st (Top k) = Unit {0}

abbrev pub FramesOk : ProgramTree → List Item → List Frame → Type 0
FramesOk p st [] = Unit {0}
FramesOk p st (f ∷ fs) = WorkOk p st f.work × FramesOk p st fs

-- the frame of the top level, or one above it
abbrev pub IsAbove : Work → Type 0 → Type 0
IsAbove (Top k) T = Unit {0}
IsAbove _ T = T

abbrev pub EndsTop : List Frame → Type 0
EndsTop [] = ⊥
EndsTop (f ∷ fs) = IsAbove f.work (EndsTop fs)

pub above : (w : Work) (T : Type 0) → T → IsAbove w T
above (Top k) T t = tt
above (Sel a b r) T t = t
above (SetVar l) T t = t
above (SetGlo g d q) T t = t
above (Rest es r) T t = t
above (Args q s f vs r) T t = t

-- the store, the globals and these frames of a configuration
pub record Base (p : ProgramTree) (c : Config) (fs : List Frame) : Type 0 where
  pub store : StoreOk p c.store
  pub globals : length c.globals ≡ length p.globals
  pub frames : FramesOk p c.store fs
  pub bottom : EndsTop fs

-- a state that keeps all this, and the sizes of the items of this store
abbrev pub Later : ProgramTree → List Item → State → Type 0
Later p st (Running c es) = Base p c c.frames × ControlOk p c.store c.control × KeepsSizes st c.store
Later p st (Stopped c es) = KeepsSizes st c.store
Later p st (Lost c es) = ⊥

-- a state that keeps all this, with a store of at least this size
abbrev pub After : ProgramTree → ℕ → State → Type 0
After p n (Running c es) = Base p c c.frames × ControlOk p c.store c.control × (n ≤ made c.store)
After p n (Stopped c es) = n ≤ made c.store
After p n (Lost c es) = ⊥

-- all this stays where the store is extended
clo_extends : (p : ProgramTree) (st now : List Item) (m : ℕ) (r : Env) → Extends st now → CloOk p st m r → CloOk p now m r
clo_extends p st now m r e h = record { lambda = h.lambda; known = h.known; covers = covers-extends st now (inner_free p m) r e h.covers }

work_extends : (p : ProgramTree) (st now : List Item) (w : Work) → Extends st now → WorkOk p st w → WorkOk p now w
work_extends p st now (Sel a b r) e h = (h.0, h.1, covers-extends st now _ r e h.2)
work_extends p st now (SetVar l) e h = e.vars_stay l h
work_extends p st now (SetGlo g d q) e h = h
work_extends p st now (Rest es r) e h = (h.0, h.1, covers-extends st now _ r e h.2)
work_extends p st now (Args q s f vs r) e h = record { ordered = h.ordered; node = h.node; parts = h.parts; short = h.short; covers = covers-extends st now _ r e h.covers }
work_extends p st now (Top k) e h = tt

frames_extends : (p : ProgramTree) (st now : List Item) (fs : List Frame) → Extends st now → FramesOk p st fs → FramesOk p now fs
frames_extends p st now [] e h = tt
frames_extends p st now (f ∷ fs) e h = (work_extends p st now f.work e h.0, frames_extends p st now fs e h.1)

pub store-append : (p : ProgramTree) (st is : List Item) → StoreOk p st → ((m : ℕ) (r : Env) → IsIn (Clo m r) is → CloOk p (st ++ is) m r) → StoreOk p (st ++ is)
store-append p st is h new a m r q =
    ⊎_elim (λ e. clo_extends p st (st ++ is) m r (extends-append st is) (h a m r e)) (λ i. new m r i) (get-either st is a (Clo m r) q)

pub store-set : (p : ProgramTree) (st : List Item) (l : ℕ) (old i : Item) → slice_get st l ≡ Some old → SameKind old i → StoreOk p st → StoreOk p (slice_set st l i)
store-set p st l old i e k h a m r q = clo_extends p st (slice_set st l i) m r (extends-set st l old i e k) (h a m r (set-closure st l old i a m r e k q))

-- the results of steps
pub go-ok : (p : ProgramTree) (c : Config) (k : Control) (fs : List Frame) (es : List Event) → Base p c fs → ControlOk p c.store k → Later p c.store (Reference.go c k fs es)
go-ok p c k fs es b h = (record { store = b.store; globals = b.globals; frames = b.frames; bottom = b.bottom }, h, λ l. omega arith)

pub go-with-ok : (p : ProgramTree) (c : Config) (k : Control) (fs : List Frame) (st : List Item) (es : List Event) → Base p c fs → Extends c.store st → StoreOk p st → ControlOk p st k → Later p c.store (Reference.go_with c k fs st es)
go-with-ok p c k fs st es b e s h =
    (record { store = s; globals = b.globals; frames = frames_extends p c.store st fs e b.frames; bottom = b.bottom }, h, e.sizes_stay)

pub base-push : (p : ProgramTree) (c : Config) (w : Work) (fs : List Frame) → Base p c fs → WorkOk p c.store w → Base p c (Reference.push w fs)
base-push p c w fs b h = record { store = b.store; globals = b.globals; frames = (h, b.frames); bottom = above w _ b.bottom }

marked_frames : (p : ProgramTree) (st : List Item) (fs : List Frame) → FramesOk p st fs → FramesOk p st (Reference.mark_top fs)
marked_frames p st [] h = tt
marked_frames p st (f ∷ fs) h = h

marked_ends : (fs : List Frame) → EndsTop fs → EndsTop (Reference.mark_top fs)
marked_ends [] h = h
marked_ends (f ∷ fs) h = h

pub base-mark : (p : ProgramTree) (c : Config) (fs : List Frame) → Base p c fs → Base p c (Reference.mark_top fs)
base-mark p c fs b = record { store = b.store; globals = b.globals; frames = marked_frames p c.store fs b.frames; bottom = marked_ends fs b.bottom }
