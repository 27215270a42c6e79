-- How the states of a lifted program are related to those of its source. A ghost environment has all that was bound in a
-- body of the target: each environment of the target is a cut of it. A procedure whose lambda expression is lifted is in
-- the source alone; the world remembers it with the ghost environment in which it was made.
use Rattle.std.proofs.Common.{◌≡◌, ℕ, zero, suc, ◌≤◌, Bool, true, false, List, [], ◌∷◌, ◌++◌, length, Option, Some, None, slice_get}
use Rattle.tb_prim.specs.declared.place.Place.{Place}
use Rattle.tb_prim.specs.declared.constant.Const.{Const}
use Rattle.tb_prim.specs.declared.primitive.Primitive.{Primitive}
use Rattle.tb_semantics.specs.Graph.{IsIn}
use Rattle.tb_semantics.proofs.Worlds.{Both, Only}
use Rattle.tb_semantics.proofs.Worlds as W
use Rattle.tb_core.specs.FreeVariables.{of_lambdas}
use Rattle.tb_core.specs.Store.{Value, Unspecified, At, Object}
use Rattle.tb_core.specs.Tree.{option_list}
use Rattle.tb_core.specs.Partners.{AlikeValues, AlikeLists, AlikeObjects}
use Rattle.tb_ir.specs.Tree.{Tree, Node, Form, Quote, Local, Global, Lambda, If, NewCell, CellGet, CellSet, SetGlobal, DefGlobal, Let, Letrec, Seq, Call, Direct, PrimUse, Apply, Trees, none, more, count, operands, LambdaTree}
use Rattle.tb_ir.specs.FreeVariables.{free, free_all}
use Rattle.tb_ir.specs.Rules.{IsPermutation}
use Rattle.tb_ir.specs.Machine.{Env, Item, Cell, Obj, Clo, Closure, Lifted, Control, Eval, Bound, Val, Entering, Work, Top, Own, lookup}
use Rattle.tb_ir.specs.TreeMachine.{TreeWork, Sel, SetGlo, Rest, Args, Context, Frames, numbers, numbers_from, free_of_numbers, free_of_body, env_values}
use Rattle.tb_lift.specs.Lift.{Choice, joined, locals}

-- what is known of a procedure of the source alone
pub record Fact : Type 0 where
  pub lambda : ℕ
  pub env : Env

abbrev pub World : Type 0
World = W.World Fact

abbrev pub Entry : Type 0
Entry = W.Entry Fact

-- two locations stand for one another
abbrev pub Partner : World → ℕ → ℕ → Type 0
Partner w t s = IsIn (Both t s) w

abbrev pub Alike : World → Value → Value → Type 0
Alike w v u = AlikeValues (Partner w) (Unit {0}) v u

abbrev pub AllAlike : World → List Value → List Value → Type 0
AllAlike w vs us = AlikeLists (Partner w) (Unit {0}) vs us

-- the choice, the lambda expressions and the forms of the source, the free variables of the lambda expressions in the source and in the
-- target and what their closures capture, the number of static objects, and the lines of
-- the order
pub record Pass : Type 0 where
  pub choice : Choice
  pub lambdas : List LambdaTree
  pub forms : Trees
  pub source_free : ℕ → List ℕ
  pub target_free : ℕ → List ℕ
  pub source_captured : ℕ → List ℕ
  pub target_captured : ℕ → List ℕ
  pub source_added : ℕ → List ℕ
  pub statics : ℕ
  pub line : ℕ → Option (List ℕ)

abbrev pub source : Pass → Context
source z = record { inner = z.source_free; captured = z.source_captured; line = z.line }

abbrev pub target : Pass → Context
target z = record { inner = z.target_free; captured = z.target_captured; line = z.line }

-- the least solution: a free variable that names no member is added, and what is added to a member that is named
pub data Added (z : Pass) : ℕ → ℕ → Type 0 where
  itself : {l y : ℕ} → IsIn y (z.source_free l) → z.choice.names y ≡ None → Added z l y
  through : {l y : ℕ} (f m : ℕ) → IsIn f (z.source_free l) → z.choice.names f ≡ Some m → Added z m y → Added z l y

-- what a list of variables names has no added variable among those that are bound
pub record Clear (z : Pass) (xs : List ℕ) (ys : List ℕ) : Type 0 where
  pub clear : (f l y : ℕ) → IsIn f ys → z.choice.names f ≡ Some l → IsIn y (z.choice.added l) → IsIn y xs → ⊥

-- the same but for what the variables that are bound name themselves
pub record ClearBeyond (z : Pass) (xs : List ℕ) (ys : List ℕ) : Type 0 where
  pub clear : (f l y : ℕ) → IsIn f ys → (IsIn f xs → ⊥) → z.choice.names f ≡ Some l → IsIn y (z.choice.added l) →
      IsIn y xs → ⊥

-- the variables and the lambda expressions of a `letrec`, and those of them that stay; their numbers are no less than n
pub data Group (z : Pass) (n : ℕ) : List ℕ → List ℕ → List ℕ → List ℕ → Type 0 where
  group_end : Group z n [] [] [] []
  group_lifts : {x l : ℕ} {xs ls ys ms : List ℕ} → n ≤ l → z.choice.lifted l ≡ true → z.choice.names x ≡ Some l →
      Group z n xs ls ys ms → Group z n (x ∷ xs) (l ∷ ls) ys ms
  group_keeps : {x l : ℕ} {xs ls ys ms : List ℕ} → n ≤ l → z.choice.lifted l ≡ false → z.choice.names x ≡ None →
      Group z n xs ls ys ms → Group z n (x ∷ xs) (l ∷ ls) (x ∷ ys) (l ∷ ms)

-- An expression and what becomes of it; the lambda expressions in it have numbers that are no less than n.
mutual
  pub data Becomes (z : Pass) : ℕ → Tree → Tree → Type 0 where
    quote : {n s : ℕ} {p : Place} {c : Const} → Becomes z n (Node p s (Quote c)) (Node p s (Quote c))
    local : {n s x : ℕ} {p : Place} → z.choice.names x ≡ None → Becomes z n (Node p s (Local x)) (Node p s (Local x))
    global : {n s g : ℕ} {p : Place} → Becomes z n (Node p s (Global g)) (Node p s (Global g))
    lambda : {n s l : ℕ} {p : Place} → n ≤ l → z.choice.lifted l ≡ false →
        Becomes z n (Node p s (Lambda l)) (Node p s (Lambda l))
    choose : {n s : ℕ} {p : Place} {a b c d e f : Tree} → Becomes z n a d → Becomes z n b e → Becomes z n c f →
        Becomes z n (Node p s (If a b c)) (Node p s (If d e f))
    assign : {n s g : ℕ} {p : Place} {e d : Tree} → Becomes z n e d →
        Becomes z n (Node p s (SetGlobal g e)) (Node p s (SetGlobal g d))
    define : {n s g : ℕ} {p : Place} {e d : Tree} → Becomes z n e d →
        Becomes z n (Node p s (DefGlobal g e)) (Node p s (DefGlobal g d))
    letrec : {n s : ℕ} {p : Place} {xs ls ys ms : List ℕ} {e d : Tree} → Group z n xs ls ys ms →
        ClearBeyond z xs (of_lambdas z.source_free ls ++ free z.source_free e) → Becomes z n e d →
        Becomes z n (Node p s (Letrec xs ls e)) (Node p s (Letrec ys ms d))
    sequence : {n s : ℕ} {p : Place} {es ds : Trees} → BecomeAll z n es ds →
        Becomes z n (Node p s (Seq es)) (Node p s (Seq ds))
    node : {n s : ℕ} {p : Place} {f g : Form} → IsPermutation (numbers (z.line s) f) (count (operands f)) →
        FormBecomes z n f g → Becomes z n (Node p s f) (Node p s g)
    direct : {n s i x l : ℕ} {p q : Place} {es ds : Trees} {ns : List ℕ} → z.choice.names x ≡ Some l → z.line s ≡ Some ns →
        IsPermutation ns (suc (count es)) → BecomeAll z n es ds →
        Becomes z n (Node p s (Call (Node q i (Local x)) es)) (Node p s (Direct l (joined ds (locals q i (z.choice.added l)))))

  -- a form whose operands are evaluated one after another
  pub data FormBecomes (z : Pass) : ℕ → Form → Form → Type 0 where
    new_cell : {n : ℕ} {e d : Tree} → Becomes z n e d → FormBecomes z n (NewCell e) (NewCell d)
    cell_get : {n : ℕ} {e d : Tree} → Becomes z n e d → FormBecomes z n (CellGet e) (CellGet d)
    cell_set : {n : ℕ} {c e d f : Tree} → Becomes z n c d → Becomes z n e f → FormBecomes z n (CellSet c e) (CellSet d f)
    call : {n : ℕ} {f g : Tree} {es ds : Trees} → Becomes z n f g → BecomeAll z n es ds →
        FormBecomes z n (Call f es) (Call g ds)
    primitive : {n : ℕ} {q : Primitive} {es ds : Trees} → BecomeAll z n es ds → FormBecomes z n (PrimUse q es) (PrimUse q ds)
    apply : {n : ℕ} {f g e d : Tree} → Becomes z n f g → Becomes z n e d → FormBecomes z n (Apply f e) (Apply g d)
    let_values : {n : ℕ} {xs : List ℕ} {es ds : Trees} {e d : Tree} → BoundBecome z n xs es ds →
        Clear z xs (free z.source_free e) → Becomes z n e d → FormBecomes z n (Let xs es e) (Let xs ds d)

  -- the operands of a `let` with their variables
  pub data BoundBecome (z : Pass) : ℕ → List ℕ → Trees → Trees → Type 0 where
    bound_end : {n : ℕ} → BoundBecome z n [] none none
    bound_plain : {n x : ℕ} {xs : List ℕ} {e d : Tree} {es ds : Trees} → z.choice.names x ≡ None → Becomes z n e d →
        BoundBecome z n xs es ds → BoundBecome z n (x ∷ xs) (more e es) (more d ds)
    bound_lifted : {n x s l : ℕ} {p : Place} {xs : List ℕ} {es ds : Trees} → n ≤ l → z.choice.lifted l ≡ true →
        z.choice.names x ≡ Some l → BoundBecome z n xs es ds →
        BoundBecome z n (x ∷ xs) (more (Node p s (Lambda l)) es) (more (Node p s (Quote Const.Unspecified)) ds)

  pub data BecomeAll (z : Pass) : ℕ → Trees → Trees → Type 0 where
    all_end : {n : ℕ} → BecomeAll z n none none
    all_more : {n : ℕ} {e d : Tree} {es ds : Trees} → Becomes z n e d → BecomeAll z n es ds →
        BecomeAll z n (more e es) (more d ds)

-- a variable that the target names where the source names xs, and may enter the lambda expressions ls
pub data Uses (z : Pass) (ls xs : List ℕ) (y : ℕ) : Type 0 where
  plainly : IsIn y xs → z.choice.names y ≡ None → Uses z ls xs y
  added_by : (f l : ℕ) → IsIn f xs → z.choice.names f ≡ Some l → Added z l y → Uses z ls xs y
  entered : (l : ℕ) → IsIn l ls → Added z l y → Uses z ls xs y

-- a procedure at c of a lambda expression that is lifted: its added variables mean in m what they meant where it was made
pub record Ready (z : Pass) (w : World) (l c : ℕ) (m : Env) : Type 0 where
  pub lifts : z.choice.lifted l ≡ true
  pub old : Env
  pub fact : IsIn (Only c (record { lambda = l; env = old })) w
  pub agree : (y : ℕ) → Added z l y → (v : Value) × (lookup old y ≡ Some v) × (lookup m y ≡ Some v)

-- a variable that names nothing has values that stand for one another, and another is a procedure that is ready
pub record Plain (w : World) (q m : Env) (x : ℕ) : Type 0 where
  pub value : Value
  pub other : Value
  pub here : lookup m x ≡ Some value
  pub there : lookup q x ≡ Some other
  pub alike : Alike w value other

pub record Known (z : Pass) (w : World) (q m : Env) (f l : ℕ) : Type 0 where
  pub location : ℕ
  pub there : lookup q f ≡ Some (At location)
  pub ready : Ready z w l location m

-- environments of code that names these variables
pub record Scope (z : Pass) (w : World) (xs : List ℕ) (q m : Env) : Type 0 where
  pub plain : (x : ℕ) → IsIn x xs → z.choice.names x ≡ None → Plain w q m x
  pub known : (f l : ℕ) → IsIn f xs → z.choice.names f ≡ Some l → Known z w q m f l

-- a value of the target's environment: the code names it, or it stands for a value of the other environment
pub data Justified (z : Pass) (w : World) (ls xs : List ℕ) (q m : Env) (v : Value) : Type 0 where
  is_used : (y : ℕ) → Uses z ls xs y → lookup m y ≡ Some v → Justified z w ls xs q m v
  is_alike : (u : Value) → IsIn u (env_values q) → Alike w v u → Justified z w ls xs q m v

-- the environments q of the source, for code that names xs, and r of the target, for code that names ys
pub record EnvRel (z : Pass) (w : World) (ls xs : List ℕ) (q : Env) (ys : List ℕ) (r m : Env) : Type 0 where
  pub scope : Scope z w xs q m
  pub agree : (y : ℕ) → IsIn y ys → lookup r y ≡ lookup m y
  pub within : (v : Value) → IsIn v (env_values r) → Justified z w ls xs q m v

-- items of the stores
pub data ItemRel (z : Pass) (w : World) : Item → Item → Type 0 where
  cell : {v u : Value} → Alike w v u → ItemRel z w (Cell v) (Cell u)
  object : {o n : Object} → AlikeObjects (Partner w) (Unit {0}) o n → ItemRel z w (Obj o) (Obj n)
  closure : {l : ℕ} {r q m : Env} → z.choice.lifted l ≡ false →
      EnvRel z w [] (z.source_free l) q (z.target_free l) r m → ItemRel z w (Clo l r) (Clo l q)

pub data FactHolds (z : Pass) (w : World) : Item → Fact → Type 0 where
  lifted_closure : {l : ℕ} {q m : Env} → z.choice.lifted l ≡ true → Scope z w (z.source_free l) q m →
      FactHolds z w (Clo l q) (record { lambda = l; env = m })

-- the lambda expression that the variable of an operand names
abbrev pub names_at : Pass → Option ℕ → Option ℕ
names_at z None = None
names_at z (Some x) = z.choice.names x

abbrev pub kind : Pass → Form → ℕ → Option ℕ
kind z (Let xs es e) n = names_at z (slice_get xs n)
kind z f n = None

-- the lambda expressions that are lifted and are the operands of these numbers
abbrev pub lifted_of : Pass → Form → List ℕ → List ℕ
lifted_of z f [] = []
lifted_of z f (n ∷ ns) = option_list (kind z f n) ++ lifted_of z f ns

-- values of an operand
pub data ValueRel (z : Pass) (w : World) (m : Env) : Option ℕ → Value → Value → Type 0 where
  plain_value : {v u : Value} → Alike w v u → ValueRel z w m None v u
  ready_value : {l c : ℕ} → Ready z w l c m → ValueRel z w m (Some l) Unspecified (At c)

-- values of operands, in the order of their numbers
pub data ValuesRel (z : Pass) (w : World) (m : Env) (f : Form) : List ℕ → List Value → List Value → Type 0 where
  none_yet : ValuesRel z w m f [] [] []
  one_more : {n : ℕ} {ns : List ℕ} {v u : Value} {vs us : List Value} → ValueRel z w m (kind z f n) v u →
      ValuesRel z w m f ns vs us → ValuesRel z w m f (n ∷ ns) (v ∷ vs) (u ∷ us)

-- the same of a call that becomes direct: the operator has a value in the source alone
pub data CallRel (z : Pass) (w : World) (m : Env) (l : ℕ) : List ℕ → List Value → List Value → Type 0 where
  no_value : CallRel z w m l [] [] []
  own_value : {n : ℕ} {ns : List ℕ} {v u : Value} {vs us : List Value} → Alike w v u → CallRel z w m l ns vs us →
      CallRel z w m l (suc n ∷ ns) (v ∷ vs) (u ∷ us)
  operator_value : {c : ℕ} {ns : List ℕ} {vs us : List Value} → Ready z w l c m → CallRel z w m l ns vs us →
      CallRel z w m l (zero ∷ ns) vs (At c ∷ us)

-- of the numbers of a call's operands those that are not the operator's, as numbers of a direct call
abbrev pub own_numbers : List ℕ → List ℕ
own_numbers [] = []
own_numbers (zero ∷ ns) = own_numbers ns
own_numbers (suc n ∷ ns) = n ∷ own_numbers ns

-- the numbers of the added variables
abbrev pub added_numbers : Pass → ℕ → Trees → List ℕ
added_numbers z l es = numbers_from (count es) (length (z.choice.added l))

abbrev pub source_operands : Pass → Form → List ℕ → List ℕ
source_operands z f ns = free_of_numbers (source z) (operands f) ns ++ free_of_body (source z) f

abbrev pub target_operands : Pass → Form → List ℕ → List ℕ
target_operands z f ns = free_of_numbers (target z) (operands f) ns ++ free_of_body (target z) f

-- a node whose operands are evaluated one after another; the next value is one of its kind
pub data ArgsRel (z : Pass) (w : World) (m : Env) (o : Option ℕ) : Work TreeWork → Work TreeWork → Type 0 where
  operand_next : (n : ℕ) (done ns : List ℕ) {i s : ℕ} {p : Place} {f g : Form} {vs us : List Value} {q r : Env} →
      IsPermutation (numbers (z.line s) f) (count (operands f)) → FormBecomes z i f g →
      numbers (z.line s) f ≡ done ++ n ∷ ns → kind z f n ≡ o → ValuesRel z w m f done vs us →
      EnvRel z w (lifted_of z f (done ++ n ∷ [])) (source_operands z f ns) q (target_operands z g ns) r m →
      ArgsRel z w m o (Own (Args p s g vs r)) (Own (Args p s f us q))

-- what waits for a value
pub data WorkRel (z : Pass) (w : World) : Work TreeWork → Work TreeWork → Type 0 where
  top : {k : ℕ} → WorkRel z w (Top k) (Top k)
  select : {i : ℕ} {a b c d : Tree} {q r m : Env} → Becomes z i a c → Becomes z i b d →
      EnvRel z w [] (free z.source_free a ++ free z.source_free b) q (free z.target_free c ++ free z.target_free d) r m →
      WorkRel z w (Own (Sel c d r)) (Own (Sel a b q))
  set_global : {g : ℕ} {b : Bool} {p : Place} → WorkRel z w (Own (SetGlo g b p)) (Own (SetGlo g b p))
  rest : {i : ℕ} {es ds : Trees} {q r m : Env} → BecomeAll z i es ds →
      EnvRel z w [] (free_all z.source_free es) q (free_all z.target_free ds) r m →
      WorkRel z w (Own (Rest ds r)) (Own (Rest es q))
  args : {m : Env} {a b : Work TreeWork} → ArgsRel z w m None a b → WorkRel z w a b
  direct_args : (n : ℕ) (done ns : List ℕ) {i s j x l : ℕ} {p o : Place} {es ds : Trees} {vs us : List Value} {q r m : Env} →
      z.choice.names x ≡ Some l → z.line s ≡ Some (done ++ suc n ∷ ns) →
      IsPermutation (done ++ suc n ∷ ns) (suc (count es)) → BecomeAll z i es ds → CallRel z w m l done vs us →
      EnvRel z w (l ∷ []) (source_operands z (Call (Node o j (Local x)) es) ns) q
      (target_operands z (Direct l (joined ds (locals o j (z.choice.added l)))) (own_numbers ns ++ added_numbers z l es)) r m →
      WorkRel z w (Own (Args p s (Direct l (joined ds (locals o j (z.choice.added l)))) vs r))
      (Own (Args p s (Call (Node o j (Local x)) es) us q))

pub data FramesRel (z : Pass) (w : World) : Frames → Frames → Type 0 where
  no_frame : FramesRel z w [] []
  frame : {b : Bool} {a c : Work TreeWork} {fs hs : Frames} → WorkRel z w a c → FramesRel z w fs hs →
      FramesRel z w (record { marked = b; work = a } ∷ fs) (record { marked = b; work = c } ∷ hs)

-- variables with their values
pub data Got (m : Env) : List ℕ → List Value → Type 0 where
  got_none : Got m [] []
  got_more : {y : ℕ} {v : Value} {ys : List ℕ} {vs : List Value} → lookup m y ≡ Some v → Got m ys vs →
      Got m (y ∷ ys) (v ∷ vs)

pub data ControlRel (z : Pass) (w : World) : Control Tree → Control Tree → Type 0 where
  eval : {i : ℕ} {e d : Tree} {q r m : Env} → Becomes z i e d →
      EnvRel z w [] (free z.source_free e) q (free z.target_free d) r m → ControlRel z w (Eval d r) (Eval e q)
  bound : {i : ℕ} {e d : Tree} {xs ys : List ℕ} {q r m : Env} → Becomes z i e d →
      ((y : ℕ) → IsIn y (free z.source_free e) → IsIn y xs) → ((y : ℕ) → IsIn y (free z.target_free d) → IsIn y ys) →
      EnvRel z w [] xs q ys r m → ControlRel z w (Bound d r) (Bound e q)
  val : {v u : Value} → Alike w v u → ControlRel z w (Val v) (Val u)
  entering : {t s : ℕ} {vs us : List Value} → IsIn (Both t s) w → AllAlike w vs us →
      ControlRel z w (Entering (Closure t) vs) (Entering (Closure s) us)
  entering_lifted : {l c : ℕ} {vs us gs : List Value} {m : Env} → Ready z w l c m → AllAlike w vs us →
      Got m (z.choice.added l) gs → ControlRel z w (Entering (Lifted l) (vs ++ gs)) (Entering (Closure c) us)

-- a lambda expression that is lifted is the next operand of a `let`
pub data LetFrames (z : Pass) (w : World) (l : ℕ) (m : Env) : Frames → Frames → Type 0 where
  let_frame : {a b : Work TreeWork} {fs hs : Frames} → ArgsRel z w m (Some l) a b → FramesRel z w fs hs →
      LetFrames z w l m (record { marked = false; work = a } ∷ fs) (record { marked = false; work = b } ∷ hs)

-- controls with their frames
pub data PointRel (z : Pass) (w : World) : Control Tree → Frames → Control Tree → Frames → Type 0 where
  point : {a b : Control Tree} {fs hs : Frames} → ControlRel z w a b → FramesRel z w fs hs → PointRel z w a fs b hs
  -- a lambda expression that is lifted is an operand of a `let`, in the source alone
  making : {p : Place} {s l : ℕ} {q r m : Env} {fs hs : Frames} → z.choice.lifted l ≡ true → env_values r ≡ [] →
      Scope z w (z.source_free l) q m → LetFrames z w l m fs hs →
      PointRel z w (Eval (Node p s (Quote Const.Unspecified)) r) fs (Eval (Node p s (Lambda l)) q) hs
  made : {l c : ℕ} {m : Env} {fs hs : Frames} → Ready z w l c m → LetFrames z w l m fs hs →
      PointRel z w (Val Unspecified) fs (Val (At c)) hs

-- values of added variables alone
abbrev pub AddedAlone : Pass → ℕ → Env → Env → Type 0
AddedAlone z l m r = (v : Value) → IsIn v (env_values r) → (y : ℕ) × IsIn y (z.choice.added l) × (lookup m y ≡ Some v)

-- the target evaluates the variables that are added to a direct call: some have values
pub record Adds (z : Pass) (l : ℕ) (m : Env) (done ys : List ℕ) (gs : List Value) (r : Env) : Type 0 where
  pub whole : done ++ ys ≡ z.choice.added l
  pub got : Got m done gs
  pub agree : (y : ℕ) → IsIn y ys → lookup r y ≡ lookup m y
  pub alone : AddedAlone z l m r

-- the call at this site, with its own operands
pub record CallsAt (z : Pass) (ns : List ℕ) (s : ℕ) (ds : Trees) : Type 0 where
  pub lined : z.line s ≡ Some ns
  pub permutation : IsPermutation ns (suc (count ds))

-- one of these variables is evaluated, with the values vs of the operands of the call itself
pub data AddingRel (z : Pass) (w : World) (l : ℕ) (m : Env) (ns : List ℕ) (vs : List Value) (hs : Frames) : Control Tree →
    Frames → Type 0 where
  reads : (ds : Trees) (done ys : List ℕ) (gs : List Value) {p o : Place} {s i y : ℕ} {q r : Env} {fs : Frames} →
      CallsAt z ns s ds → Adds z l m done (y ∷ ys) gs r → lookup q y ≡ lookup m y → AddedAlone z l m q →
      FramesRel z w fs hs →
      AddingRel z w l m ns vs hs (Eval (Node o i (Local y)) q)
      (record { marked = false; work = Own (Args p s (Direct l (joined ds (locals o i (z.choice.added l)))) (vs ++ gs) r) } ∷ fs)
  gives : (o : Place) (i : ℕ) (ds : Trees) (done : List ℕ) (y : ℕ) (ys : List ℕ) (gs : List Value) {p : Place} {s : ℕ}
      {v : Value} {r : Env} {fs : Frames} →
      CallsAt z ns s ds → Adds z l m done (y ∷ ys) gs r → lookup m y ≡ Some v → FramesRel z w fs hs →
      AddingRel z w l m ns vs hs (Val v)
      (record { marked = false; work = Own (Args p s (Direct l (joined ds (locals o i (z.choice.added l)))) (vs ++ gs) r) } ∷ fs)
