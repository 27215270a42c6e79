-- How the states of a program with cells are related to those of its source: a variable that is assigned has a
-- cell for its item, and another holds what its item holds for good.
use Rattle.std.proofs.Common.{◌≡◌, ℕ, suc, ◌^◌, ◌<◌, ◌≤◌, Bool, true, false, cond, IsTrue, List, [], ◌∷◌, ◌++◌, length, drop, Option, Some, None, slice_get}
use Rattle.tb_prim.specs.declared.place.Place.{Place}
use Rattle.tb_semantics.specs.Graph.{IsIn, IsApart}
use Rattle.tb_semantics.proofs.Worlds.{Both, Only, World}
use Rattle.tb_core.specs.Tree.{Tree, Form, SetLocal, Let, Letrec, Trees, LambdaTree, ProgramTree, parameters, tree_at}
use Rattle.tb_core.specs.FreeVariables.{free, lambda_free, inner_free, is_assigned}
use Rattle.tb_core.specs.OperandOrder.{HasLine, has_order, line_at, order_of}
use Rattle.tb_core.specs.Rules.{Each, EachForm, EachAll, NodeKeeps, StaticsKeep, NoMark, is_mark}
use Rattle.tb_core.specs.Store as S
use Rattle.tb_core.specs.Store.{Value, Fix, Char, Truth, Nil, Unspecified, Undefined, EndObject, At, Object, Pair, Vec, Str, Sym}
use Rattle.tb_core.specs.Reference as R
use Rattle.tb_core.specs.Partners.{AlikeValues, AlikeLists, AlikeObjects}
use Rattle.tb_ir.specs.Tree as C
use Rattle.tb_ir.specs.FreeVariables as F
use Rattle.tb_ir.specs.Machine as M
use Rattle.tb_ir.specs.TreeMachine as T
use Rattle.tb_assign.specs.Eliminate.{celled, cell_name, eliminate, eliminate_form, eliminate_all, cells_of}
use Rattle.tb_assign.proofs.Free.{NamesSmall, SmallLambdas, AreSmall}

-- a variable that is set is assigned; the variables that are bound in a body are apart and have numbers of the program, and those that are assigned
-- are named in it
pub record BindsWell (p : ProgramTree) (xs : List ℕ) (e : Tree) : Type 0 where
  pub apart : IsApart xs
  pub small : AreSmall xs
  pub used : (x : ℕ) → IsIn x (celled (is_assigned p) xs) → IsIn x (free (inner_free p) e)

abbrev pub BindsIn : ProgramTree → Form → Type 0
BindsIn p (Let xs es e) = BindsWell p xs e
BindsIn p (Letrec xs ls e) = BindsWell p xs e
BindsIn p (SetLocal x e) = is_assigned p x ≡ true
BindsIn p f = Unit {0}

-- what the simulation needs of a node, and of a program
pub record Good (p : ProgramTree) (s : ℕ) (f : Form) : Type 0 where
  pub node : NodeKeeps p s f
  pub lined : HasLine p s f
  pub named : NamesSmall s f
  pub binds : BindsIn p f

pub record Ready (p : ProgramTree) : Type 0 where
  pub names_forms : EachAll NamesSmall p.forms
  pub names_bodies : SmallLambdas (is_assigned p) p.lambdas
  pub forms : EachAll (Good p) p.forms
  pub bodies : (n : ℕ) (l : LambdaTree) → slice_get p.lambdas n ≡ Some l → Each (Good p) l.body
  pub free_of : (n : ℕ) (l : LambdaTree) → slice_get p.lambdas n ≡ Some l →
      inner_free p n ≡ lambda_free (inner_free p) l
  pub binds : (n : ℕ) (l : LambdaTree) → slice_get p.lambdas n ≡ Some l → BindsWell p (parameters l) l.body
  pub values : (n : ℕ) (l : LambdaTree) → slice_get p.lambdas n ≡ Some l → is_mark l.body ≡ false
  pub closed : (n : ℕ) (e : Tree) (y : ℕ) → tree_at p.forms n ≡ Some e → IsIn y (free (inner_free p) e) → ⊥
  pub no_mark : NoMark p.forms
  pub lines_small : (s : ℕ) → 2 ^ 24 ≤ s → T.line_of (order_of p) s ≡ None
  pub statics : StaticsKeep 0 p.statics

-- two locations stand for one another
abbrev pub Partner : World Value → ℕ → ℕ → Type 0
Partner w t s = IsIn (Both t s) w

-- values that stand for one another, where the mark of a variable without a value may stand or not
abbrev pub Alike : World Value → Bool → Value → Value → Type 0
Alike w b v u = AlikeValues (Partner w) (IsTrue b) v u

abbrev pub AllAlike : World Value → List Value → List Value → Type 0
AllAlike w vs us = AlikeLists (Partner w) (IsTrue false) vs us

-- what stands for the item of a variable, assigned or not
pub data VarRel (w : World Value) (b : Bool) : Value → ℕ → Type 0 where
  in_cell : {t s : ℕ} → b ≡ true → IsIn (Both t s) w → VarRel w b (At t) s
  plain : {v : Value} {s : ℕ} → b ≡ false → IsIn (Only s v) w → VarRel w b v s

-- each variable that the one environment has, the other has too
pub data EnvRel (g : ℕ → Bool) (w : World Value) : M.Env → S.Env → Type 0 where
  empty : {q : S.Env} → EnvRel g w M.Empty q
  bind : {x : ℕ} {v : Value} {s : ℕ} {r : M.Env} {q : S.Env} → S.lookup q x ≡ Some s → VarRel w (g x) v s →
      EnvRel g w r q → EnvRel g w (M.Bind x v r) q

-- an environment has all of these variables
pub record Covers (xs : List ℕ) (r : M.Env) : Type 0 where
  pub has : (y : ℕ) → IsIn y xs → (v : Value) × (M.lookup r y ≡ Some v)

module _ (p : ProgramTree) where
  abbrev pub assigned : ℕ → Bool
  assigned = is_assigned p

  -- the free variables of the lambda expressions with cells
  abbrev pub inner_cells : ℕ → List ℕ
  inner_cells = F.inner_free (cells_of p)

  abbrev pub free_cells : Tree → List ℕ
  free_cells e = F.free inner_cells (eliminate assigned e)

  abbrev pub free_all_cells : Trees → List ℕ
  free_all_cells es = F.free_all inner_cells (eliminate_all assigned es)

  abbrev pub source : R.Context
  source = R.context_of p (order_of p)

  abbrev pub target : T.Context
  target = T.context_of (cells_of p) (order_of p)

  -- whether the value of an operand may be the mark: where it is of a variable of a `let` that is assigned
  abbrev pub assigned_at : Option ℕ → Bool
  assigned_at None = false
  assigned_at (Some x) = assigned x

  abbrev pub may_mark : Form → ℕ → Bool
  may_mark (Let xs es e) n = assigned_at (slice_get xs n)
  may_mark f n = false

  abbrev pub may_number : Form → Option ℕ → Bool
  may_number f None = false
  may_number f (Some n) = may_mark f n

  abbrev pub may_work : R.Work → Bool
  may_work (R.Args q s f us r) = may_number f (slice_get (line_at (order_of p) s) (length us))
  may_work _ = false

  abbrev pub may_top : List R.Frame → Bool
  may_top [] = false
  may_top (f ∷ fs) = cond f.marked false (may_work f.work)

  -- values of operands, in the order of their line
  pub data ValuesRel (w : World Value) (f : Form) : List ℕ → List Value → List Value → Type 0 where
    none_yet : {ns : List ℕ} → ValuesRel w f ns [] []
    one_more : {n : ℕ} {ns : List ℕ} {v u : Value} {vs us : List Value} → Alike w (may_mark f n) v u →
        ValuesRel w f ns vs us → ValuesRel w f (n ∷ ns) (v ∷ vs) (u ∷ us)

  pub data WorkRel (w : World Value) : M.Work T.TreeWork → R.Work → Type 0 where
    top : {k : ℕ} → WorkRel w (M.Top k) (R.Top k)
    sel : {a b : Tree} {r : M.Env} {q : S.Env} → Each (Good p) a → Each (Good p) b → is_mark a ≡ false →
        is_mark b ≡ false →
        Covers (free_cells a ++ free_cells b) r → EnvRel assigned w r q →
        WorkRel w (M.Own (T.Sel (eliminate assigned a) (eliminate assigned b) r)) (R.Sel a b q)
    set_global : {n : ℕ} {d : Bool} {q : Place} → WorkRel w (M.Own (T.SetGlo n d q)) (R.SetGlo n d q)
    set_cell : {q : Place} {n x : ℕ} {e : C.Tree} {t s : ℕ} → IsIn (Both t s) w →
        WorkRel w (M.Own (T.Args q n (C.CellSet (cell_name assigned q n x) e) (At t ∷ []) M.Empty)) (R.SetVar s)
    rest : {es : Trees} {r : M.Env} {q : S.Env} → EachAll (Good p) es → NoMark es → Covers (free_all_cells es) r →
        EnvRel assigned w r q →
        WorkRel w (M.Own (T.Rest (eliminate_all assigned es) r)) (R.Rest es q)
    args : {q : Place} {s : ℕ} {f : Form} {vs us : List Value} {r : M.Env} {h : S.Env} → has_order f ≡ true →
        Good p s f → EachForm (Good p) f →
        ValuesRel w f (line_at (order_of p) s) vs us → length us < length (line_at (order_of p) s) →
        Covers (T.free_of_numbers target (C.operands (eliminate_form assigned q s f))
        (drop (suc (length us)) (line_at (order_of p) s)) ++ T.free_of_body target
        (eliminate_form assigned q s f)) r →
        EnvRel assigned w r h →
        WorkRel w (M.Own (T.Args q s (eliminate_form assigned q s f) vs r)) (R.Args q s f us h)

  pub data FramesRel (w : World Value) : List (M.Frame T.TreeWork) → List R.Frame → Type 0 where
    no_frame : FramesRel w [] []
    frame : {m : Bool} {a : M.Work T.TreeWork} {b : R.Work} {fs : List (M.Frame T.TreeWork)} {hs : List R.Frame} →
        WorkRel w a b → FramesRel w fs hs →
        FramesRel w (record { marked = m; work = a } ∷ fs) (record { marked = m; work = b } ∷ hs)

  pub data ControlRel (w : World Value) (hs : List R.Frame) : M.Control C.Tree → R.Control → Type 0 where
    eval : {e : Tree} {r : M.Env} {q : S.Env} → Each (Good p) e → (is_mark e ≡ true → may_top hs ≡ true) →
        Covers (free_cells e) r → EnvRel assigned w r q →
        ControlRel w hs (M.Eval (eliminate assigned e) r) (R.Eval e q)
    bound : {e : Tree} {r : M.Env} {q : S.Env} → Each (Good p) e → is_mark e ≡ false → Covers (free_cells e) r →
        EnvRel assigned w r q →
        ControlRel w hs (M.Bound (eliminate assigned e) r) (R.Bound e q)
    val : {v u : Value} → Alike w (may_top hs) v u → ControlRel w hs (M.Val v) (R.Val u)
    entering : {t s : ℕ} {vs us : List Value} → IsIn (Both t s) w → AllAlike w vs us →
        ControlRel w hs (M.Entering (M.Closure t) vs) (R.Entering s us)

  pub data ItemRel (w : World Value) : M.Item → S.Item → Type 0 where
    cell : {v u : Value} → Alike w true v u → ItemRel w (M.Cell v) (S.Var u)
    object : {o n : Object} → AlikeObjects (Partner w) (IsTrue false) o n → ItemRel w (M.Obj o) (S.Obj n)
    closure : {m : ℕ} {r : M.Env} {q : S.Env} → Covers (inner_cells m) r → EnvRel assigned w r q →
        ItemRel w (M.Clo m r) (S.Clo m q)

  -- a variable of the source that holds a value for good
  pub data Known (w : World Value) : S.Item → Value → Type 0 where
    holds : {v u : Value} → Alike w false v u → Known w (S.Var u) v
