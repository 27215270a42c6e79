-- The rules of a program hold in one way, so a program has them whole.
use Rattle.std.proofs.Common.{ℕ, suc, ◌<◌, ◌^◌, Bool, List, [], ◌∷◌}
use Rattle.std.proofs.Math.Logic.{∥∥₁_elim}
use Rattle.std.proofs.Props.{props}
use Rattle.std.specs.Coded.{×_prop, →_prop, Unit-prop}
use Rattle.tb_prim.specs.declared.constant.Const.{Const}
use Rattle.tb_prim.specs.declared.constant.Static.{Static}
use Rattle.tb_semantics.specs.Graph.{IsApart}
use Rattle.tb_core.specs.Tree.{Tree, Node, Form, Quote, Local, Global, Lambda, If, SetLocal, SetGlobal, DefGlobal, Let, Letrec, Seq, Call, PrimUse, Apply, Trees, none, more, LambdaTree, ProgramTree}
use Rattle.tb_core.specs.Rules.{Every, Each, EachForm, EachAll, InnerAreGreater, ConstKeeps, PartKeeps, StaticKeeps, StaticsKeep, IsInRange, IsShaped, BindsForGood, NoMark, MarksAssigned, MarksAreOperands, NodeKeeps, LambdaKeeps, KeepsRules, variables}

pub Every-prop : {X : Type 0} (P : X → Type 0) → ((x : X) → IsProp (P x)) → (xs : List X) → IsProp (Every P xs)
Every-prop P p [] = Unit-prop
Every-prop P p (x ∷ xs) = ×_prop (p x) (Every-prop P p xs)

mutual
  Each-prop : (R : ℕ → Form → Type 0) → ((s : ℕ) (f : Form) → IsProp (R s f)) → (e : Tree) → IsProp (Each R e)
  Each-prop R r (Node p s f) = ×_prop (r s f) (EachForm-prop R r f)

  EachForm-prop : (R : ℕ → Form → Type 0) → ((s : ℕ) (f : Form) → IsProp (R s f)) → (f : Form) → IsProp (EachForm R f)
  EachForm-prop R r (Quote c) = Unit-prop
  EachForm-prop R r (Local x) = Unit-prop
  EachForm-prop R r (Global g) = Unit-prop
  EachForm-prop R r (Lambda l) = Unit-prop
  EachForm-prop R r (If a b c) = hlevel (Each-prop R r a, Each-prop R r b, Each-prop R r c)
  EachForm-prop R r (SetLocal x e) = Each-prop R r e
  EachForm-prop R r (SetGlobal g e) = Each-prop R r e
  EachForm-prop R r (DefGlobal g e) = Each-prop R r e
  EachForm-prop R r (Let xs es e) = ×_prop (EachAll-prop R r es) (Each-prop R r e)
  EachForm-prop R r (Letrec xs ls e) = Each-prop R r e
  EachForm-prop R r (Seq es) = EachAll-prop R r es
  EachForm-prop R r (Call f es) = ×_prop (Each-prop R r f) (EachAll-prop R r es)
  EachForm-prop R r (PrimUse p es) = EachAll-prop R r es
  EachForm-prop R r (Apply f l) = ×_prop (Each-prop R r f) (Each-prop R r l)

  EachAll-prop : (R : ℕ → Form → Type 0) → ((s : ℕ) (f : Form) → IsProp (R s f)) → (es : Trees) → IsProp (EachAll R es)
  EachAll-prop R r none = Unit-prop
  EachAll-prop R r (more e es) = ×_prop (Each-prop R r e) (EachAll-prop R r es)

IsApart-prop : (xs : List ℕ) → IsProp (IsApart xs)
IsApart-prop [] = Unit-prop
IsApart-prop (x ∷ xs) = ×_prop (→_prop (λ a b. absurd a)) (IsApart-prop xs)

InnerAreGreater-prop : (first : ℕ) (ls : List LambdaTree) → IsProp (InnerAreGreater first ls)
InnerAreGreater-prop first [] = Unit-prop
InnerAreGreater-prop first (l ∷ ls) = ×_prop (Every-prop _ (λ m. hlevel props) _) (InnerAreGreater-prop (suc first) ls)

ConstKeeps-prop : (n : ℕ) (c : Const) → IsProp (ConstKeeps n c)
ConstKeeps-prop n (Const.Fix z) = hlevel props
ConstKeeps-prop n (Const.Char c) = Unit-prop
ConstKeeps-prop n (Const.Bool b) = Unit-prop
ConstKeeps-prop n Const.Nil = Unit-prop
ConstKeeps-prop n Const.Unspecified = Unit-prop
ConstKeeps-prop n Const.Undefined = Unit-prop
ConstKeeps-prop n (Const.Stat k) = hlevel props

PartKeeps-prop : (n : ℕ) (c : Const) → IsProp (PartKeeps n c)
PartKeeps-prop n (Const.Fix z) = hlevel props
PartKeeps-prop n (Const.Char c) = Unit-prop
PartKeeps-prop n (Const.Bool b) = Unit-prop
PartKeeps-prop n Const.Nil = Unit-prop
PartKeeps-prop n Const.Unspecified = Unit-prop
PartKeeps-prop n Const.Undefined = λ a b. absurd a
PartKeeps-prop n (Const.Stat k) = hlevel props

StaticKeeps-prop : (n : ℕ) (s : Static) → IsProp (StaticKeeps n s)
StaticKeeps-prop n (Static.Pair a b) = ×_prop (PartKeeps-prop n a) (PartKeeps-prop n b)
StaticKeeps-prop n (Static.Vector cs) = ×_prop (hlevel props) (Every-prop _ (PartKeeps-prop n) cs)
StaticKeeps-prop n (Static.Str bs) = hlevel props
StaticKeeps-prop n (Static.Sym bs) = hlevel props

StaticsKeep-prop : (first : ℕ) (ss : List Static) → IsProp (StaticsKeep first ss)
StaticsKeep-prop first [] = Unit-prop
StaticsKeep-prop first (s ∷ ss) = ×_prop (StaticKeeps-prop first s) (StaticsKeep-prop (suc first) ss)

IsInRange-prop : (p : ProgramTree) (f : Form) → IsProp (IsInRange p f)
IsInRange-prop p (Quote c) = ConstKeeps-prop _ c
IsInRange-prop p (Global g) = hlevel props
IsInRange-prop p (Lambda l) = hlevel props
IsInRange-prop p (SetGlobal g e) = hlevel props
IsInRange-prop p (DefGlobal g e) = hlevel props
IsInRange-prop p (Letrec xs ls e) = Every-prop _ (λ l. hlevel props) ls
IsInRange-prop p _ = Unit-prop

IsShaped-prop : (f : Form) → IsProp (IsShaped f)
IsShaped-prop (Let xs es e) = hlevel props
IsShaped-prop (Letrec xs ls e) = hlevel props
IsShaped-prop (Seq es) = hlevel props
IsShaped-prop (PrimUse q es) = hlevel props
IsShaped-prop _ = Unit-prop

BindsForGood-prop : (a : ℕ → Bool) (f : Form) → IsProp (BindsForGood a f)
BindsForGood-prop a (Letrec xs ls e) = Every-prop _ (λ x. hlevel props) xs
BindsForGood-prop a _ = Unit-prop

NoMark-prop : (es : Trees) → IsProp (NoMark es)
NoMark-prop none = Unit-prop
NoMark-prop (more e es) = ×_prop (hlevel props) (NoMark-prop es)

MarksAssigned-prop : (a : ℕ → Bool) (xs : List ℕ) (es : Trees) → IsProp (MarksAssigned a xs es)
MarksAssigned-prop a xs none = Unit-prop
MarksAssigned-prop a [] (more e es) = NoMark-prop (more e es)
MarksAssigned-prop a (x ∷ xs) (more e es) = ×_prop (→_prop (hlevel props)) (MarksAssigned-prop a xs es)

MarksAreOperands-prop : (a : ℕ → Bool) (f : Form) → IsProp (MarksAreOperands a f)
MarksAreOperands-prop a (Quote c) = Unit-prop
MarksAreOperands-prop a (Local x) = Unit-prop
MarksAreOperands-prop a (Global g) = Unit-prop
MarksAreOperands-prop a (Lambda l) = Unit-prop
MarksAreOperands-prop a (If b c d) = NoMark-prop (more b (more c (more d none)))
MarksAreOperands-prop a (SetLocal x e) = hlevel props
MarksAreOperands-prop a (SetGlobal g e) = hlevel props
MarksAreOperands-prop a (DefGlobal g e) = hlevel props
MarksAreOperands-prop a (Let xs es e) = ×_prop (MarksAssigned-prop a xs es) (hlevel props)
MarksAreOperands-prop a (Letrec xs ls e) = hlevel props
MarksAreOperands-prop a (Seq es) = NoMark-prop es
MarksAreOperands-prop a (Call f es) = NoMark-prop (more f es)
MarksAreOperands-prop a (PrimUse q es) = NoMark-prop es
MarksAreOperands-prop a (Apply f l) = NoMark-prop (more f (more l none))

NodeKeeps-prop : (p : ProgramTree) (s : ℕ) (f : Form) → IsProp (NodeKeeps p s f)
NodeKeeps-prop p s f = hlevel (props, IsInRange-prop, IsShaped-prop, BindsForGood-prop, MarksAreOperands-prop)

LambdaKeeps-prop : (p : ProgramTree) (l : LambdaTree) → IsProp (LambdaKeeps p l)
LambdaKeeps-prop p l =
    let nodes : IsProp (Each (NodeKeeps p) l.body) = Each-prop (NodeKeeps p) (NodeKeeps-prop p) l.body in
    hlevel (props, nodes)

pub KeepsRules-prop : (p : ProgramTree) → IsProp (KeepsRules p)
KeepsRules-prop p =
    let forms : IsProp (EachAll (NodeKeeps p) p.forms) = EachAll-prop (NodeKeeps p) (NodeKeeps-prop p) p.forms in
    let lambdas : IsProp (Every (LambdaKeeps p) p.lambdas) = Every-prop (LambdaKeeps p) (LambdaKeeps-prop p) p.lambdas in
    let small : IsProp (Every (λ x. x < 2 ^ 24) (variables p)) = Every-prop _ (λ x. hlevel props) (variables p) in
    hlevel (props, forms, lambdas, small, IsApart-prop, InnerAreGreater-prop, StaticsKeep-prop, NoMark-prop)

-- a program's type says that a proof exists
pub whole-rules : (p : ProgramTree) → ∥ KeepsRules p ∥₁ → KeepsRules p
whole-rules p h = ∥∥₁_elim h (KeepsRules-prop p) (λ k. k)
