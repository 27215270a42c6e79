-- The rules that every program keeps (this project's own).
use Rattle.std.specs.Prelude.{◌≡◌, ℕ, suc, ◌+◌, ◌^◌, ◌<◌, ◌≤◌, Bool, true, false, List, [], ◌∷◌, ◌++◌, length, map}
use Rattle.tb_prim.specs.declared.constant.Const.{Const}
use Rattle.tb_prim.specs.declared.constant.Static.{Static}
use Rattle.tb_prim.specs.Primitives.{arity_of}
use Rattle.tb_semantics.specs.Graph.{IsApart}
use Rattle.tb_core.specs.Tree.{Tree, Node, Form, Quote, Local, Global, Lambda, If, SetLocal, SetGlobal, DefGlobal, Let, Letrec, Seq, Call, PrimUse, Apply, Trees, none, more, count, LambdaTree, ProgramTree}
use Rattle.tb_core.specs.FreeVariables.{is_in, is_assigned, free_all, inner_free}
use Rattle.tb_core.specs.OperandOrder.{Line, order_of}
use Rattle.tb_prim.specs.Fixnums.{is_fixnum}
pub use Rattle.tb_core.specs.Variables.{bound, bound_form, bound_all, bound_in_lambdas, variables}

-- a fact about each element of a list
abbrev pub Every : {X : Type 0} → (X → Type 0) → List X → Type 0
Every P [] = Unit {0}
Every P (x ∷ xs) = P x × Every P xs

-- a fact about the number and the form of each node of an expression, inner lambdas apart
abbrev mutual
  pub Each : (ℕ → Form → Type 0) → Tree → Type 0
  Each R (Node p s f) = R s f × EachForm R f

  pub EachForm : (ℕ → Form → Type 0) → Form → Type 0
  EachForm R (Quote c) = Unit {0}
  EachForm R (Local x) = Unit {0}
  EachForm R (Global g) = Unit {0}
  EachForm R (Lambda l) = Unit {0}
  EachForm R (If a b c) = Each R a × Each R b × Each R c
  EachForm R (SetLocal x e) = Each R e
  EachForm R (SetGlobal g e) = Each R e
  EachForm R (DefGlobal g e) = Each R e
  EachForm R (Let xs es e) = EachAll R es × Each R e
  EachForm R (Letrec xs ls e) = Each R e
  EachForm R (Seq es) = EachAll R es
  EachForm R (Call f es) = Each R f × EachAll R es
  EachForm R (PrimUse p es) = EachAll R es
  EachForm R (Apply f l) = Each R f × Each R l

  pub EachAll : (ℕ → Form → Type 0) → Trees → Type 0
  EachAll R none = Unit {0}
  EachAll R (more e es) = Each R e × EachAll R es

-- how many nodes an expression has, inner lambdas apart
abbrev mutual
  pub size : Tree → ℕ
  size (Node p s f) = suc (size_form f)

  pub size_form : Form → ℕ
  size_form (Quote c) = 0
  size_form (Local x) = 0
  size_form (Global g) = 0
  size_form (Lambda l) = 0
  size_form (If a b c) = size a + (size b + size c)
  size_form (SetLocal x e) = size e
  size_form (SetGlobal g e) = size e
  size_form (DefGlobal g e) = size e
  size_form (Let xs es e) = size_all es + size e
  size_form (Letrec xs ls e) = size e
  size_form (Seq es) = size_all es
  size_form (Call f es) = size f + size_all es
  size_form (PrimUse p es) = size_all es
  size_form (Apply f l) = size f + size l

  pub size_all : Trees → ℕ
  size_all none = 0
  size_all (more e es) = size e + size_all es

abbrev pub size_of_lambdas : List LambdaTree → ℕ
size_of_lambdas [] = 0
size_of_lambdas (l ∷ ls) = size l.body + size_of_lambdas ls

-- the lambda expressions that stand in an expression, those inside them apart
abbrev mutual
  pub inner : Tree → List ℕ
  inner (Node p s f) = inner_form f

  pub inner_form : Form → List ℕ
  inner_form (Quote c) = []
  inner_form (Local x) = []
  inner_form (Global g) = []
  inner_form (Lambda l) = l ∷ []
  inner_form (If a b c) = inner a ++ (inner b ++ inner c)
  inner_form (SetLocal x e) = inner e
  inner_form (SetGlobal g e) = inner e
  inner_form (DefGlobal g e) = inner e
  inner_form (Let xs es e) = inner_all es ++ inner e
  inner_form (Letrec xs ls e) = ls ++ inner e
  inner_form (Seq es) = inner_all es
  inner_form (Call f es) = inner f ++ inner_all es
  inner_form (PrimUse p es) = inner_all es
  inner_form (Apply f l) = inner f ++ inner l

  pub inner_all : Trees → List ℕ
  inner_all none = []
  inner_all (more e es) = inner e ++ inner_all es

abbrev pub inner_of_lambdas : List LambdaTree → List ℕ
inner_of_lambdas [] = []
inner_of_lambdas (l ∷ ls) = inner l.body ++ inner_of_lambdas ls

-- the lambda expressions of a program, as often as they stand in it
abbrev pub standing : ProgramTree → List ℕ
standing p = inner_all p.forms ++ inner_of_lambdas p.lambdas

-- the lambda expressions inside another have greater numbers; the first of the list has number `first`
abbrev pub InnerAreGreater : ℕ → List LambdaTree → Type 0
InnerAreGreater first [] = Unit {0}
InnerAreGreater first (l ∷ ls) = Every (λ m. first < m) (inner l.body) × InnerAreGreater (suc first) ls

-- a constant of a node names one of so many static objects, and a fixnum is one
abbrev pub ConstKeeps : ℕ → Const → Type 0
ConstKeeps statics (Const.Fix n) = is_fixnum n ≡ true
ConstKeeps statics (Const.Char c) = Unit {0}
ConstKeeps statics (Const.Bool b) = Unit {0}
ConstKeeps statics Const.Nil = Unit {0}
ConstKeeps statics Const.Unspecified = Unit {0}
ConstKeeps statics Const.Undefined = Unit {0}
ConstKeeps statics (Const.Stat n) = n < statics

-- the same of a part of a static object, which is not Undefined
abbrev pub PartKeeps : ℕ → Const → Type 0
PartKeeps statics (Const.Fix n) = is_fixnum n ≡ true
PartKeeps statics (Const.Char c) = Unit {0}
PartKeeps statics (Const.Bool b) = Unit {0}
PartKeeps statics Const.Nil = Unit {0}
PartKeeps statics Const.Unspecified = Unit {0}
PartKeeps statics Const.Undefined = ⊥
PartKeeps statics (Const.Stat n) = n < statics

-- a static object has at most 2^24 - 1 elements or bytes, and names earlier ones alone
abbrev pub StaticKeeps : ℕ → Static → Type 0
StaticKeeps n (Static.Pair a b) = PartKeeps n a × PartKeeps n b
StaticKeeps n (Static.Vector cs) = (length cs < 2 ^ 24) × Every (PartKeeps n) cs
StaticKeeps n (Static.Str bs) = length bs < 2 ^ 24
StaticKeeps n (Static.Sym bs) = length bs < 2 ^ 24

abbrev pub StaticsKeep : ℕ → List Static → Type 0
StaticsKeep first [] = Unit {0}
StaticsKeep first (s ∷ ss) = StaticKeeps first s × StaticsKeep (suc first) ss

-- the numbers of globals, lambda expressions and static objects are in range
abbrev pub IsInRange : ProgramTree → Form → Type 0
IsInRange p (Quote c) = ConstKeeps (length p.statics) c
IsInRange p (Local x) = Unit {0}
IsInRange p (Global g) = g < length p.globals
IsInRange p (Lambda l) = l < length p.lambdas
IsInRange p (If a b c) = Unit {0}
IsInRange p (SetLocal x e) = Unit {0}
IsInRange p (SetGlobal g e) = g < length p.globals
IsInRange p (DefGlobal g e) = g < length p.globals
IsInRange p (Let xs es e) = Unit {0}
IsInRange p (Letrec xs ls e) = Every (λ l. l < length p.lambdas) ls
IsInRange p (Seq es) = Unit {0}
IsInRange p (Call f es) = Unit {0}
IsInRange p (PrimUse q es) = Unit {0}
IsInRange p (Apply f l) = Unit {0}

-- a `let` and a `letrec` have as many variables as expressions, a sequence is not empty, and a primitive has
-- its own number of operands
abbrev pub IsShaped : Form → Type 0
IsShaped (Quote c) = Unit {0}
IsShaped (Local x) = Unit {0}
IsShaped (Global g) = Unit {0}
IsShaped (Lambda l) = Unit {0}
IsShaped (If a b c) = Unit {0}
IsShaped (SetLocal x e) = Unit {0}
IsShaped (SetGlobal g e) = Unit {0}
IsShaped (DefGlobal g e) = Unit {0}
IsShaped (Let xs es e) = length xs ≡ count es
IsShaped (Letrec xs ls e) = length xs ≡ length ls
IsShaped (Seq es) = 1 ≤ count es
IsShaped (Call f es) = Unit {0}
IsShaped (PrimUse q es) = count es ≡ arity_of q
IsShaped (Apply f l) = Unit {0}

-- the variables of a `letrec` are not assigned
abbrev pub BindsForGood : (ℕ → Bool) → Form → Type 0
BindsForGood assigned (Letrec xs ls e) = Every (λ x. assigned x ≡ false) xs
BindsForGood assigned _ = Unit {0}

-- the mark of a variable without a value, as an expression
abbrev pub is_mark : Tree → Bool
is_mark (Node p s (Quote Const.Undefined)) = true
is_mark (Node p s _) = false

abbrev pub NoMark : Trees → Type 0
NoMark none = Unit {0}
NoMark (more e es) = (is_mark e ≡ false) × NoMark es

-- among the operands of a `let` the mark stands for variables that are assigned alone
abbrev pub MarksAssigned : (ℕ → Bool) → List ℕ → Trees → Type 0
MarksAssigned assigned xs none = Unit {0}
MarksAssigned assigned [] (more e es) = NoMark (more e es)
MarksAssigned assigned (x ∷ xs) (more e es) = (is_mark e ≡ true → assigned x ≡ true) × MarksAssigned assigned xs es

-- the mark stands nowhere else
abbrev pub MarksAreOperands : (ℕ → Bool) → Form → Type 0
MarksAreOperands assigned (Quote c) = Unit {0}
MarksAreOperands assigned (Local x) = Unit {0}
MarksAreOperands assigned (Global g) = Unit {0}
MarksAreOperands assigned (Lambda l) = Unit {0}
MarksAreOperands assigned (If a b c) = NoMark (more a (more b (more c none)))
MarksAreOperands assigned (SetLocal x e) = is_mark e ≡ false
MarksAreOperands assigned (SetGlobal g e) = is_mark e ≡ false
MarksAreOperands assigned (DefGlobal g e) = is_mark e ≡ false
MarksAreOperands assigned (Let xs es e) = MarksAssigned assigned xs es × (is_mark e ≡ false)
MarksAreOperands assigned (Letrec xs ls e) = is_mark e ≡ false
MarksAreOperands assigned (Seq es) = NoMark es
MarksAreOperands assigned (Call f es) = NoMark (more f es)
MarksAreOperands assigned (PrimUse q es) = NoMark es
MarksAreOperands assigned (Apply f l) = NoMark (more f (more l none))

-- the rules for a node, with its number
pub record NodeKeeps (p : ProgramTree) (site : ℕ) (f : Form) : Type 0 where
  pub small_site : site < 2 ^ 24
  pub in_range : IsInRange p f
  pub shaped : IsShaped f
  pub letrec_for_good : BindsForGood (is_assigned p) f
  pub marks_are_operands : MarksAreOperands (is_assigned p) f

-- the rules for a lambda expression: those of the nodes of its body, which is not the mark
pub record LambdaKeeps (p : ProgramTree) (l : LambdaTree) : Type 0 where
  pub nodes : Each (NodeKeeps p) l.body
  pub value : is_mark l.body ≡ false

-- the rules of a program. Each variable has one binding, and is named in its scope alone: no form has free
-- variables. Each lambda expression stands at exactly one node. No two nodes that have an order have one
-- number. There are at most 1,000,000 nodes.
pub record KeepsRules (p : ProgramTree) : Type 0 where
  pub bound_once : IsApart (variables p)
  pub small_variables : Every (λ x. x < 2 ^ 24) (variables p)
  pub in_scope : free_all (inner_free p) p.forms ≡ []
  pub lambdas_at_most_once : IsApart (standing p)
  pub lambdas_at_least_once : (l : ℕ) → l < length p.lambdas → is_in (standing p) l ≡ true
  pub inner_greater : InnerAreGreater 0 p.lambdas
  pub sites_apart : IsApart (map (λ (l : Line). l.site) (order_of p))
  pub few_nodes : size_all p.forms + size_of_lambdas p.lambdas ≤ 1000000
  pub statics : StaticsKeep 0 p.statics
  pub forms : EachAll (NodeKeeps p) p.forms
  pub values : NoMark p.forms
  pub lambdas : Every (LambdaKeeps p) p.lambdas
