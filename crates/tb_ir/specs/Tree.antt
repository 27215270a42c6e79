-- The core language with cells and with lambda expressions that are lifted, as plain data, which the definitions
-- go over by cases.
use Rattle.std.specs.Prelude.{ℕ, zero, suc, ◌+◌, List, Option, Some, None}
use Rattle.tb_prim.specs.declared.place.Place.{Place}
use Rattle.tb_prim.specs.declared.constant.Const.{Const}
use Rattle.tb_prim.specs.declared.constant.Static.{Static}
use Rattle.tb_prim.specs.declared.constant.GlobalName.{GlobalName}
use Rattle.tb_prim.specs.declared.primitive.Primitive.{Primitive}
use Rattle.tb_core.specs.Lifting.{Lifted}

mutual
  -- an expression: its place, its number, and what it is
  pub data Tree : Type 0 where
    Node : Place → ℕ → Form → Tree

  -- the forms, with variables, globals and lambdas by their numbers; a `Direct` enters a lambda expression that
  -- is lifted, with its own operands and then the variables that are added to it
  pub data Form : Type 0 where
    Quote : Const → Form
    Local : ℕ → Form
    Global : ℕ → Form
    Lambda : ℕ → Form
    If : Tree → Tree → Tree → Form
    NewCell : Tree → Form
    CellGet : Tree → Form
    CellSet : Tree → Tree → Form
    SetGlobal : ℕ → Tree → Form
    DefGlobal : ℕ → Tree → Form
    Let : List ℕ → Trees → Tree → Form
    Letrec : List ℕ → List ℕ → Tree → Form
    Seq : Trees → Form
    Call : Tree → Trees → Form
    Direct : ℕ → Trees → Form
    PrimUse : Primitive → Trees → Form
    Apply : Tree → Tree → Form

  -- a list of expressions
  pub data Trees : Type 0 where
    none : Trees
    more : Tree → Trees → Trees

-- a lambda expression: its parameters, with the rest parameter apart, and its body
pub record LambdaTree : Type 0 where
  pub place : Place
  pub formals : List ℕ
  pub rest : Option ℕ
  pub body : Tree

-- a program: the names of its globals, its constants, its lambda expressions, its top-level forms, and the
-- lambda expressions that are lifted, which are none before that pass
pub record ProgramTree : Type 0 where
  pub globals : List GlobalName
  pub statics : List Static
  pub lambdas : List LambdaTree
  pub forms : Trees
  pub set : List Lifted

-- how many expressions a list has
abbrev pub count : Trees → ℕ
count none = 0
count (more e es) = 1 + count es

-- the expression at an index
abbrev pub tree_at : Trees → ℕ → Option Tree
tree_at none n = None
tree_at (more e es) zero = Some e
tree_at (more e es) (suc n) = tree_at es n

-- the operands of a node, the operator of a call and the cell of an assignment first
abbrev pub operands : Form → Trees
operands (Quote c) = none
operands (Local x) = none
operands (Global g) = none
operands (Lambda l) = none
operands (If a b c) = none
operands (NewCell e) = more e none
operands (CellGet e) = more e none
operands (CellSet c e) = more c (more e none)
operands (SetGlobal g e) = none
operands (DefGlobal g e) = none
operands (Let xs es e) = es
operands (Letrec xs ls e) = none
operands (Seq es) = none
operands (Call f es) = more f es
operands (Direct l es) = es
operands (PrimUse p es) = es
operands (Apply f l) = more f (more l none)
