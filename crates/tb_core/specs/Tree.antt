-- The core language as plain data, which the definitions go over by cases.
use Rattle.std.specs.Prelude.{ℕ, zero, suc, ◌+◌, List, [], ◌∷◌, ◌++◌, Option, Some, None}
use Rattle.tb_prim.specs.declared.place.Place.{Place}
use Rattle.tb_prim.specs.declared.constant.Const.{Const}
use Rattle.tb_prim.specs.declared.constant.Static.{Static}
use Rattle.tb_prim.specs.declared.constant.GlobalName.{GlobalName}
use Rattle.tb_prim.specs.declared.primitive.Primitive.{Primitive}

mutual
  -- an expression: its place, its number in written order, and what it is
  pub data Tree : Type 0 where
    Node : Place → ℕ → Form → Tree

  -- the forms, with variables, globals and lambdas by their numbers
  pub data Form : Type 0 where
    Quote : Const → Form
    Local : ℕ → Form
    Global : ℕ → Form
    Lambda : ℕ → Form
    If : Tree → Tree → Tree → Form
    SetLocal : ℕ → Tree → Form
    SetGlobal : ℕ → Tree → Form
    DefGlobal : ℕ → Tree → Form
    Let : List ℕ → Trees → Tree → Form
    Letrec : List ℕ → List ℕ → Tree → Form
    Seq : Trees → Form
    Call : Tree → Trees → Form
    PrimUse : Primitive → Trees → Form
    Apply : Tree → Tree → Form

  -- a list of expressions
  pub data Trees : Type 0 where
    none : Trees
    more : Tree → Trees → Trees

-- a lambda expression: its parameters, with the rest parameter apart, and its body
pub record LambdaTree : Type 0 where
  pub place : Place
  pub formals : List ℕ
  pub rest : Option ℕ
  pub body : Tree

-- a program: the names of its globals, its constants, its lambda expressions and its top-level forms
pub record ProgramTree : Type 0 where
  pub globals : List GlobalName
  pub statics : List Static
  pub lambdas : List LambdaTree
  pub forms : Trees

-- how many expressions a list has
abbrev pub count : Trees → ℕ
count none = 0
count (more e es) = 1 + count es

-- the expression at an index
abbrev pub tree_at : Trees → ℕ → Option Tree
tree_at none n = None
tree_at (more e es) zero = Some e
tree_at (more e es) (suc n) = tree_at es n

-- the parameters of a lambda expression, the rest parameter last
abbrev pub option_list : Option ℕ → List ℕ
option_list None = []
option_list (Some x) = x ∷ []

abbrev pub parameters : LambdaTree → List ℕ
parameters l = l.formals ++ option_list l.rest
