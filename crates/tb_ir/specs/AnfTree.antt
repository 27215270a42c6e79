-- A-normal form as plain data.
use Rattle.std.specs.Prelude.{ℕ, Bool, List, Option}
use Rattle.tb_prim.specs.declared.place.Place.{Place}
use Rattle.tb_prim.specs.declared.constant.Const.{Const}
use Rattle.tb_prim.specs.declared.constant.Static.{Static}
use Rattle.tb_prim.specs.declared.constant.GlobalName.{GlobalName}
use Rattle.tb_prim.specs.declared.primitive.Primitive.{Primitive}
use Rattle.tb_core.specs.OperandOrder.{Line}

-- what is there without an operation: a constant, or the value of a variable
pub data Operand : Type 0 where
  Quote : Const → Operand
  Var : ℕ → Operand

mutual
  -- a body: a variable is bound to what an operation gives, procedures are made together and name one another,
  -- or the last operation gives the value
  pub data Block : Type 0 where
    Bind : ℕ → Op → Block → Block
    CloseAll : List ℕ → List ℕ → Block → Block
    Tail : Op → Block

  pub data Op : Type 0 where
    Atom : Operand → Op
    Global : ℕ → Place → Op
    SetGlobal : ℕ → Operand → Place → Op
    DefGlobal : ℕ → Operand → Op
    PrimUse : Primitive → List Operand → Place → Op
    NewCell : Operand → Op
    CellGet : Operand → Place → Op
    CellSet : Operand → Operand → Op
    Close : ℕ → Op
    Call : Operand → List Operand → Place → Op
    Direct : ℕ → List Operand → Op
    Apply : Operand → Operand → Place → Op
    Branch : Operand → Block → Block → Op

-- a body with its parameters, whether the last of them is a rest parameter, and the variables that it captures;
-- it has a lambda expression, which may be lifted, or is a top-level form
pub record ProcTree : Type 0 where
  pub lambda : Option ℕ
  pub lifted : Bool
  pub place : Place
  pub params : List ℕ
  pub rest : Bool
  pub captured : List ℕ
  pub body : Block

pub record AnfTree : Type 0 where
  pub globals : List GlobalName
  pub statics : List Static
  pub order : List Line
  pub procs : List ProcTree
