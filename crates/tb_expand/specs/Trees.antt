-- What data mean, before anything is numbered: a variable is the scope and the name that bind it, a global is its
-- text, a constant is the quoted datum, and a lambda expression stands where it is written.
use Rattle.std.specs.Prelude.{ℕ, ◌+◌, ◌==◌, ◌&&◌, ◌||◌, Bool, true, false, List, [], ◌∷◌, Option}
use Rattle.tb_prim.specs.declared.place.Place.{Place}
use Rattle.tb_prim.specs.declared.primitive.Primitive.{Primitive}
use Rattle.tb_sexp.specs.Tree as datum
use Rattle.tb_expand.specs.Names.{Name, same_name}

-- a variable: the number of the scope that binds it, and its name
pub record Var : Type 0 where
  pub scope : ℕ
  pub name : Name

abbrev pub same_var : Var → Var → Bool
same_var x y = (x.scope == y.scope) && same_name x.name y.name

-- the variables that a scope binds
abbrev pub variables : ℕ → List Name → List Var
variables s [] = []
variables s (x ∷ xs) = record { scope = s; name = x } ∷ variables s xs

mutual
  -- a node: the place of the form that it comes from, and what it is
  pub data Node : Type 0 where
    At : Place → Core → Node

  -- the forms of the core language. An assignment of a global has the place of its name. Undefined is the mark of a
  -- variable that has no value yet
  pub data Core : Type 0 where
    Constant : datum.Shape → Core
    Unspecified : Core
    Undefined : Core
    Local : Var → Core
    Global : List ℕ → Core
    Lambda : List Var → Option Var → Node → Core
    If : Node → Node → Node → Core
    SetLocal : Var → Node → Core
    SetGlobal : Place → List ℕ → Node → Core
    DefGlobal : List ℕ → Node → Core
    Let : List Var → Nodes → Node → Core
    Letrec : List Var → Nodes → Node → Core
    Seq : Nodes → Core
    Call : Node → Nodes → Core
    PrimUse : Primitive → Nodes → Core
    Apply : Node → Node → Core

  -- a list of nodes
  pub data Nodes : Type 0 where
    nil : Nodes
    cons : Node → Nodes → Nodes

-- how many nodes a list has
abbrev pub how_many : Nodes → ℕ
how_many nil = 0
how_many (cons e es) = how_many es + 1

-- two lists, one after the other
abbrev pub joined : Nodes → Nodes → Nodes
joined nil fs = fs
joined (cons e es) fs = cons e (joined es fs)

-- whether a node is a lambda expression
abbrev pub is_lambda : Node → Bool
is_lambda (At p (Lambda xs r b)) = true
is_lambda (At p c) = false

abbrev mutual
  -- whether a `set!` in a node names the variable
  pub assigns : Var → Node → Bool
  assigns x (At p c) = assigns_in x c

  pub assigns_in : Var → Core → Bool
  assigns_in x (Constant s) = false
  assigns_in x Unspecified = false
  assigns_in x Undefined = false
  assigns_in x (Local y) = false
  assigns_in x (Global g) = false
  assigns_in x (Lambda ys r b) = assigns x b
  assigns_in x (If a b c) = assigns x a || (assigns x b || assigns x c)
  assigns_in x (SetLocal y e) = same_var y x || assigns x e
  assigns_in x (SetGlobal q g e) = assigns x e
  assigns_in x (DefGlobal g e) = assigns x e
  assigns_in x (Let ys es e) = assigns_any x es || assigns x e
  assigns_in x (Letrec ys es e) = assigns_any x es || assigns x e
  assigns_in x (Seq es) = assigns_any x es
  assigns_in x (Call f es) = assigns x f || assigns_any x es
  assigns_in x (PrimUse p es) = assigns_any x es
  assigns_in x (Apply f l) = assigns x f || assigns x l

  pub assigns_any : Var → Nodes → Bool
  assigns_any x nil = false
  assigns_any x (cons e es) = assigns x e || assigns_any x es
