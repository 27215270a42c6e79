-- Nodes of the right shapes: a `let` and a `letrec` have as many variables as values, those of a `letrec` are lambda
-- expressions, a sequence is not empty, and a primitive has its own number of operands.
use Rattle.std.specs.Prelude.{◌≡◌, ◌≤◌, true, length}
use Rattle.tb_prim.specs.Primitives.{arity_of}
use Rattle.tb_expand.specs.Trees.{Node, At, Core, Constant, Unspecified, Undefined, Local, Global, Lambda, If, SetLocal, SetGlobal, DefGlobal, Let, Letrec, Seq, Call, PrimUse, Apply, Nodes, nil, cons, how_many, is_lambda}

abbrev pub AreLambdas : Nodes → Type 0
AreLambdas nil = Unit {0}
AreLambdas (cons e es) = (is_lambda e ≡ true) × AreLambdas es

abbrev mutual
  pub HasShape : Node → Type 0
  HasShape (At p c) = HasShapeIn c

  pub HasShapeIn : Core → Type 0
  HasShapeIn (Constant s) = Unit {0}
  HasShapeIn Unspecified = Unit {0}
  HasShapeIn Undefined = Unit {0}
  HasShapeIn (Local x) = Unit {0}
  HasShapeIn (Global g) = Unit {0}
  HasShapeIn (Lambda xs r b) = HasShape b
  HasShapeIn (If a b c) = HasShape a × HasShape b × HasShape c
  HasShapeIn (SetLocal x e) = HasShape e
  HasShapeIn (SetGlobal q g e) = HasShape e
  HasShapeIn (DefGlobal g e) = HasShape e
  HasShapeIn (Let xs es e) = (length xs ≡ how_many es) × HaveShape es × HasShape e
  HasShapeIn (Letrec xs es e) = (length xs ≡ how_many es) × AreLambdas es × HaveShape es × HasShape e
  HasShapeIn (Seq es) = (1 ≤ how_many es) × HaveShape es
  HasShapeIn (Call f es) = HasShape f × HaveShape es
  HasShapeIn (PrimUse q es) = (how_many es ≡ arity_of q) × HaveShape es
  HasShapeIn (Apply f l) = HasShape f × HasShape l

  pub HaveShape : Nodes → Type 0
  HaveShape nil = Unit {0}
  HaveShape (cons e es) = HasShape e × HaveShape es
