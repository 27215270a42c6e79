-- The variables that expressions and programs bind.
use Rattle.std.specs.Prelude.{ℕ, List, [], ◌∷◌, ◌++◌}
use Rattle.tb_core.specs.Tree.{Tree, Node, Form, Quote, Local, Global, Lambda, If, SetLocal, SetGlobal, DefGlobal, Let, Letrec, Seq, Call, PrimUse, Apply, Trees, none, more, LambdaTree, ProgramTree, parameters}

-- the variables that are bound in an expression, inner lambdas apart
abbrev mutual
  pub bound : Tree → List ℕ
  bound (Node p s f) = bound_form f

  pub bound_form : Form → List ℕ
  bound_form (Quote c) = []
  bound_form (Local x) = []
  bound_form (Global g) = []
  bound_form (Lambda l) = []
  bound_form (If a b c) = bound a ++ (bound b ++ bound c)
  bound_form (SetLocal x e) = bound e
  bound_form (SetGlobal g e) = bound e
  bound_form (DefGlobal g e) = bound e
  bound_form (Let xs es e) = xs ++ (bound_all es ++ bound e)
  bound_form (Letrec xs ls e) = xs ++ bound e
  bound_form (Seq es) = bound_all es
  bound_form (Call f es) = bound f ++ bound_all es
  bound_form (PrimUse p es) = bound_all es
  bound_form (Apply f l) = bound f ++ bound l

  pub bound_all : Trees → List ℕ
  bound_all none = []
  bound_all (more e es) = bound e ++ bound_all es

abbrev pub bound_in_lambdas : List LambdaTree → List ℕ
bound_in_lambdas [] = []
bound_in_lambdas (l ∷ ls) = parameters l ++ (bound l.body ++ bound_in_lambdas ls)

-- all variables that a program binds
abbrev pub variables : ProgramTree → List ℕ
variables p = bound_all p.forms ++ bound_in_lambdas p.lambdas
