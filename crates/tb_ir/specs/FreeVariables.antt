-- Free variables of the core language with cells.
use Rattle.std.specs.Prelude.{ℕ, suc, List, [], ◌∷◌, ◌++◌, cond, ◌==◌}
use Rattle.tb_core.specs.FreeVariables.{without, of_lambdas}
use Rattle.tb_core.specs.FirstUses.{first_of}
use Rattle.tb_core.specs.Lifting.{Lifted}
use Rattle.tb_core.specs.Tree.{option_list}
use Rattle.tb_ir.specs.Tree.{Tree, Node, Form, Quote, Local, Global, Lambda, If, NewCell, CellGet, CellSet, SetGlobal, DefGlobal, Let, Letrec, Seq, Call, Direct, PrimUse, Apply, Trees, none, more, LambdaTree, ProgramTree}

-- the variables that occur in an expression and are not bound in it; `inner` gives those of each lambda
-- expression by its number
abbrev mutual
  pub free : (ℕ → List ℕ) → Tree → List ℕ
  free inner (Node p s f) = free_form inner f

  pub free_form : (ℕ → List ℕ) → Form → List ℕ
  free_form inner (Quote c) = []
  free_form inner (Local x) = x ∷ []
  free_form inner (Global g) = []
  free_form inner (Lambda l) = inner l
  free_form inner (If a b c) = free inner a ++ (free inner b ++ free inner c)
  free_form inner (NewCell e) = free inner e
  free_form inner (CellGet e) = free inner e
  free_form inner (CellSet c e) = free inner c ++ free inner e
  free_form inner (SetGlobal g e) = free inner e
  free_form inner (DefGlobal g e) = free inner e
  free_form inner (Let xs es e) = free_all inner es ++ without xs (free inner e)
  free_form inner (Letrec xs ls e) = without xs (of_lambdas inner ls ++ free inner e)
  free_form inner (Seq es) = free_all inner es
  free_form inner (Call f es) = free inner f ++ free_all inner es
  free_form inner (Direct l es) = free_all inner es
  free_form inner (PrimUse p es) = free_all inner es
  free_form inner (Apply f l) = free inner f ++ free inner l

  pub free_all : (ℕ → List ℕ) → Trees → List ℕ
  free_all inner none = []
  free_all inner (more e es) = free inner e ++ free_all inner es

-- the parameters of a lambda expression, the rest parameter last
abbrev pub parameters : LambdaTree → List ℕ
parameters l = l.formals ++ option_list l.rest

-- the variables that are added to a lambda expression where it is lifted
abbrev pub added_to : List Lifted → ℕ → List ℕ
added_to [] l = []
added_to (m ∷ ms) l = cond (m.lambda == l) m.added (added_to ms l)

-- the free variables of a lambda expression: those of its body but its parameters and those added to them
abbrev pub lambda_free : (ℕ → List ℕ) → List ℕ → LambdaTree → List ℕ
lambda_free inner added l = without (parameters l ++ added) (free inner l.body)

-- the free variables of each lambda expression by its number, the first of the list being number `first`;
-- an inner lambda has a greater number than the one around it
abbrev pub lambdas_free : List Lifted → List LambdaTree → ℕ → ℕ → List ℕ
lambdas_free set [] first l = []
lambdas_free set (m ∷ ms) first l =
    cond (first == l) (lambda_free (lambdas_free set ms (suc first)) (added_to set l) m)
    (lambdas_free set ms (suc first) l)

-- the free variables of the lambda expressions of a program
abbrev pub inner_free : ProgramTree → ℕ → List ℕ
inner_free p = lambdas_free p.set p.lambdas 0

-- what the closures of a lambda expression capture: its free variables, each once, in the order of first use
abbrev pub captured : ProgramTree → ℕ → List ℕ
captured p l = first_of [] (inner_free p l)
