-- Which lambda expressions the nodes of a program make procedures of and enter, and that their bodies may run.
use Rattle.std.proofs.Common.{◌≡◌, ℕ, ◌⊎◌, false, [], None}
use Rattle.tb_semantics.specs.Graph.{IsIn}
use Rattle.tb_core.specs.FreeVariables.{is_in}
use Rattle.tb_core.specs.Rules.{Every}
use Rattle.tb_ir.specs.Tree.{Form, Lambda, Letrec, Direct, LambdaTree, ProgramTree}
use Rattle.tb_ir.specs.FreeVariables.{free, inner_free, parameters, added_to}
use Rattle.tb_ir.specs.Rules.{IsLambda, nodes, nodes_of, of_nodes, binders}

-- the body of a lambda expression names this variable, which is no parameter of its own
pub record IsForeign (p : ProgramTree) (m : LambdaTree) (y : ℕ) : Type 0 where
  pub named : IsIn y (free (inner_free p) m.body)
  pub other : is_in (parameters m) y ≡ false

-- a lambda expression binds the variable, as a parameter or in its body, and has it from nowhere else
pub record Binds (p : ProgramTree) (y : ℕ) : Type 0 where
  pub number : ℕ
  pub lambda : LambdaTree
  pub there : IsLambda p number lambda
  pub here : IsIn y (parameters lambda) ⊎ IsIn y (of_nodes binders (nodes lambda.body))
  pub own : IsForeign p lambda y → ⊥

-- a variable is bound in a top-level form, or in a lambda expression that does not have it from elsewhere
abbrev pub Origin : ProgramTree → ℕ → Type 0
Origin p y = IsIn y (of_nodes binders (nodes_of p.forms)) ⊎ Binds p y

-- a lambda expression whose body names variables of some origin alone
abbrev pub Grounded : ProgramTree → ℕ → Type 0
Grounded p l = (m : LambdaTree) → IsLambda p l m → (y : ℕ) → IsForeign p m y → Origin p y

-- a procedure is made of it: it is not lifted
pub record MayClose (p : ProgramTree) (l : ℕ) : Type 0 where
  pub grounded : Grounded p l
  pub not_lifted : added_to p.set l ≡ []

-- it is entered without a procedure: it has no rest parameter, and names none but its parameters and those added
pub record MayEnter (p : ProgramTree) (l : ℕ) : Type 0 where
  pub grounded : Grounded p l
  pub no_rest : (m : LambdaTree) → IsLambda p l m → m.rest ≡ None
  pub closed : inner_free p l ≡ []

-- the same of the lambda expressions of a node
abbrev pub Calls : ProgramTree → Form → Type 0
Calls p (Lambda l) = MayClose p l
Calls p (Letrec xs ls e) = Every (MayClose p) ls
Calls p (Direct l es) = MayEnter p l
Calls p f = Unit {0}
