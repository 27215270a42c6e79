-- The lambda expressions that might be lifted: those that are known at each of their calls.
use Rattle.std.specs.Prelude.{ℕ, suc, ◌<◌, Bool, true, false, cond, not, ◌==◌, ◌||◌, ◌&&◌, List, [], ◌∷◌, length, Option, Some, None, slice_get}
use Rattle.tb_semantics.specs.Graph.{IsIn}
use Rattle.tb_core.specs.Tree.{LambdaTree, ProgramTree}
use Rattle.tb_core.specs.FirstUses.{free_in_order}
use Rattle.tb_liftable.specs.declared.mentions.Mention.{Mention}
use Rattle.tb_liftable.specs.Mentions.{mentions_of}

-- lambda expressions by their numbers, which are below the count: the variable that a `let` or `letrec` binds
-- to each, how many parameters it has, and its free variables
pub record Procedures : Type 0 where
  pub count : ℕ
  pub name : ℕ → Option ℕ
  pub formals : ℕ → ℕ
  pub free : ℕ → List ℕ

-- only lambda expressions below the count have free variables
pub record Within (g : Procedures) : Type 0 where
  pub below : (l x : ℕ) → IsIn x (g.free l) → l < g.count

-- the first of two that is there
abbrev pub or_else : Option ℕ → Option ℕ → Option ℕ
or_else None o = o
or_else (Some x) o = Some x

abbrev pub name_by : Mention → ℕ → Option ℕ
name_by (Mention.Binds x k) l = cond (k == l) (Some x) None
name_by (Mention.Calls x n) l = None
name_by (Mention.Uses x) l = None

-- the variable that is bound to a lambda expression
abbrev pub name_in : List Mention → ℕ → Option ℕ
name_in [] l = None
name_in (m ∷ ms) l = or_else (name_in ms l) (name_by m l)

-- whether a mention of the variable may be one of a procedure with so many parameters: it is called with as
-- many operands, and not used or assigned otherwise
abbrev pub fits_mention : ℕ → ℕ → Mention → Bool
fits_mention x n (Mention.Binds y l) = true
fits_mention x n (Mention.Calls y k) = not (y == x) || (k == n)
fits_mention x n (Mention.Uses y) = not (y == x)

abbrev pub only_called : List Mention → ℕ → ℕ → Bool
only_called [] x n = true
only_called (m ∷ ms) x n = fits_mention x n m && only_called ms x n

abbrev pub is_known_by : List Mention → LambdaTree → Option ℕ → Option ℕ → Bool
is_known_by ms m (Some r) o = false
is_known_by ms m None None = false
is_known_by ms m None (Some x) = only_called ms x (length m.formals)

-- whether a lambda expression without a rest parameter has a name that is only called, with its number of operands
abbrev pub is_known : List Mention → LambdaTree → ℕ → Bool
is_known ms m l = is_known_by ms m m.rest (name_in ms l)

-- those that are, in the order of their numbers, the first of the list being number `first`
abbrev pub known_from : List Mention → List LambdaTree → ℕ → List ℕ
known_from ms [] first = []
known_from ms (m ∷ rest) first = cond (is_known ms m first) (first ∷ known_from ms rest (suc first)) (known_from ms rest (suc first))

abbrev pub candidates : ProgramTree → List ℕ
candidates p = known_from (mentions_of p) p.lambdas 0

abbrev pub formals_of : Option LambdaTree → ℕ
formals_of None = 0
formals_of (Some m) = length m.formals

-- the lambda expressions of a program
abbrev pub procedures : ProgramTree → Procedures
procedures p = record {
  count = length p.lambdas;
  name = name_in (mentions_of p);
  formals = λ l. formals_of (slice_get p.lambdas l);
  free = free_in_order p;
}
