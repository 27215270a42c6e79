-- What is known of the variables that closures capture, and of those that are added to lambda expressions.
use Rattle.std.specs.Prelude.{ℕ, List, [], ◌++◌, Option, Some, None, slice_get}
use Rattle.tb_core.specs.FirstUses.{first_of}
use Rattle.tb_core.specs.FreeVariables.{without}
use Rattle.tb_core.specs.declared.lift_set.LiftLine.{LiftLine}
use Rattle.tb_ir.specs.FreeVariables.{free, parameters}
use Rattle.tb_ir.specs.Tree.{LambdaTree}
use Rattle.tb_anf.specs.declared.captures.Captures.{Captures}

-- the row of a number, or none of it where it is not there
abbrev pub or_none : Option (List ℕ) → List ℕ
or_none None = []
or_none (Some xs) = xs

abbrev pub row_at : List (List ℕ) → ℕ → List ℕ
row_at rows l = or_none (slice_get rows l)

abbrev pub known : Captures → ℕ → List ℕ
known c l = row_at c.rows.now l

-- the variables that are added by the line at an index
abbrev pub added_by : Option LiftLine → List ℕ
added_by None = []
added_by (Some l) = l.added

abbrev pub added_in : List LiftLine → Option ℕ → List ℕ
added_in set None = []
added_in set (Some i) = added_by (slice_get set i)

-- what the closures of a lambda expression capture, where this is what those of others do
abbrev pub captured_in : (ℕ → List ℕ) → LambdaTree → List ℕ → List ℕ
captured_in inner m added = first_of [] (without (parameters m ++ added) (free inner m.body))
