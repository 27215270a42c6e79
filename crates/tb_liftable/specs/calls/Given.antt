-- The lambda expressions of a program, as the code carries them along.
use Rattle.std.specs.Prelude.{ℕ, List, [], length, map, Option, Some, None, nat_eq, slice_get}
use Rattle.indexmap.specs.IndexMap.{get}
use Rattle.tb_core.specs.View.{view_lambda}
use Rattle.tb_liftable.specs.declared.procedures.Source.{Source}
use Rattle.tb_liftable.specs.Procedures.{Procedures, formals_of}

-- the row of a number, or none of it where it is not there
abbrev pub or_none : Option (List ℕ) → List ℕ
or_none None = []
or_none (Some xs) = xs

abbrev pub row_at : List (List ℕ) → ℕ → List ℕ
row_at rows l = or_none (slice_get rows l)

unfoldable pub given : Source → Procedures
given s = record {
  count = length s.lambdas.now;
  name = get nat_eq s.names.now;
  formals = λ l. formals_of (slice_get (map view_lambda s.lambdas.now) l);
  free = row_at s.rows.now;
}
