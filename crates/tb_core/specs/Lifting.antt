-- The lambda expressions that are lifted, as the definitions have them.
use Rattle.std.specs.Prelude.{ℕ, List}
use Rattle.tb_core.specs.declared.lift_set.LiftLine.{LiftLine}

-- a lambda expression that is lifted, and the variables that are added to its parameters
pub record Lifted : Type 0 where
  pub lambda : ℕ
  pub added : List ℕ

abbrev pub view_lifted : LiftLine → Lifted
view_lifted l = record { lambda = l.lambda; added = l.added }
