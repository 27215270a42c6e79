-- What the mentions of a variable are, as the code notes them.
use Rattle.std.specs.Prelude.{ℕ, Bool, true, false, ◌==◌, length, Option, Some, None}
use Rattle.tb_core.specs.Tree.{LambdaTree}
use Rattle.tb_liftable.specs.declared.procedures.Use.{Use}

-- whether they are all calls with so many operands
abbrev pub fits_use : ℕ → Option Use → Bool
fits_use n None = true
fits_use n (Some (Use.Called k)) = k == n
fits_use n (Some Use.Other) = false

abbrev pub is_known_in : (ℕ → Option Use) → LambdaTree → Option ℕ → Option ℕ → Bool
is_known_in uses m (Some r) o = false
is_known_in uses m None None = false
is_known_in uses m None (Some x) = fits_use (length m.formals) (uses x)

abbrev pub is_known_with : (ℕ → Option ℕ) → (ℕ → Option Use) → LambdaTree → ℕ → Bool
is_known_with names uses m l = is_known_in uses m m.rest (names l)
