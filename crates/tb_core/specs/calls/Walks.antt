-- What the walk over the expressions of a program carries along.
use Rattle.std.specs.Prelude.{ℕ, Bool, List, map}
use Rattle.tb_core.specs.declared.order.Walk.{Walk}
use Rattle.tb_core.specs.OperandOrder.{Line, lambdas_lines}
use Rattle.tb_core.specs.View.{view_lambda}
use Rattle.tb_core.specs.calls.Marks.{is_marked}

-- the variables that are assigned
abbrev pub marks : Walk → ℕ → Bool
marks w = is_marked w.marked.now

-- the lines of a lambda expression by its number
abbrev pub lines_inside : Walk → ℕ → List Line
lines_inside w = lambdas_lines (is_marked w.marked.now) (map view_lambda w.lambdas.now) w.first
