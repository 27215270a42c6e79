use Rattle.std.proofs.Common.{◌≡◌, ℕ, ◌||◌, drop}
use Rattle.tb_core.specs.FreeVariables.{is_in}
use Rattle.tb_core.specs.calls.Marks.{is_marked}
use Rattle.tb_assign.proofs.targets.assigned_table.Given as goal

abbrev pub invariant-loop-variable : goal.invariant-loop-variable
invariant-loop-variable l = (x : ℕ) → (is_marked l.marked.items x || is_in (drop l.variable-index l.variable-items) x) ≡ is_in l.variable-items x
