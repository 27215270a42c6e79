use Rattle.std.proofs.Common.{◌≡◌, ◌&&◌, ℕ, not, nat_eq, drop}
use Rattle.indexmap.specs.IndexSet.{contains}
use Rattle.tb_core.specs.FreeVariables.{is_in}
use Rattle.tb_generate.proofs.free.remove.Given as goal

abbrev pub invariant-loop-variable : goal.invariant-loop-variable
invariant-loop-variable l =
    (x : ℕ) → (not (is_in (drop l.variable-index l.variables) x) && contains nat_eq l.set x) ≡ (not (is_in l.variables x) && contains nat_eq l.initial.set x)
