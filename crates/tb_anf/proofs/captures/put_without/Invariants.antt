use Rattle.std.proofs.Common.{◌≡◌, ◌++◌, drop}
use Rattle.tb_core.specs.FreeVariables.{without}
use Rattle.tb_anf.proofs.captures.put_without.Given as goal

abbrev pub invariant-loop-variable : goal.invariant-loop-variable
invariant-loop-variable l =
    l.out.items ++ without l.bound (drop l.variable-index l.variables) ≡ l.initial.out.items ++ without l.bound l.variables
