use Rattle.std.proofs.Common.{◌≡◌, drop, map}
use Rattle.tb_rules.specs.Names.{are_apart}
use Rattle.tb_rules.specs.View.{view_variable}
use Rattle.tb_rules.proofs.names.are_apart.Given as goal

abbrev pub invariant-loop-i : goal.invariant-loop-i
invariant-loop-i l = are_apart (map view_variable (drop l.i l.variables)) ≡ are_apart (map view_variable l.variables)
