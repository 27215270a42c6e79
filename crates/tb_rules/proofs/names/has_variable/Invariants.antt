use Rattle.std.proofs.Common.{◌≡◌, drop, map}
use Rattle.tb_rules.specs.Names.{has_variable}
use Rattle.tb_rules.specs.View.{view_variable}
use Rattle.tb_rules.proofs.names.has_variable.Given as goal

abbrev pub invariant-loop-variable : goal.invariant-loop-variable
invariant-loop-variable l = has_variable (map view_variable (drop l.variable-index l.variables)) l.text l.alias ≡ has_variable (map view_variable l.variables) l.text l.alias
