use Rattle.std.proofs.Common.{◌≡◌, ◌++◌, map, drop}
use Rattle.tb_expand.specs.Numbers as spec
use Rattle.tb_expand.specs.View.{view_variable}
use Rattle.tb_expand.specs.calls.Numbering.{view_tables}
use Rattle.tb_expand.proofs.numbers.nodes.variable_numbers.Given as goal

abbrev pub invariant-loop-variable : goal.invariant-loop-variable
invariant-loop-variable l =
    l.out.items ++ spec.variable_numbers (view_tables l.tables) (map view_variable (drop l.variable-index l.variables)) ≡ spec.variable_numbers (view_tables l.tables) (map view_variable l.variables)
