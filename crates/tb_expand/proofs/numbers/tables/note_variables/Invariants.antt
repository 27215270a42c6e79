use Rattle.std.proofs.Common.{◌≡◌, map, drop}
use Rattle.tb_expand.specs.View.{view_variable}
use Rattle.tb_expand.specs.calls.Numbering.{view_tables, seen_variables}
use Rattle.tb_expand.proofs.numbers.tables.note_variables.Given as goal

abbrev pub invariant-loop-variable : goal.invariant-loop-variable
invariant-loop-variable l = seen_variables (view_tables l.tables) (map view_variable (drop l.variable-index l.variables)) ≡ seen_variables (view_tables l.initial.tables) (map view_variable l.variables)
