use Rattle.std.proofs.Common.{◌≡◌, drop, map, false}
use Rattle.tb_rules.specs.Templates.{are_templates}
use Rattle.tb_rules.specs.View.{data_of, view_variable}
use Rattle.tb_rules.proofs.templates.+templates.Given as goal

abbrev pub invariant-are_templates-loop-i : goal.invariant-are_templates-loop-i
invariant-are_templates-loop-i l =
    are_templates (map view_variable l.variables) l.depth l.behind (data_of (drop l.i l.elements)) ≡ are_templates (map view_variable l.variables) l.depth false (data_of l.elements)
