use Rattle.std.proofs.Common.{◌≡◌, drop, map}
use Rattle.tb_rules.specs.Templates.{stands_under}
use Rattle.tb_rules.specs.View.{view_variable}
use Rattle.tb_rules.proofs.templates.stands_under.Given as goal

abbrev pub invariant-loop-variable : goal.invariant-loop-variable
invariant-loop-variable l =
    stands_under (map view_variable (drop l.variable-index l.variables)) l.depth l.text l.alias ≡ stands_under (map view_variable l.variables) l.depth l.text l.alias
