use Rattle.std.proofs.Common.{◌≡◌, ◌++◌, drop, map}
use Rattle.tb_rules.specs.Patterns.{list_variables}
use Rattle.tb_rules.specs.View.{data_of, view_variable}
use Rattle.tb_rules.proofs.variables.+variables.Given as goal

abbrev pub invariant-add_all-loop-i : goal.invariant-add_all-loop-i
invariant-add_all-loop-i l =
    map view_variable l.out.items ++ list_variables (data_of l.under.literals.now) l.under.depth (data_of (drop l.i l.elements))
    ≡ map view_variable l.initial.out.items ++ list_variables (data_of l.under.literals.now) l.under.depth (data_of l.elements)
