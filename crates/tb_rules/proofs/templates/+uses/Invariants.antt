use Rattle.std.proofs.Common.{◌≡◌, drop, map}
use Rattle.tb_rules.specs.Templates.{some_use}
use Rattle.tb_rules.specs.View.{data_of, view_variable}
use Rattle.tb_rules.proofs.templates.+uses.Given as goal

abbrev pub invariant-some_use-loop-datum : goal.invariant-some_use-loop-datum
invariant-some_use-loop-datum l =
    some_use (map view_variable l.variables) (data_of (drop l.datum-index l.datums)) ≡ some_use (map view_variable l.variables) (data_of l.datums)
