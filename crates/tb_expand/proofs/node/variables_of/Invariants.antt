use Rattle.std.proofs.Common.{◌≡◌, map, take}
use Rattle.tb_expand.specs.View.{view_variable, binder_variable}
use Rattle.tb_expand.proofs.node.variables_of.Given as goal

abbrev pub invariant-loop-binder : goal.invariant-loop-binder
invariant-loop-binder l = map view_variable l.variables.items ≡ map (binder_variable l.scope) (take l.binder-index l.binders)
