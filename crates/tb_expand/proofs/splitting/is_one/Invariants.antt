use Rattle.std.proofs.Common.{◌≡◌, drop, map}
use Rattle.tb_expand.specs.View.{view_variable}
use Rattle.tb_expand.specs.calls.Splitting.{is_one}
use Rattle.tb_expand.proofs.splitting.is_one.Given as goal

abbrev pub invariant-loop-other : goal.invariant-loop-other
invariant-loop-other l = is_one (map view_variable (drop l.other-index l.variables)) (view_variable l.variable) ≡ is_one (map view_variable l.variables) (view_variable l.variable)
