use Rattle.std.proofs.Common.{◌≡◌, map, take}
use Rattle.tb_expand.specs.Splits.{undefined}
use Rattle.tb_expand.specs.View.{nodes, view, view_variable}
use Rattle.tb_expand.proofs.splitting.undefined_values.Given as goal

abbrev pub invariant-loop-variable : goal.invariant-loop-variable
invariant-loop-variable l = nodes (map view l.marks.items) ≡ undefined l.place (map view_variable (take l._variable-index l.variables))
