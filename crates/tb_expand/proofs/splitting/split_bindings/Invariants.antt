use Rattle.std.proofs.Common.{◌≡◌, length, map}
use Rattle.tb_expand.specs.View.{nodes, view, view_bindings, view_variable}
use Rattle.tb_expand.specs.calls.Splitting.{split_from}
use Rattle.tb_expand.proofs.splitting.split_bindings.Given as goal

abbrev pub invariant-loop-variable : goal.invariant-loop-variable
invariant-loop-variable l =
    split_from (map view_variable l.assigned) (view_bindings l.initial.together) (view_bindings l.initial.others) (map view_variable l.initial.left) (nodes (map view l.initial.parts))
    ≡ split_from (map view_variable l.assigned) (view_bindings l.together) (view_bindings l.others) (map view_variable l.left) (nodes (map view l.parts))

abbrev pub decreases-loop-variable : goal.decreases-loop-variable
decreases-loop-variable l = length l.left
