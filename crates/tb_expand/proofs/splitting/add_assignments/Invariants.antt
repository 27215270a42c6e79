use Rattle.std.proofs.Common.{◌≡◌, length, map}
use Rattle.tb_expand.specs.Trees.{joined}
use Rattle.tb_expand.specs.View.{nodes, view, view_variable}
use Rattle.tb_expand.specs.calls.Splitting.{assignments}
use Rattle.tb_expand.proofs.splitting.add_assignments.Given as goal

abbrev pub invariant-loop-variable : goal.invariant-loop-variable
invariant-loop-variable l =
    joined (nodes (map view l.out.items)) (assignments l.place (map view_variable l.left) (nodes (map view l.parts)))
    ≡ joined (nodes (map view l.initial.out.items)) (assignments l.place (map view_variable l.initial.left) (nodes (map view l.initial.parts)))

abbrev pub decreases-loop-variable : goal.decreases-loop-variable
decreases-loop-variable l = length l.left
