use Rattle.std.proofs.Common.{◌≡◌, ◌++◌, drop, map}
use Rattle.tb_expand.specs.View.{nodes, view, view_variable}
use Rattle.tb_expand.specs.calls.Splitting.{assigned_all}
use Rattle.tb_expand.proofs.walks.+assigned.Given as goal

abbrev pub invariant-add_all_assigned-loop-part : goal.invariant-add_all_assigned-loop-part
invariant-add_all_assigned-loop-part l =
    map view_variable l.out.items ++ assigned_all (nodes (map view (drop l.part-index l.parts))) ≡ map view_variable l.initial.out.items ++ assigned_all (nodes (map view l.parts))
