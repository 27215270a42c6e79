use Rattle.std.proofs.Common.{◌≡◌, ◌+◌, drop, map}
use Rattle.tb_core.specs.Width.{nodes_all}
use Rattle.tb_core.specs.View.{view, trees}
use Rattle.tb_core.proofs.limits.+nodes.Given as goal

abbrev pub invariant-nodes_left_of_all-loop-expr : goal.invariant-nodes_left_of_all-loop-expr
invariant-nodes_left_of_all-loop-expr l =
    l.initial.left + nodes_all (trees (map view (drop l.expr-index l.exprs))) ≡ l.left + nodes_all (trees (map view l.exprs))
