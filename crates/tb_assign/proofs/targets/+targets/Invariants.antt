use Rattle.std.proofs.Common.{◌≡◌, ◌+◌, ◌*◌, ◌++◌, map, drop}
use Rattle.tb_core.specs.FreeVariables.{targets_all}
use Rattle.tb_core.specs.View.{view, trees}
use Rattle.tb_assign.proofs.targets.+targets.Given as goal

abbrev pub decreases-put_targets : goal.decreases-put_targets
decreases-put_targets l = 2 * l.levels

abbrev pub decreases-put_targets_of_all : goal.decreases-put_targets_of_all
decreases-put_targets_of_all l = 2 * l.levels + 1

abbrev pub invariant-put_targets_of_all-loop-expr : goal.invariant-put_targets_of_all-loop-expr
invariant-put_targets_of_all-loop-expr l =
    l.out.items ++ targets_all (trees (map view (drop l.expr-index l.exprs))) ≡ l.initial.out.items ++ targets_all (trees (map view l.exprs))
