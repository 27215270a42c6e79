use Rattle.std.proofs.Common.{◌≡◌, ◌+◌, ◌-◌, ◌*◌, map, drop, Ok}
use Rattle.tb_core.specs.Limits.{measures_all, measures_of_lambdas, lambdas_measures, judge, IsSmall}
use Rattle.tb_core.specs.View.{view, trees, view_lambda}
use Rattle.tb_core.proofs.limits.+check.Given as goal

abbrev pub decreases-check_expr : goal.decreases-check_expr
decreases-check_expr l = 4 * (1001 - l.depth) + 3

abbrev pub decreases-check_exprs : goal.decreases-check_exprs
decreases-check_exprs l = 4 * (1001 - l.depth) + 4

abbrev pub decreases-check_lambda : goal.decreases-check_lambda
decreases-check_lambda l = 4 * (1001 - l.depth) + 1

abbrev pub decreases-check_lambdas : goal.decreases-check_lambdas
decreases-check_lambdas l = 4 * (1001 - l.depth) + 2

abbrev pub invariant-check_exprs-loop-expr : goal.invariant-check_exprs-loop-expr
invariant-check_exprs-loop-expr l = record {
  value : judge (Ok l.totals) (measures_all (lambdas_measures (map view_lambda l.lambdas) l.first) l.scope l.depth (trees (map view (drop l.expr-index l.exprs)))) ≡ judge (Ok l.initial.totals) (measures_all (lambdas_measures (map view_lambda l.lambdas) l.first) l.scope l.depth (trees (map view l.exprs)));
  small : IsSmall l.totals;
}

abbrev pub invariant-check_lambdas-loop-number : goal.invariant-check_lambdas-loop-number
invariant-check_lambdas-loop-number l = record {
  value : judge (Ok l.totals) (measures_of_lambdas (lambdas_measures (map view_lambda l.lambdas) l.first) l.scope l.depth (drop l.number-index l.numbers)) ≡ judge (Ok l.initial.totals) (measures_of_lambdas (lambdas_measures (map view_lambda l.lambdas) l.first) l.scope l.depth l.numbers);
  small : IsSmall l.totals;
}
