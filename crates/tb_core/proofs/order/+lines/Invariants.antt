use Rattle.std.proofs.Common.{◌≡◌, ◌+◌, ◌*◌, ◌++◌, map, drop}
use Rattle.tb_core.specs.OperandOrder.{lines_all, lines_of_lambdas}
use Rattle.tb_core.specs.Order.{view_line}
use Rattle.tb_core.specs.calls.Walks.{marks, lines_inside}
use Rattle.tb_core.specs.View.{view, trees}
use Rattle.tb_core.proofs.order.+lines.Given as goal

abbrev pub decreases-put_lines : goal.decreases-put_lines
decreases-put_lines l = 3 * l.levels

abbrev pub decreases-put_lines_of_all : goal.decreases-put_lines_of_all
decreases-put_lines_of_all l = 3 * l.levels + 2

abbrev pub decreases-put_lines_of_lambdas : goal.decreases-put_lines_of_lambdas
decreases-put_lines_of_lambdas l = 3 * l.levels + 2

abbrev pub decreases-put_lines_of_lambda : goal.decreases-put_lines_of_lambda
decreases-put_lines_of_lambda l = 3 * l.levels + 1

abbrev pub invariant-put_lines_of_all-loop-expr : goal.invariant-put_lines_of_all-loop-expr
invariant-put_lines_of_all-loop-expr l =
    map view_line l.out.items ++ lines_all (marks l.walk) (lines_inside l.walk) (trees (map view (drop l.expr-index l.exprs))) ≡ map view_line l.initial.out.items ++ lines_all (marks l.walk) (lines_inside l.walk) (trees (map view l.exprs))

abbrev pub invariant-put_lines_of_lambdas-loop-number : goal.invariant-put_lines_of_lambdas-loop-number
invariant-put_lines_of_lambdas-loop-number l =
    map view_line l.out.items ++ lines_of_lambdas (lines_inside l.walk) (drop l.number-index l.numbers) ≡ map view_line l.initial.out.items ++ lines_of_lambdas (lines_inside l.walk) l.numbers
