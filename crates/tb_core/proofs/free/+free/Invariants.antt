use Rattle.std.proofs.Common.{◌≡◌, ◌+◌, ◌*◌, ◌++◌, map, drop}
use Rattle.tb_core.specs.FreeVariables.{free_all, of_lambdas, lambdas_free}
use Rattle.tb_core.specs.View.{view, trees, view_lambda}
use Rattle.tb_core.proofs.free.+free.Given as goal

abbrev pub decreases-put_free : goal.decreases-put_free
decreases-put_free l = 3 * l.levels

abbrev pub decreases-put_free_of_all : goal.decreases-put_free_of_all
decreases-put_free_of_all l = 3 * l.levels + 2

abbrev pub decreases-put_outer : goal.decreases-put_outer
decreases-put_outer l = 3 * l.levels + 2

abbrev pub decreases-put_lambda : goal.decreases-put_lambda
decreases-put_lambda l = 3 * l.levels + 1

abbrev pub invariant-put_free_of_all-loop-expr : goal.invariant-put_free_of_all-loop-expr
invariant-put_free_of_all-loop-expr l =
    l.out.items ++ free_all (lambdas_free (map view_lambda l.lambdas) l.first) (trees (map view (drop l.expr-index l.exprs))) ≡ l.initial.out.items ++ free_all (lambdas_free (map view_lambda l.lambdas) l.first) (trees (map view l.exprs))

abbrev pub invariant-put_outer-loop-number : goal.invariant-put_outer-loop-number
invariant-put_outer-loop-number l =
    l.inside.items ++ of_lambdas (lambdas_free (map view_lambda l.lambdas) l.first) (drop l.number-index l.numbers) ≡ of_lambdas (lambdas_free (map view_lambda l.lambdas) l.first) l.numbers
