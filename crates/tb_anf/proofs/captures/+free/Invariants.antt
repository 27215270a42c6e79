use Rattle.std.proofs.Common.{◌≡◌, ◌+◌, ◌*◌, ◌++◌, map, drop}
use Rattle.tb_core.specs.FreeVariables.{of_lambdas}
use Rattle.tb_ir.specs.FreeVariables.{free_all}
use Rattle.tb_ir.specs.Plain.{view, trees}
use Rattle.tb_anf.specs.calls.Captures.{known}
use Rattle.tb_anf.proofs.captures.+free.Given as goal

abbrev pub decreases-put_free : goal.decreases-put_free
decreases-put_free l = 2 * l.levels

abbrev pub decreases-put_free_of_all : goal.decreases-put_free_of_all
decreases-put_free_of_all l = 2 * l.levels + 1

abbrev pub decreases-put_outer : goal.decreases-put_outer
decreases-put_outer l = 2 * l.levels + 1

abbrev pub invariant-put_free_of_all-loop-expr : goal.invariant-put_free_of_all-loop-expr
invariant-put_free_of_all-loop-expr l =
    l.out.items ++ free_all (known l.captures) (trees (map view (drop l.expr-index l.exprs))) ≡ l.initial.out.items ++ free_all (known l.captures) (trees (map view l.exprs))

abbrev pub invariant-put_outer-loop-lambda : goal.invariant-put_outer-loop-lambda
invariant-put_outer-loop-lambda l =
    l.inside.items ++ of_lambdas (known l.captures) (drop l.lambda-index l.lambdas) ≡ of_lambdas (known l.captures) l.lambdas
