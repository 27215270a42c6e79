use Rattle.std.proofs.Common.{◌+◌, subst, arith}
use Rattle.tb_core.specs.View.{view}
use Rattle.tb_core_rows.specs.Quiet.{IsQuiet}
use Rattle.tb_core_rows.proofs.trees.nested.Goals as goal

pub loop-preserved : goal.loop-preserved
loop-preserved c = λ within ls ss n q.
    subst (λ k. IsQuiet within ls ss k (view c.in_ok-expr.expr)) (omega arith) (c.in_ok-expr.ensures within ls ss (n + c.loop.counter) (c.loop.invariant within ls ss n q))

pub returns : goal.returns
returns c = λ within ls ss n q.
    subst (λ k. IsQuiet within ls ss k (view c.loop.expr)) (omega arith) (c.loop.invariant within ls ss n q)
