use Rattle.std.proofs.Common.{◌∙◌, ◌||◌, List, ℕ, nat_eq, ap, arith}
use Rattle.indexmap.specs.IndexSet.{contains}
use Rattle.tb_core.specs.FreeVariables.{is_in}
use Rattle.tb_generate.specs.calls.Bodies.{captured_at}
use Rattle.tb_generate.proofs.Members.{lambdas-step, lambdas-done}
use Rattle.tb_generate.proofs.free.add_captured.Goals as goal

pub loop-lambda-preserved : goal.loop-lambda-preserved
loop-lambda-preserved c x =
    lambdas-step (captured_at c.args.body) c.args.lambdas.now _ _ x _ _ _ c.loop-lambda-test.true (omega arith)
    (c.in_ok-add.ensures x ∙ ap (λ (xs : List ℕ). is_in xs x || contains nat_eq c.loop-lambda.set x) c.captured.ensures) (c.loop-lambda.invariant x)

pub returns : goal.returns
returns c x = lambdas-done (captured_at c.args.body) c.args.lambdas.now _ x _ _ c.loop-lambda-test.false (c.loop-lambda.invariant x)
