use Rattle.std.proofs.Common.{◌∙◌, ap, arith}
use Rattle.tb_live.specs.calls.Captures.{captured_at}
use Rattle.tb_live.specs.calls.Sets.{joined}
use Rattle.tb_live.proofs.Joined.{lambdas-step, lambdas-done}
use Rattle.tb_live.proofs.uses.add_captured.Goals as goal

pub loop-lambda-preserved : goal.loop-lambda-preserved
loop-lambda-preserved c =
    lambdas-step (captured_at c.args.source) c.args.lambdas.now c.loop-lambda.set.keys _ _ c.loop-lambda.lambda-index _ c.loop-lambda-test.true (omega arith)
    (c.in_ok-add.ensures ∙ ap (joined c.loop-lambda.set.keys) c.captured.ensures) c.loop-lambda.invariant

pub returns : goal.returns
returns c = lambdas-done (captured_at c.args.source) c.args.lambdas.now c.loop-lambda.set.keys _ c.loop-lambda.lambda-index c.loop-lambda-test.false c.loop-lambda.invariant
