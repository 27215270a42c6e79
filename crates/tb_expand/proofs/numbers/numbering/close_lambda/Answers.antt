use Rattle.tb_expand.specs.calls.Numbering.{so_far}
use Rattle.tb_expand.proofs.Numbering.{so_far-closed}
use Rattle.tb_expand.proofs.numbers.numbering.close_lambda.Goals as goal

pub returns : goal.returns
unfolding so_far
returns c = so_far-closed c.args.state.now.nodes c.args.number c.args.state.now.statics c.args.state.now.lambdas.items c.args.lambda
