use Rattle.std.proofs.Common.{◌∙◌, refl, arith}
use Rattle.tb_expand.specs.calls.Numbering.{so_far}
use Rattle.tb_core.proofs.Views.{viewed}
use Rattle.tb_expand.proofs.Numbering.{so_far-opened, opened}
use Rattle.tb_expand.proofs.numbers.numbering.open_lambda.Goals as goal

pub returns-clause-state : goal.returns-clause-state
unfolding so_far
returns-clause-state c =
    so_far-opened c.args.state.now.nodes c.args.state.now.statics c.args.state.now.lambdas.items c.push.new.self.items _ c.args.place c.in_ok-push.ensures.items (opened _ c.args.place refl (c.from_vec.ensures ∙ c.new.ensures.items) refl (grind (arith, viewed)))
