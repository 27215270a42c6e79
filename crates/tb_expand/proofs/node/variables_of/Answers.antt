use Rattle.std.proofs.Common.{arith}
use Rattle.std.proofs.lemmas.Grind.{common_steps}
use Rattle.tb_expand.proofs.Expanding.{variables_mapped}
use Rattle.tb_expand.proofs.node.variables_of.Goals as goal

pub returns : goal.returns
returns c = let e = variables_mapped c.args.scope c.args.binders.now in grind (arith, common_steps, e)
