use Rattle.std.proofs.Common.{arith}
use Rattle.std.proofs.lemmas.Grind.{common_steps}
use Rattle.tb_expand.proofs.Expanding.{names_mapped}
use Rattle.tb_expand.proofs.node.names_of.Goals as goal

pub returns : goal.returns
returns c = let e = names_mapped c.args.binders.now in grind (arith, common_steps, e)
