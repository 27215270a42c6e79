use Rattle.std.proofs.Common.{arith}
use Rattle.std.proofs.lemmas.Grind.{common_steps}
use Rattle.tb_expand.proofs.Expanding.{values_mapped}
use Rattle.tb_expand.proofs.node.values_of.Goals as goal

pub returns : goal.returns
returns c = let e = values_mapped c.args.pairs.now in grind (arith, common_steps, e)
