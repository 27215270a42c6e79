use Rattle.std.proofs.Common.{arith}
use Rattle.tb_liftable.proofs.Bindings.{let-end}
use Rattle.tb_liftable.proofs.mentions.put_let_bound.Goals as goal

pub returns : goal.returns
returns c = let-end c.args.variables.now c.args.values.now c.loop-at.at c.loop-at.out.items _ (omega arith) c.loop-at.invariant
