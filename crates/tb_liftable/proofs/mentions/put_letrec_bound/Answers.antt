use Rattle.std.proofs.Common.{arith}
use Rattle.tb_liftable.proofs.Bindings.{letrec-end}
use Rattle.tb_liftable.proofs.mentions.put_letrec_bound.Goals as goal

pub returns : goal.returns
returns c = letrec-end c.args.variables.now c.args.lambdas.now c.loop-at.at c.loop-at.out.items _ (omega arith) c.loop-at.invariant
