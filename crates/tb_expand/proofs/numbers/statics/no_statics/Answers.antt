use Rattle.tb_expand.proofs.Placing.{knows_none}
use Rattle.tb_expand.proofs.numbers.statics.no_statics.Goals as goal

pub invariant_of-result : goal.invariant_of-result
invariant_of-result c = record { known = knows_none c.new.result.items c.new-2.result c.new.ensures.items c.new-2.ensures.empty }
