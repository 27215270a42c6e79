use Rattle.tb_semantics.proofs.Reachable.{total-unique}
use Rattle.tb_semantics.proofs.graphs.total_is_any_sum.Goals as goal

pub returns : goal.returns
returns c = record { law = total-unique }
