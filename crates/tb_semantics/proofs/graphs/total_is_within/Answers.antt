use Rattle.tb_semantics.proofs.Reachable.{total-within}
use Rattle.tb_semantics.proofs.graphs.total_is_within.Goals as goal

pub returns : goal.returns
returns c = record { law = total-within }
