use Rattle.tb_semantics.proofs.Reachable.{reachable_kept}
use Rattle.tb_semantics.proofs.graphs.reachable_are_kept.Goals as goal

pub returns : goal.returns
returns c = record { law = reachable_kept }
