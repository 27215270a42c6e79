use Rattle.tb_core.proofs.Reached.{space-once}
use Rattle.tb_core.proofs.laws.space_counts_once.Goals as goal

pub returns : goal.returns
returns c = record { law = space-once }
