use Rattle.tb_core.proofs.Reached.{space-within}
use Rattle.tb_core.proofs.laws.space_is_within_made.Goals as goal

pub returns : goal.returns
returns c = record { law = space-within }
