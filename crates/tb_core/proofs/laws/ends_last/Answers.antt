use Rattle.tb_core.proofs.Steps.{ends_last_after}
use Rattle.tb_core.proofs.laws.ends_last.Goals as goal

pub returns : goal.returns
returns c = record { law = ends_last_after }
