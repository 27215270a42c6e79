use Rattle.tb_liftable.proofs.Settling.{settled_stays}
use Rattle.tb_liftable.proofs.laws.settled_stays.Goals as goal

pub returns : goal.returns
returns c = record { law = settled_stays }
