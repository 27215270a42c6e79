use Rattle.tb_core.proofs.NeverLost.{never-lost}
use Rattle.tb_core.proofs.laws.no_run_is_lost.Goals as goal

pub returns : goal.returns
returns c = record { law = never-lost }
