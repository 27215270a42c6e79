use Rattle.tb_mac.proofs.FramedRunLaws.{framed_run}
use Rattle.tb_mac.proofs.laws.framed_runs_are_flat.Goals as goal

pub returns : goal.returns
returns c = record { law = framed_run }
