use Rattle.tb_mac.proofs.FrameLaws.{framed_step}
use Rattle.tb_mac.proofs.laws.framed_steps_are_flat.Goals as goal

pub returns : goal.returns
returns c = record { law = framed_step }
