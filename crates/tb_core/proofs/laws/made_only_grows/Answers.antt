use Rattle.tb_core.proofs.NeverLost.{made-grows}
use Rattle.tb_core.proofs.laws.made_only_grows.Goals as goal

pub returns : goal.returns
returns c = record { law = made-grows }
