use Rattle.tb_core.proofs.NeverLost.{sizes-stay}
use Rattle.tb_core.proofs.laws.items_keep_their_sizes.Goals as goal

pub returns : goal.returns
returns c = record { law = sizes-stay }
