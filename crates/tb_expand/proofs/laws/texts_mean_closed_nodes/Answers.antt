use Rattle.tb_expand.proofs.ClosedMeanings.{text_closed}
use Rattle.tb_expand.proofs.BoundMeanings.{text_once}
use Rattle.tb_expand.proofs.laws.texts_mean_closed_nodes.Goals as goal

pub returns : goal.returns
returns c = record { closed = text_closed; once = text_once }
