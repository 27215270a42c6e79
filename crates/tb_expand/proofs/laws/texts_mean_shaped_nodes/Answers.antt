use Rattle.tb_expand.proofs.ShapedMeanings.{text_shaped}
use Rattle.tb_expand.proofs.laws.texts_mean_shaped_nodes.Goals as goal

pub returns : goal.returns
returns c = text_shaped
