use Rattle.tb_expand.proofs.ShortMeanings.{text_short}
use Rattle.tb_expand.proofs.laws.constants_are_short.Goals as goal

pub returns : goal.returns
returns c = text_short
