use Rattle.tb_expand.proofs.LongNames.{names_long}
use Rattle.tb_expand.proofs.laws.global_names_are_long.Goals as goal

pub returns : goal.returns
returns c = names_long
