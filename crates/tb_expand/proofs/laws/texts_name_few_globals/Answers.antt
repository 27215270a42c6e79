use Rattle.tb_expand.proofs.GlobalNames.{few_globals}
use Rattle.tb_expand.proofs.laws.texts_name_few_globals.Goals as goal

pub returns : goal.returns
returns c = few_globals
