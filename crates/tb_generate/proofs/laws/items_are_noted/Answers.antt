use Rattle.tb_generate.proofs.Whole.{program-is}
use Rattle.tb_generate.proofs.laws.items_are_noted.Goals as goal

pub returns : goal.returns
returns c = record { law = program-is }
