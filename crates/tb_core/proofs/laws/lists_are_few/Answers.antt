use Rattle.tb_core.proofs.ShortLines.{few-lines, few-lambdas}
use Rattle.tb_core.proofs.laws.lists_are_few.Goals as goal

pub returns : goal.returns
returns c = record { lines = few-lines; lambdas = few-lambdas }
