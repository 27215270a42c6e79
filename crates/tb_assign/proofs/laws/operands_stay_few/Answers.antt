use Rattle.tb_assign.proofs.Passed.{few-operands, few-parameters}
use Rattle.tb_assign.proofs.laws.operands_stay_few.Goals as goal

pub returns : goal.returns
returns c = record { operands = few-operands; parameters = few-parameters }
