use Rattle.tb_liftable.proofs.Chosen.{few_operands, without_rest}
use Rattle.tb_liftable.proofs.laws.lifted_are_small.Goals as goal

pub returns-clause-operands : goal.returns-clause-operands
returns-clause-operands c = few_operands

pub returns-clause-rest : goal.returns-clause-rest
returns-clause-rest c = without_rest
