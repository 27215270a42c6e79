use Rattle.tb_core.proofs.Numbers.{free-of-lambda}
use Rattle.tb_core.proofs.laws.free_of_lambda.Goals as goal

pub returns : goal.returns
returns c = record { law = λ p n l k e. free-of-lambda p n l k.inner_greater e }
