use Rattle.tb_anf.proofs.rules.Passing.{passes-few, parameters-few}
use Rattle.tb_anf.proofs.laws.operands_stay_few.Goals as goal

pub returns : goal.returns
returns c = record {
  operands = λ p order n. passes-few n p order;
  parameters = λ p order n. parameters-few n p order;
}
