use Rattle.tb_anf.proofs.rules.Passing.{constants-pass}
use Rattle.tb_anf.proofs.laws.constants_stay.Goals as goal

pub returns : goal.returns
returns c = record { law = λ p order test. constants-pass test p order }
