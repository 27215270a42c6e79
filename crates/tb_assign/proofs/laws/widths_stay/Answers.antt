use Rattle.tb_assign.proofs.Widths.{same-widths}
use Rattle.tb_assign.proofs.laws.widths_stay.Goals as goal

pub returns : goal.returns
returns c = record { law = λ p rules. same-widths p rules }
