use Rattle.tb_core.proofs.Cuts.{cut-narrower}
use Rattle.tb_core.proofs.laws.cut_to_fewer.Goals as goal

pub returns : goal.returns
returns c = record { fewer = cut-narrower; twice = λ xs r. cut-narrower xs xs r (λ y h. h) }
