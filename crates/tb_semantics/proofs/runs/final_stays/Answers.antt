use Rattle.tb_semantics.proofs.RunLaws.{after-stays}
use Rattle.tb_semantics.proofs.runs.final_stays.Goals as goal

pub returns : goal.returns
returns g c = record { law = λ m n k s h e. after-stays m n k s h e }
