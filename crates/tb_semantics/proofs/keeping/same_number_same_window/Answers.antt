use Rattle.tb_semantics.proofs.KeepsLemmas.{same_number-same_window}
use Rattle.tb_semantics.proofs.keeping.same_number_same_window.Goals as goal

pub returns : goal.returns
returns g c = record { law = λ m o j n k a b. same_number-same_window m o j n k a b }
