use Rattle.tb_semantics.proofs.KeepsLemmas.{keeps-trans}
use Rattle.tb_semantics.proofs.keeping.keeps_composes.Goals as goal

pub returns : goal.returns
returns g c = record { law = λ a b d k l room h j. keeps-trans a b d k l room h j }
