use Rattle.tb_semantics.proofs.RunLaws.{keeps_events-trans}
use Rattle.tb_semantics.proofs.runs.keeps_events_composes.Goals as goal

pub returns : goal.returns
returns g c = record { law = λ a b d h k. keeps_events-trans a b d h k }
