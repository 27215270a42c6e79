use Rattle.tb_semantics.proofs.RunLaws.{prefix-after}
use Rattle.tb_semantics.proofs.runs.events_only_grow.Goals as goal

pub returns : goal.returns
returns g c = record { law = λ m e k n. prefix-after m e k n }
