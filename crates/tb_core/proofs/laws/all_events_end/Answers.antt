use Rattle.tb_core.proofs.MostEvents.{events-end}
use Rattle.tb_core.proofs.laws.all_events_end.Goals as goal

pub returns : goal.returns
returns c = record { law = λ p input es r most. events-end p input es r most }
