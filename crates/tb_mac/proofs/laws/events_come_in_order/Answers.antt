use Rattle.tb_mac.proofs.EventLaws.{emits_in_order}
use Rattle.tb_mac.proofs.laws.events_come_in_order.Goals as goal

pub returns : goal.returns
returns c = record { law = emits_in_order }
