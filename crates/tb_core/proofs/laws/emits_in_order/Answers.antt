use Rattle.tb_semantics.proofs.RunLaws.{prefix-after}
use Rattle.tb_core.specs.Reference.{reference}
use Rattle.tb_core.proofs.Steps.{in_order}
use Rattle.tb_core.proofs.laws.emits_in_order.Goals as goal

pub returns : goal.returns
returns c = record { step = in_order; run = λ p order input k n. prefix-after (reference p order input) (in_order p order input) k n }
