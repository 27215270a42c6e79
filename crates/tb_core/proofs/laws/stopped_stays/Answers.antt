use Rattle.std.proofs.Common.{refl}
use Rattle.tb_semantics.proofs.RunLaws.{after-stays}
use Rattle.tb_core.specs.Reference.{Stopped, reference}
use Rattle.tb_core.proofs.laws.stopped_stays.Goals as goal

pub returns : goal.returns
returns c = record { law = λ p order input n k d es h. after-stays (reference p order input) n k (Stopped d es) h refl }
