use Rattle.std.proofs.Common.{refl}
use Rattle.tb_core.proofs.examples.worked_closures.Goals as goal

pub returns : goal.returns
returns c = record { one = (30, 2, refl); first = (40, 4, refl); second = (40, 5, refl) }
