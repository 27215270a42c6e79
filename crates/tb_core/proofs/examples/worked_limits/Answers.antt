use Rattle.std.proofs.Common.{refl}
use Rattle.tb_core.specs.Limits.{judge, judged}
use Rattle.tb_core.proofs.examples.worked_limits.Goals as goal

pub returns : goal.returns
unfolding judge judged
returns c = record { parameters_first = refl }
