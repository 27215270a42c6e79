use Rattle.std.proofs.Common.{refl}
use Rattle.tb_live.proofs.examples.worked_rows.Goals as goal

pub returns : goal.returns
returns c = record { branching = refl; together = refl; capturing = refl; pressures = refl }
