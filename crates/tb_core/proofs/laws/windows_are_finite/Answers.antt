use Rattle.tb_core.proofs.Windows.{windows-end}
use Rattle.tb_core.proofs.laws.windows_are_finite.Goals as goal

pub returns : goal.returns
returns c = record { law = windows-end }
