use Rattle.tb_codegen.proofs.Windows.{window-length}
use Rattle.tb_codegen.proofs.laws.windows_are_short.Goals as goal

pub returns : goal.returns
returns c = record { short = window-length }
