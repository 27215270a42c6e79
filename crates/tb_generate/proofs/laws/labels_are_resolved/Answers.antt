use Rattle.tb_generate.proofs.Resolved.{resolved}
use Rattle.tb_generate.proofs.laws.labels_are_resolved.Goals as goal

pub returns : goal.returns
returns c = record { resolved = resolved }
