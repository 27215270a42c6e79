use Rattle.tb_core.proofs.Cuts.{cut-kept, cut-left}
use Rattle.tb_core.proofs.laws.cut_keeps_listed.Goals as goal

pub returns : goal.returns
returns c = record { kept = cut-kept; left = cut-left }
