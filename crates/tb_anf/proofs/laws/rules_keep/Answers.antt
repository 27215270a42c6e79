use Rattle.tb_anf.proofs.rules.Kept.{rules-keep}
use Rattle.tb_anf.proofs.laws.rules_keep.Goals as goal

pub returns : goal.returns
returns c = record { law = rules-keep }
