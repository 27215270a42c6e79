use Rattle.tb_expand.proofs.KeepingRules.{text_keeps}
use Rattle.tb_expand.proofs.laws.numbered_programs_keep_rules.Goals as goal

pub returns : goal.returns
returns c = text_keeps
