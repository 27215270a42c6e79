use Rattle.std.proofs.Common.{arith}
use Rattle.tb_rules.proofs.Rows.{no_rule}
use Rattle.tb_rules.proofs.parts.rule_in.Goals as goal

pub returns-else-elements-eq2 : goal.returns-else-elements-eq2
returns-else-elements-eq2 c = no_rule c.args.elements.now (omega arith)
