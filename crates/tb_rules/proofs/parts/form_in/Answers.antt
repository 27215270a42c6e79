use Rattle.std.proofs.Common.{arith}
use Rattle.tb_rules.proofs.Rows.{no_parts}
use Rattle.tb_rules.proofs.parts.form_in.Goals as goal

pub returns-then-elements-lt2 : goal.returns-then-elements-lt2
returns-then-elements-lt2 c = no_parts c.args.elements.now (omega arith)
