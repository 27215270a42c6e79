use Rattle.tb_core.specs.View.{view_program}
use Rattle.tb_core.proofs.RulesOnce.{whole-rules}
use Rattle.tb_core.proofs.rules.program_keeps_rules.Goals as goal

pub returns : goal.returns
returns c = whole-rules (view_program c.args._program.now) c.args._program.now.rules
