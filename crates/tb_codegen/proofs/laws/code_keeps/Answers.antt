use Rattle.tb_codegen.proofs.Follows.{code-keeps}
use Rattle.tb_codegen.proofs.laws.code_keeps.Goals as goal

pub returns : goal.returns
returns c = record { keeps = code-keeps }
