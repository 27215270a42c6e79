use Rattle.tb_codegen.proofs.Short.{code-short}
use Rattle.tb_codegen.proofs.laws.code_is_short.Goals as goal

pub returns : goal.returns
returns c = record { short = code-short }
