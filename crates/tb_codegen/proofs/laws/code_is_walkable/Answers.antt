use Rattle.tb_codegen.proofs.Walks.{code-walkable}
use Rattle.tb_codegen.proofs.laws.code_is_walkable.Goals as goal

pub returns : goal.returns
returns c = record { walkable = code-walkable }
