use Rattle.tb_expand.proofs.FreeNumbers.{in_scope}
use Rattle.tb_expand.proofs.laws.closed_nodes_have_no_free_variables.Goals as goal

pub returns : goal.returns
returns c = in_scope
