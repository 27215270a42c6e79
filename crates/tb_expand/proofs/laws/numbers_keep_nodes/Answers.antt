use Rattle.tb_expand.proofs.NodeCounts.{program_counted}
use Rattle.tb_expand.proofs.laws.numbers_keep_nodes.Goals as goal

pub returns : goal.returns
returns c = program_counted
