use Rattle.tb_expand.proofs.CountedMeanings.{few_nodes, few_variables}
use Rattle.tb_expand.proofs.laws.texts_mean_few_nodes.Goals as goal

pub returns : goal.returns
returns c = record { nodes = few_nodes; variables = few_variables }
