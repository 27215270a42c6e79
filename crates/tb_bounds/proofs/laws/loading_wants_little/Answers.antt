use Rattle.tb_bounds.proofs.ReferenceSpace.{start-within}
use Rattle.tb_bounds.proofs.laws.loading_wants_little.Goals as goal

pub returns : goal.returns
returns c = record { law = start-within }
