use Rattle.tb_semantics.proofs.Reachable.{total-more}
use Rattle.tb_semantics.proofs.graphs.total_grows.Goals as goal

pub returns : goal.returns
returns c = record { law = λ size g rs closed h. total-more size g rs closed h }
