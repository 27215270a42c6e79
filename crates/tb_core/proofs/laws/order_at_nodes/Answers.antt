use Rattle.tb_core.proofs.Numbers.{forms-have-lines, bodies-have-lines}
use Rattle.tb_core.proofs.laws.order_at_nodes.Goals as goal

pub returns : goal.returns
returns c = record { forms = forms-have-lines; bodies = λ p n l k e. bodies-have-lines p k n l e }
