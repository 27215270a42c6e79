use Rattle.tb_assign.proofs.AllNamed.{all-named}
use Rattle.tb_assign.proofs.ReadyFrom.{ready-from}
use Rattle.tb_assign.proofs.Whole.{cells-keep}
use Rattle.tb_assign.proofs.laws.cells_keep.Goals as goal

pub returns : goal.returns
returns c = record { law = λ p input rules. cells-keep p input rules (ready-from p rules (all-named p rules)) }
