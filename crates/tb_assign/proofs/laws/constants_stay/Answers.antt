use Rattle.tb_assign.proofs.Passed.{constants-stay}
use Rattle.tb_assign.proofs.laws.constants_stay.Goals as goal

pub returns : goal.returns
returns c = constants-stay
