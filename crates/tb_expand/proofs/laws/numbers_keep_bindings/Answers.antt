use Rattle.tb_expand.proofs.BoundNumbers.{bound_once, small_variables}
use Rattle.tb_expand.proofs.laws.numbers_keep_bindings.Goals as goal

pub returns : goal.returns
returns c = record { once = bound_once; small = small_variables }
