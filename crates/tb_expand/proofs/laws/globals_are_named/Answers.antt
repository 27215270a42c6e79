use Rattle.tb_expand.proofs.GlobalNames.{globals_named}
use Rattle.tb_expand.proofs.laws.globals_are_named.Goals as goal

pub returns : goal.returns
returns c = globals_named
