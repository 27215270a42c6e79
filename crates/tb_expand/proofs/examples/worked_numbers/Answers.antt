use Rattle.std.proofs.Common.{refl}
use Rattle.tb_expand.specs.Names.{same_name}
use Rattle.tb_expand.specs.Numbers.{program_of}
use Rattle.tb_expand.proofs.examples.worked_numbers.Goals as goal

pub returns : goal.returns
unfolding program_of same_name
returns c = record { statics = refl; forms = refl; parameters = refl; rests = refl; nodes = refl; globals = refl; symbols = refl }
