use Rattle.tb_codegen.proofs.Items.{items-ok}
use Rattle.tb_codegen.proofs.laws.items_can_be_assembled.Goals as goal

pub returns : goal.returns
returns c = record { conditions = items-ok }
