use Rattle.std.proofs.Common.{refl}
use Rattle.tb_semantics.specs.Graph.{reaches, total}
use Rattle.tb_core.proofs.examples.worked_spaces.Goals as goal

pub returns : goal.returns
unfolding reaches total
returns c = record { at_body = refl; at_closure = refl; at_entry = refl; made = refl }
