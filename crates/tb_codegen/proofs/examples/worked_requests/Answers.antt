use Rattle.std.proofs.Common.{refl}
use Rattle.tb_codegen.specs.Generate.{code_block, code_bound, code_last}
use Rattle.tb_codegen.proofs.examples.worked_requests.Goals as goal

pub returns : goal.returns
unfolding code_block code_bound code_last
returns c = record { string = (refl, refl); frame = (refl, refl) }
