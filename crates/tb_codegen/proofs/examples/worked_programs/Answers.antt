use Rattle.std.proofs.Common.{refl}
use Rattle.tb_codegen.specs.Generate.{code_block, code_bound, code_last}
use Rattle.tb_mac.specs.MacStep.{walk_list}
use Rattle.tb_codegen.proofs.examples.worked_programs.Goals as goal

pub returns : goal.returns
unfolding code_block code_bound code_last walk_list
returns c = record {
  failure = record { code = refl; marked = refl; program = refl };
  closures = record { code = refl; marked = refl; program = refl };
  lifted = record { code = refl; marked = refl; program = refl };
  loop_call = record { code = refl; marked = refl; program = refl };
  rest = record { code = refl; marked = refl; program = refl };
  applied = record { code = refl; marked = refl; program = refl };
  early = record { code = refl; marked = refl; program = refl };
  arms = record { code = refl; marked = refl; program = refl };
  captured = record { code = refl; marked = refl; program = refl };
  operands = record { code = refl; marked = refl; program = refl };
  no_procedure = record { code = refl; marked = refl; program = refl };
  elements = record { code = refl; marked = refl; program = refl };
  top_arms = record { code = refl; marked = refl; program = refl };
  dropped = record { code = refl; marked = refl; program = refl };
}
