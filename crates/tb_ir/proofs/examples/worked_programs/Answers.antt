use Rattle.std.proofs.Common.{refl}
use Rattle.tb_ir.proofs.examples.worked_programs.Goals as goal

pub returns : goal.returns
returns c = record {
  tail_loop = (90, refl);
  deep = (90, refl);
  shared_cell = (60, refl);
  early_read = (60, refl);
  lifted_call = (60, refl);
  complex_first = (60, refl);
  rest_parameter = (60, refl);
  applied = (60, refl);
  failure_after_output = (60, refl);
  dropped_string = (60, refl);
  mutual_closures = (60, refl);
  lifted_cell = (60, refl);
  anf_loop = (80, refl);
}
