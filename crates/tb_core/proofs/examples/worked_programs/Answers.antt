use Rattle.std.proofs.Common.{refl}
use Rattle.tb_core.proofs.examples.worked_programs.Goals as goal

pub returns : goal.returns
returns c = record {
  tail_loop = (80, refl);
  closure_of_one = (30, refl);
  assigned_capture = (30, refl);
  early_read = (30, refl);
  early_assignment = (30, refl);
  no_procedure = (30, refl);
  wrong_count = (30, refl);
  rest_parameter = (30, refl);
  twelve_applied = (30, refl);
  thirteen_applied = (30, refl);
  reads = (30, refl);
  complex_first = (30, refl);
  assigned_in_order = (30, refl);
  mixed_operands = (60, refl);
  applied_number = (30, refl);
  applied_to_number = (30, refl);
  failure_after_output = (30, refl);
  letrec_closures = (40, refl);
}
