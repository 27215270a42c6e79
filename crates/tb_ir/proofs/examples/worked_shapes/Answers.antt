use Rattle.std.proofs.Common.{refl}
use Rattle.tb_semantics.specs.Graph.{reaches, total}
use Rattle.tb_ir.proofs.examples.worked_shapes.Goals as goal

pub returns : goal.returns
unfolding reaches total
returns c = record {
  tail_loop = refl;
  deep = refl;
  shared_cell = refl;
  lifted_call = refl;
  dropped_string = refl;
  mutual_closures = refl;
  lifted_cell = refl;
  anf_loop = refl;
}
