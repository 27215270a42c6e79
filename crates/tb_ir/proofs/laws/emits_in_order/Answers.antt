use Rattle.tb_ir.specs.TreeMachine as T
use Rattle.tb_ir.specs.AnfMachine as N
use Rattle.tb_ir.proofs.Steps.{in-order}
use Rattle.tb_ir.proofs.OwnSteps.{tree-steps, anf-steps}
use Rattle.tb_ir.proofs.laws.emits_in_order.Goals as goal

pub returns : goal.returns
returns c = record {
  trees = λ p order input. in-order (T.language p order) (tree-steps p order) p.globals p.statics input;
  anf = λ p input. in-order (N.language p) (anf-steps p) p.globals p.statics input;
}
