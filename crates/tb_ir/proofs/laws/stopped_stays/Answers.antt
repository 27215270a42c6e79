use Rattle.std.proofs.Common.{refl}
use Rattle.tb_semantics.proofs.RunLaws.{after-stays}
use Rattle.tb_ir.specs.Machine.{Stopped}
use Rattle.tb_ir.specs.TreeMachine.{tree_machine}
use Rattle.tb_ir.specs.AnfMachine.{anf_machine}
use Rattle.tb_ir.proofs.laws.stopped_stays.Goals as goal

pub returns : goal.returns
returns c = record {
  trees = λ p order input n k d es h. after-stays (tree_machine p order input) n k (Stopped d es) h refl;
  anf = λ p input n k d es h. after-stays (anf_machine p input) n k (Stopped d es) h refl;
}
