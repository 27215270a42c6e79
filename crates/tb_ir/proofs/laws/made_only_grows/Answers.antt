use Rattle.std.proofs.Common.{◌≤◌, subst, sym}
use Rattle.tb_semantics.specs.Runs.{after}
use Rattle.tb_semantics.proofs.RunLaws.{run-add}
use Rattle.tb_ir.specs.Space.{made_of}
use Rattle.tb_ir.specs.TreeMachine as T
use Rattle.tb_ir.specs.AnfMachine as N
use Rattle.tb_ir.proofs.Steps.{made-grows}
use Rattle.tb_ir.proofs.OwnSteps.{tree-steps, anf-steps}
use Rattle.tb_ir.proofs.laws.made_only_grows.Goals as goal

pub returns : goal.returns
returns c = record {
  trees = λ p order input n k.
      let m = T.tree_machine p order input in
      subst (λ t. made_of (after m n) ≤ made_of t) (sym (run-add m.step n k m.start)) (made-grows (T.language p order) (tree-steps p order) k (after m n));
  anf = λ p input n k.
      let m = N.anf_machine p input in
      subst (λ t. made_of (after m n) ≤ made_of t) (sym (run-add m.step n k m.start)) (made-grows (N.language p) (anf-steps p) k (after m n));
}
