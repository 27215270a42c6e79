use Rattle.std.proofs.Common.{◌≡◌, ℕ, List, Some, take, slice_get}
use Rattle.tb_anf.specs.calls.Steps.{Arranges}
use Rattle.tb_anf.specs.declared.steps.Step.{Step}
use Rattle.tb_anf.proofs.steps.arranged.Given as goal

abbrev pub invariant-loop-index : goal.invariant-loop-index
invariant-loop-index l = record {
  kept : (i : ℕ) (g : List Step) → slice_get l.left.items i ≡ Some (Some g) → slice_get l.fn.groups.items i ≡ Some g;
  wraps : Arranges l.fn.groups.items (take l.index-index l.order) l.out.items;
}
