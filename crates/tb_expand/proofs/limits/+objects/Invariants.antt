use Rattle.std.proofs.Common.{◌≡◌, drop}
use Rattle.tb_expand.specs.Limits.{with_pairs, with_each}
use Rattle.tb_expand.specs.View.{data_of, view_state}
use Rattle.tb_expand.proofs.limits.+objects.Given as goal

abbrev pub invariant-add_pairs-loop-datum : goal.invariant-add_pairs-loop-datum
invariant-add_pairs-loop-datum l = with_pairs (data_of (drop l.datum-index l.datums)) (view_state l.state) ≡ with_pairs (data_of l.datums) (view_state l.initial.state)

abbrev pub invariant-add_data-loop-datum : goal.invariant-add_data-loop-datum
invariant-add_data-loop-datum l = with_each (data_of (drop l.datum-index l.datums)) (view_state l.state) ≡ with_each (data_of l.datums) (view_state l.initial.state)
