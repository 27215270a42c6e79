use Rattle.std.proofs.Common.{◌≡◌, ℕ, ◌+◌, ◌-◌, vec_len}
use Rattle.tb_core.specs.calls.Marks.{is_marked}
use Rattle.tb_assign.proofs.targets.mark.Given as goal

abbrev pub invariant-loop-marked : goal.invariant-loop-marked
invariant-loop-marked l = (x : ℕ) → is_marked l.marked.items x ≡ is_marked l.initial.marked.items x

abbrev pub decreases-loop-marked : goal.decreases-loop-marked
decreases-loop-marked l = l.index + 1 - vec_len l.marked
