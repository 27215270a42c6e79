use Rattle.std.proofs.Common.{◌≤◌, ◌≡◌, ℕ, ◌-◌, List, ◌++◌, length, Some, IfSome}
use Rattle.tb_base.proofs.takes.take_all.Given as goal

abbrev pub invariant-loop-bytes : goal.invariant-loop-bytes
invariant-loop-bytes g l = record {
  within : length l.bytes.items ≤ l.limit;
  taken : IfSome (g.S.Source.left l.initial.source)
      (λ left. (rest : List ℕ) × (g.S.Source.left l.source ≡ Some rest) × (left ≡ l.bytes.items ++ rest));
  faults : g.S.Source.faults l.initial.source ≤ g.S.Source.faults l.source;
}

abbrev pub decreases-loop-bytes : goal.decreases-loop-bytes
decreases-loop-bytes g l = l.limit - length l.bytes.items
