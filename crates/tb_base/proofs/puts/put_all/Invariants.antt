use Rattle.std.proofs.Common.{length, ◌-◌, ◌≡◌, ◌≤◌, take, ◌++◌, Some, IfSome}
use Rattle.tb_base.proofs.puts.put_all.Given as goal

abbrev pub invariant-loop-count : goal.invariant-loop-count
invariant-loop-count g l = record {
  within : l.count ≤ length l.bytes;
  bytes : IfSome (g.O.Sink.held l.initial.out) (λ held. g.O.Sink.held l.out ≡ Some (held ++ take l.count l.bytes));
  faults : g.O.Sink.faults l.initial.out ≤ g.O.Sink.faults l.out;
}

abbrev pub decreases-loop-count : goal.decreases-loop-count
decreases-loop-count g l = length l.bytes - l.count
