use Rattle.std.proofs.Common.{◌≡◌, ◌+◌, ◌*◌, ◌≤◌, ◌^◌, drop}
use Rattle.tb_semantics.specs.Graph.{sum_of}
use Rattle.tb_space.specs.calls.Roots.{size_from}
use Rattle.tb_space.proofs.search.Search.size.Given as goal

abbrev pub invariant-loop-at : goal.invariant-loop-at
invariant-loop-at l = record {
  left : l.sum + sum_of (size_from l.machine.mac.memory l.start) (drop l.at-index l.self.found.items) ≡ sum_of (size_from l.machine.mac.memory l.start) l.self.found.items;
  small : l.sum ≤ (2 ^ 32 + 2) * l.at-index;
}
