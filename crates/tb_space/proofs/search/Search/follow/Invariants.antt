use Rattle.std.proofs.Common.{◌≡◌, ◌-◌, take, vec_len}
use Rattle.tb_space.proofs.Following.{Following}
use Rattle.tb_space.proofs.search.Search.follow.Given as goal

abbrev pub invariant-loop-next : goal.invariant-loop-next
invariant-loop-next l = record {
  search : Following (take l.limit l.machine.mac.memory) l.limit l.initial.self.found.items l.self.found.items l.next;
  size : vec_len l.self.marks ≡ vec_len l.initial.self.marks;
}

abbrev pub decreases-loop-next : goal.decreases-loop-next
decreases-loop-next l = vec_len l.self.marks - l.next
