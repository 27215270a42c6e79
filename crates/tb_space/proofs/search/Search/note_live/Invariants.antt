use Rattle.std.proofs.Common.{◌≡◌, ◌+◌, drop, vec_len}
use Rattle.tb_mac.specs.LiveWords.{all_targets, chosen}
use Rattle.tb_space.specs.calls.Noting.{noted_all}
use Rattle.tb_space.proofs.search.Search.note_live.Given as goal

abbrev pub invariant-loop-k : goal.invariant-loop-k
invariant-loop-k l = record {
  left : noted_all l.limit l.self.found.items (all_targets (chosen (drop l.k l.live) (drop (l.from + l.k) l.machine.mac.memory)))
      ≡ noted_all l.limit l.initial.self.found.items (all_targets (chosen l.live (drop l.from l.machine.mac.memory)));
  size : vec_len l.self.marks ≡ vec_len l.initial.self.marks;
}
