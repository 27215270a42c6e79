use Rattle.std.proofs.Common.{◌≡◌, ◌-◌, take, vec_len}
use Rattle.tb_mac.specs.LiveWords.{targets_from}
use Rattle.tb_space.specs.calls.Noting.{noted_all}
use Rattle.tb_space.proofs.search.Search.note_words.Given as goal

abbrev pub invariant-loop-at : goal.invariant-loop-at
invariant-loop-at l = record {
  left : noted_all l.limit l.self.found.items (targets_from (take l.limit l.machine.mac.memory) l.at (l.to - l.at))
      ≡ noted_all l.limit l.initial.self.found.items (targets_from (take l.limit l.machine.mac.memory) l.from (l.to - l.from));
  size : vec_len l.self.marks ≡ vec_len l.initial.self.marks;
}
