use Rattle.std.proofs.Common.{◌≡◌, ◌-◌, List, drop, length, vec_len}
use Rattle.tb_mac.specs.Frames.{Frame, flat_frames}
use Rattle.tb_mac.specs.LiveWords.{AreWaiting, all_targets, waiting_slots}
use Rattle.tb_space.specs.calls.Noting.{noted_all}
use Rattle.tb_space.proofs.Stacks.{Waiting}
use Rattle.tb_space.proofs.search.Search.note_waiting.Given as goal

abbrev pub invariant-loop-at : goal.invariant-loop-at
invariant-loop-at l = record {
  frames : (fs : List Frame) → drop l.fn.from l.machine.mac.memory ≡ flat_frames fs → AreWaiting l.machine.code fs →
      Waiting l.machine.code l.machine.mac.memory l.limit l.at l.self.found.items (noted_all l.limit l.initial.self.found.items (all_targets (waiting_slots l.machine.code fs)));
  size : vec_len l.self.marks ≡ vec_len l.initial.self.marks;
}

abbrev pub decreases-loop-at : goal.decreases-loop-at
decreases-loop-at l = length l.machine.mac.memory - l.at
