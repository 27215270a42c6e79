use Rattle.std.proofs.Common.{◌≡◌, drop, vec_len}
use Rattle.tb_mac.specs.LiveWords.{all_targets, chosen_from, is_live_register, live_registers}
use Rattle.tb_space.specs.calls.Noting.{noted_all}
use Rattle.tb_space.specs.calls.Roots.{without_memory}
use Rattle.tb_space.proofs.search.Search.note_registers.Given as goal

abbrev pub invariant-loop-a : goal.invariant-loop-a
invariant-loop-a l = record {
  left : noted_all l.limit l.self.found.items (all_targets (chosen_from (is_live_register l.machine.code (without_memory l.machine.mac)) l.a (drop l.a l.machine.mac.registers)))
      ≡ noted_all l.limit l.initial.self.found.items (all_targets (live_registers l.machine.code (without_memory l.machine.mac)));
  size : vec_len l.self.marks ≡ vec_len l.initial.self.marks;
}
