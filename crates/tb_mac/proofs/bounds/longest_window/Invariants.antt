use Rattle.tb_mac.specs.Bounds.{window_bound}
use Rattle.tb_mac.proofs.BoundLaws.{Longest}
use Rattle.tb_mac.proofs.bounds.longest_window.Given as goal

abbrev pub invariant-loop-instr : goal.invariant-loop-instr
invariant-loop-instr l = Longest l.longest l.run l.instr-index (window_bound l.code) l.code
