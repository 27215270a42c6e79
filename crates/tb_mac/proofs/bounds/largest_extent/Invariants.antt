use Rattle.tb_mac.specs.Bounds.{frame_bound}
use Rattle.tb_mac.proofs.BoundLaws.{Largest}
use Rattle.tb_mac.proofs.bounds.largest_extent.Given as goal

abbrev pub invariant-loop-instr : goal.invariant-loop-instr
invariant-loop-instr l = Largest l.largest l.instr-index (frame_bound l.code) l.code
