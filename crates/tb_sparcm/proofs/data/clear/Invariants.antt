use Rattle.std.proofs.Common.{◌+◌}
use Rattle.tb_sparc.specs.SparcStep.{cleared}
use Rattle.tb_sparcm.proofs.Clearing.{Clearing}
use Rattle.tb_sparcm.proofs.data.clear.Given as goal

abbrev pub invariant-loop-k : goal.invariant-loop-k
invariant-loop-k l = Clearing l.k (l.at + l.count) l.memory (cleared l.count l.at l.fn.memory)
