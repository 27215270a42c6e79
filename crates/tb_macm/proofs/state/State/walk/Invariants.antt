use Rattle.tb_mac.specs.MacStep.{heap_of}
use Rattle.tb_macm.specs.States.{mac_of}
use Rattle.tb_macm.proofs.Lists.{Walking}
use Rattle.tb_macm.proofs.state.State.walk.Given as goal

abbrev pub invariant-loop-count : goal.invariant-loop-count
invariant-loop-count l = Walking (heap_of (mac_of l.self)) l.fn.list l.rest l.count l.elements
