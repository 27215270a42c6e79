-- The interpreter's state as a state of the machine.
use Rattle.tb_macm.specs.declared.state.State.{State}
use Rattle.tb_mac.specs.MacStep.{Mac}

-- the state that the definition speaks of
abbrev pub mac_of : State → Mac
mac_of s = record {
  pc = s.pc;
  registers = s.registers;
  memory = s.memory.items;
  heap_pointer = s.heap_pointer;
  stack_pointer = s.stack_pointer;
  ahead = s.ahead;
}
