-- The interpreter's state as a state of the machine.
use Rattle.tb_sparcm.specs.declared.state.State.{State}
use Rattle.tb_sparc.specs.SparcStep.{Sparc}

-- the state that the definition speaks of
abbrev pub sparc_of : State → Sparc
sparc_of s = record {
  pc = s.pc;
  npc = s.npc;
  registers = s.registers;
  y = s.y;
  codes = s.codes;
  memory = s.memory.items;
  group = s.group;
  ahead = s.ahead;
}
