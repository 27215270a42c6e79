-- Runs of the SPARC machine: its states with the rest of the input and the events so far.
use Rattle.std.specs.Prelude.{ℕ, ◌+◌, ◌*◌, List, [], map, replicate, slice_index, slice_set, None}
use Rattle.tb_prim.specs.declared.event.Event.{Event}
use Rattle.tb_prim.specs.declared.event.Stop.{Stop}
use Rattle.tb_semantics.specs.Runs.{Machine}
use Rattle.tb_mac.specs.Assembled.{Assembled}
use Rattle.tb_mac.specs.MacEvents.{mac_start, with_event, with_stop}
use Rattle.tb_mac.specs.MacStep.{Mac}
use Rattle.tb_sparc.specs.Grouped.{Grouped}
use Rattle.tb_sparc.specs.SparcStep.{Sparc, Stepped, Went, Stopped, behind, sparc_step}
use Rattle.tb_sparc.specs.WordBits.{data_address, word_bits}
use Rattle.tb_sparc.specs.WordOps.{no_codes}

-- the machine goes on, or stands with its stop; each with the rest of the input and the events so far
pub data SparcState : Type 0 where
  Going : Sparc → List ℕ → List Event → SparcState
  Halted : Sparc → Stop → List ℕ → List Event → SparcState

-- the state after a step came to this
abbrev pub next_state : Sparc → List ℕ → List Event → Stepped → SparcState
next_state s input es (Went e s' input') = Going s' input' (with_event e es)
next_state s input es (Stopped stop) = Halted s stop input (with_stop stop es)

-- one step; a machine that has stopped stays as it is
abbrev pub next : Assembled → Grouped → SparcState → SparcState
next c g (Going s input es) = next_state s input es (sparc_step c g s input)
next c g (Halted s stop input es) = Halted s stop input es

-- the events of a state
abbrev pub events_of : SparcState → List Event
events_of (Going s input es) = es
events_of (Halted s stop input es) = es

-- the address of a word of the data
abbrev pub data_at : ℕ → ℕ
data_at word = data_address + 4 * word

-- the registers before the first step: the heap pointer in register 1, the data address in 5, the stack pointer in 14
abbrev pub start_registers : Mac → List ℕ
start_registers m = slice_set (slice_set (slice_set (replicate 32 0) 1 (data_at m.heap_pointer)) 5 data_address) 14 (data_at m.stack_pointer)

-- before the first step, with so many data words: those of the MAC machine before its first step
abbrev pub sparc_start : Assembled → Grouped → ℕ → Sparc
sparc_start c g heap = record {
  pc = slice_index g.starts 0;
  npc = behind (slice_index g.starts 0);
  registers = start_registers (mac_start c heap);
  y = 0;
  codes = no_codes;
  memory = map (word_bits g.starts) (mac_start c heap).memory;
  group = 0;
  ahead = None;
}

-- the machine on code, with so many data words and with this input
abbrev pub sparc_machine : Assembled → Grouped → ℕ → List ℕ → Machine Event SparcState
sparc_machine c g heap input = record {
  start = Going (sparc_start c g heap) input [];
  step = next c g;
  events = events_of;
}
