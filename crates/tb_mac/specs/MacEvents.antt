-- Runs of the MAC machine: its states with the rest of the input and the events so far.
use Rattle.std.specs.Prelude.{ℕ, ◌-◌, List, [], ◌∷◌, ◌++◌, length, replicate, Some, None, Option}
use Rattle.tb_prim.specs.declared.event.Event.{Event}
use Rattle.tb_prim.specs.declared.event.Event.TheVariants as E
use Rattle.tb_prim.specs.declared.event.Stop.{Stop}
use Rattle.tb_prim.specs.declared.event.Stop.TheVariants as S
use Rattle.tb_semantics.specs.Runs.{Machine}
use Rattle.tb_mac.specs.Assembled.{Assembled}
use Rattle.tb_mac.specs.Words.{zero_word}
use Rattle.tb_mac.specs.Layout.{start_words}
use Rattle.tb_mac.specs.MacStep.{Mac, Stepped, Went, Stopped, mac_step}

-- the machine goes on, or stands with its stop; each with the rest of the input and the events so far
pub data MacState : Type 0 where
  Going : Mac → List ℕ → List Event → MacState
  Halted : Mac → Stop → List ℕ → List Event → MacState

-- an end and a failure are events
abbrev pub with_stop : Stop → List Event → List Event
with_stop S.End es = es ++ E.End ∷ []
with_stop (S.Fail c p) es = es ++ E.Fail c p ∷ []
with_stop _ es = es

-- one more event, or none
abbrev pub with_event : Option Event → List Event → List Event
with_event None es = es
with_event (Some e) es = es ++ e ∷ []

-- the state after a step came to this
abbrev pub next_state : Mac → List ℕ → List Event → Stepped → MacState
next_state m input es (Went e m' input') = Going m' input' (with_event e es)
next_state m input es (Stopped s) = Halted m s input (with_stop s es)

-- one step; a machine that has stopped stays as it is
abbrev pub next : Assembled → MacState → MacState
next c (Going m input es) = next_state m input es (mac_step c m input)
next c (Halted m s input es) = Halted m s input es

-- the events of a state
abbrev pub events_of : MacState → List Event
events_of (Going m input es) = es
events_of (Halted m s input es) = es

-- before the first step, in a memory of so many words: the globals and the static objects, and fixnums 0
abbrev pub mac_start : Assembled → ℕ → Mac
mac_start c heap = record {
  pc = 0;
  registers = replicate 17 zero_word;
  memory = start_words c.parts ++ replicate (heap - length (start_words c.parts)) zero_word;
  heap_pointer = length (start_words c.parts);
  stack_pointer = heap;
  ahead = None;
}

-- the machine on code, in a memory of so many words, with this input
abbrev pub mac_machine : Assembled → ℕ → List ℕ → Machine Event MacState
mac_machine c heap input = record {
  start = Going (mac_start c heap) input [];
  step = next c;
  events = events_of;
}
