-- Runs of the framed machine, what its states hold, and what was made.
use Rattle.std.specs.Prelude.{ℕ, zero, suc, ◌+◌, ◌-◌, Bool, true, false, List, [], ◌∷◌, ◌++◌, length, drop, replicate, Option, Some, None, slice_get, slice_set}
use Rattle.tb_prim.specs.declared.event.Event.{Event}
use Rattle.tb_prim.specs.declared.event.Stop.{Stop}
use Rattle.tb_prim.specs.declared.event.Taken.{Taken}
use Rattle.tb_semantics.specs.Graph.{total}
use Rattle.tb_semantics.specs.Keeps.{Measured, Shape}
use Rattle.tb_semantics.specs.Runs.{Machine}
use Rattle.tb_mac.specs.declared.word.Word.{Word}
use Rattle.tb_mac.specs.Assembled.{Assembled}
use Rattle.tb_mac.specs.Words.{zero_word}
use Rattle.tb_mac.specs.Layout.{globals_size, start_words}
use Rattle.tb_mac.specs.MacStep.{kept_ahead, next_taken, rest_after, taken_word}
use Rattle.tb_mac.specs.MacEvents.{MacState, Going, Halted, with_stop}
use Rattle.tb_mac.specs.Frames.{Frame, Framed, FramedOutcome, Continues, Shows, AsksNext, AsksAhead, Ends, flat, framed_fetched}
use Rattle.tb_mac.specs.LiveWords.{closure_count, data_size, object_graph, object_size}

-- the machine goes on, or stands with its stop; each with the rest of the input and the events so far
pub data FramedState : Type 0 where
  Runs : Framed → List ℕ → List Event → FramedState
  Stays : Framed → Stop → List ℕ → List Event → FramedState

abbrev pub flat_state : FramedState → MacState
flat_state (Runs m input es) = Going (flat m) input es
flat_state (Stays m s input es) = Halted (flat m) s input es

-- a register gets what was taken or peeked at
abbrev pub receives : ℕ → Taken → Option Taken → Framed → Framed
receives a t ahead m = record m { pc = m.pc + 1; registers = slice_set m.registers a (taken_word t); ahead = ahead }

abbrev pub framed_after : Framed → List ℕ → List Event → FramedOutcome → FramedState
framed_after m input es (Continues m') = Runs m' input es
framed_after m input es (Shows e m') = Runs m' input (es ++ e ∷ [])
framed_after m input es (AsksNext a) =
    let t = next_taken m.ahead input in
    Runs (receives a t (kept_ahead t) m) (rest_after m.ahead input) (es ++ Event.Took t ∷ [])
framed_after m input es (AsksAhead a) = let t = next_taken m.ahead input in Runs (receives a t (Some t) m) (rest_after m.ahead input) es
framed_after m input es (Ends s) = Stays m s input (with_stop s es)

-- one step, where this is what instructions do
abbrev pub framed_next : (Framed → FramedOutcome) → FramedState → FramedState
framed_next step (Runs m input es) = framed_after m input es (step m)
framed_next step (Stays m s input es) = Stays m s input es

abbrev pub framed_events : FramedState → List Event
framed_events (Runs m input es) = es
framed_events (Stays m s input es) = es

abbrev pub framed_of : FramedState → Framed
framed_of (Runs m input es) = m
framed_of (Stays m s input es) = m

-- before the first step, in a memory of so many words
abbrev pub framed_start : Assembled → ℕ → Framed
framed_start c heap = record {
  pc = 0;
  registers = replicate 17 zero_word;
  heap = start_words c.parts;
  gap = replicate (heap - length (start_words c.parts)) zero_word;
  frames = [];
  ahead = None;
}

abbrev pub framed_machine : Assembled → ℕ → List ℕ → Machine Event FramedState
framed_machine c heap input = record {
  start = Runs (framed_start c heap) input [];
  step = framed_next (framed_fetched c);
  events = framed_events;
}

-- frames, procedures that can be reached, and the words of globals and of other objects that can be reached
abbrev pub framed_shape : Assembled → Framed → Shape
framed_shape c m = record {
  frames = length m.frames;
  closures = total (λ a. closure_count (slice_get m.heap a)) (object_graph c m);
  words = length c.parts.globals + total (λ a. data_size (slice_get m.heap a)) (object_graph c m);
}

-- the procedures and the words of other objects that stand one behind the other, of which there are at most n
abbrev pub made_in : ℕ → List Word → ℕ
made_in zero heap = 0
made_in (suc n) [] = 0
made_in (suc n) (w ∷ heap) = closure_count (Some w) + data_size (Some w) + made_in n (drop (object_size (Some w)) (w ∷ heap))

abbrev pub framed_made : Assembled → Framed → ℕ
framed_made c m = made_in (length m.heap) (drop (globals_size c.parts) m.heap)

abbrev pub is_full_stop : Stop → Bool
is_full_stop (Stop.Full h s n) = true
is_full_stop _ = false

abbrev pub framed_full : FramedState → Bool
framed_full (Runs m input es) = false
framed_full (Stays m s input es) = is_full_stop s

abbrev pub measured_machine : Assembled → ℕ → List ℕ → Measured Event FramedState
measured_machine c heap input = record {
  machine = framed_machine c heap input;
  shape = λ s. framed_shape c (framed_of s);
  made = λ s. framed_made c (framed_of s);
  is_full = framed_full;
}
