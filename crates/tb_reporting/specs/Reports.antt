-- What a report of a run says: the words that the machine holds at every so many events, and the most of these.
use Rattle.std.specs.Prelude.{◌≡◌, ℕ, zero, suc, ◌+◌, ◌%◌, ◌==◌, ◌&&◌, ◌<◌, ◌≤◌, max, nat_lt, Bool, true, false, cond, List, [], ◌∷◌, ◌++◌, length, map, take, All, Result, Ok, Err, codes, decimal}
use Rattle.tb_prim.specs.declared.place.Place.{Place}
use Rattle.tb_prim.specs.declared.event.Cause.{Cause}
use Rattle.tb_prim.specs.declared.event.Event.{Event}
use Rattle.tb_prim.specs.declared.event.Stop.{Stop}
use Rattle.tb_base.specs.Outside.{Rose}
use Rattle.tb_lines.specs.Lines.{joined}
use Rattle.tb_semantics.specs.Runs.{after}
use Rattle.tb_mac.specs.Assembled.{Assembled}
use Rattle.tb_mac.specs.Bounds.{space_bound}
use Rattle.tb_mac.specs.FramedRuns.{framed_machine, framed_of}
use Rattle.tb_mac.specs.Layout.{start_size}
use Rattle.tb_mac.specs.LiveWords.{IsWalkable, machine_words}
use Rattle.tb_mac.specs.MacEvents.{MacState, Going, Halted, events_of, mac_machine}
use Rattle.tb_mac.specs.MacStep.{Mac}
use Rattle.tb_macm.specs.RunDoes.{IsPassing}
use Rattle.tb_macm.specs.declared.load.LoadRefusal.{LoadRefusal}
use Rattle.tb_running.specs.Runs.{Gained, Sunk}

-- what is asked of a report: the words of the memory, the most steps, how many events a line is for, and the bytes of
-- the input
pub record Asked : Type 0 where
  pub heap : ℕ
  pub steps : ℕ
  pub every : ℕ
  pub input : List ℕ

-- the words that a state holds, and the number of the event before it
pub record Measure : Type 0 where
  pub event : ℕ
  pub words : ℕ

-- the state after n steps, and how many events it has
abbrev pub state_after : Assembled → Asked → ℕ → MacState
state_after c a n = after (mac_machine c a.heap a.input) n

abbrev pub emitted : Assembled → Asked → ℕ → ℕ
emitted c a n = length (events_of (state_after c a n))

-- the words that it holds
abbrev pub words_after : Assembled → Asked → ℕ → ℕ
words_after c a n = machine_words c (framed_of (after (framed_machine c a.heap a.input) n))

abbrev pub goes_on : MacState → Bool
goes_on (Going m input es) = true
goes_on (Halted m s input es) = false

-- the step that led to the state after n + 1 steps emitted an event that is no end and no failure, and the number of it
-- is a multiple of `every`
abbrev pub is_measured : Assembled → Asked → ℕ → Bool
is_measured c a n =
    goes_on (state_after c a (n + 1)) && (nat_lt (emitted c a n) (emitted c a (n + 1))
    && (emitted c a (n + 1) % a.every == 0))

-- what is measured in the first n steps, in their order
abbrev pub measures : Assembled → Asked → ℕ → List Measure
measures c a zero = []
measures c a (suc n) = measures c a n
    ++ cond (is_measured c a n) (record { event = emitted c a (n + 1); words = words_after c a (n + 1) } ∷ []) []

-- the most words that were measured, 0 where nothing was
abbrev pub peak : List Measure → ℕ
peak [] = 0
peak (m ∷ ms) = max m.words (peak ms)

-- the line of a measure: the number of the event, and the words
abbrev pub line_of : ℕ → ℕ → List ℕ
line_of event words = joined (decimal event ∷ codes " " ∷ decimal words ∷ (10 ∷ []) ∷ [])

abbrev pub measure_line : Measure → List ℕ
measure_line m = line_of m.event m.words

-- the last line: the most words that were measured, and the factor of the bound on space of the code
abbrev pub peak_of : ℕ → ℕ → List ℕ
peak_of words factor = joined (codes "peak " ∷ decimal words ∷ codes " " ∷ decimal factor ∷ (10 ∷ []) ∷ [])

abbrev pub peak_line : Assembled → List Measure → List ℕ
peak_line c ms = peak_of (peak ms) (space_bound c.code)

-- the lines of the first n steps, and the whole report where the run stopped after these
abbrev pub lines : Assembled → Asked → ℕ → List ℕ
lines c a n = joined (map measure_line (measures c a n))

abbrev pub report : Assembled → Asked → ℕ → List ℕ
report c a n = lines c a n ++ peak_line c (measures c a n)

-- how a report ends that came to this state after so many steps
pub data ReportEnds (c : Assembled) (a : Asked) (state : MacState) (taken : ℕ) (out : Sunk) : Stop → Type 0 where
  -- all steps were made without another stop
  out_of_steps : {m : Mac} (rest : List ℕ) (es : List Event) → state ≡ Going m rest es → All IsPassing es → taken ≡ a.steps →
      Gained out (report c a taken) → ReportEnds c a state taken out Stop.Steps
  -- a line was not put whole, where the count of the sink rose: what was put is a front of the report
  not_put : (n : ℕ) → Gained out (take n (report c a taken)) → Rose out.faults out.faults_now →
      ReportEnds c a state taken out Stop.WriteFault
  -- the machine's own stops
  ended : {m : Mac} (rest : List ℕ) (es : List Event) → state ≡ Halted m Stop.End rest (es ++ Event.End ∷ []) →
      All IsPassing es → Gained out (report c a taken) → ReportEnds c a state taken out Stop.End
  failed : {m : Mac} (rest : List ℕ) (es : List Event) (e : Cause) (p : Place) →
      state ≡ Halted m (Stop.Fail e p) rest (es ++ Event.Fail e p ∷ []) → All IsPassing es →
      Gained out (report c a taken) → ReportEnds c a state taken out (Stop.Fail e p)
  full : {m : Mac} (rest : List ℕ) (es : List Event) (h s n : ℕ) → state ≡ Halted m (Stop.Full h s n) rest es →
      All IsPassing es → Gained out (report c a taken) → ReportEnds c a state taken out (Stop.Full h s n)
  stuck : {m : Mac} (rest : List ℕ) (es : List Event) (pc : ℕ) → state ≡ Halted m (Stop.Stuck pc) rest es →
      All IsPassing es → Gained out (report c a taken) → ReportEnds c a state taken out (Stop.Stuck pc)

-- a report of a run: at most so many steps of the definition's machine; the program's own bytes are not put
pub record Reports (c : Assembled) (a : Asked) (out : Sunk) (stop : Stop) : Type 0 where
  pub taken : ℕ
  pub within : taken ≤ a.steps
  pub ends : ReportEnds c a (state_after c a taken) taken out stop

-- the code was run; or it was not loaded, and nothing was put: its globals and static objects, of `pointer` words, do not
-- fit with 64 further words, or they do and there was no memory for them or for the walk
abbrev pub ReportDoes : Assembled → Asked → Sunk → Result Stop LoadRefusal → Type 0
ReportDoes c a out (Ok stop) = (start_size c.parts + 64 ≤ a.heap) × Reports c a out stop
ReportDoes c a out (Err (LoadRefusal.HeapSmall pointer)) =
    (a.heap < start_size c.parts + 64) × (pointer ≡ start_size c.parts) × Gained out []
ReportDoes c a out (Err LoadRefusal.NoMemory) = (start_size c.parts + 64 ≤ a.heap) × Gained out []

-- each state of the run is one that live maps speak of
abbrev pub StaysWalkable : Assembled → Asked → Type 0
StaysWalkable c a = (n : ℕ) → IsWalkable c (framed_of (after (framed_machine c a.heap a.input) n))
