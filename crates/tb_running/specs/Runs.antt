-- What a run of code leaves, and how it ends.
use Rattle.std.specs.Prelude.{◌≡◌, ℕ, ◌+◌, ◌<◌, ◌≤◌, ◌++◌, List, [], ◌∷◌, All, Option, Some, IfSome, IsSome, Result, Ok, Err}
use Rattle.tb_prim.specs.declared.place.Place.{Place}
use Rattle.tb_prim.specs.declared.event.Cause.{Cause}
use Rattle.tb_prim.specs.declared.event.Event.{Event}
use Rattle.tb_prim.specs.declared.event.Stop.{Stop}
use Rattle.tb_base.specs.Outside.{Rose}
use Rattle.tb_semantics.specs.Runs.{Machine, after}
use Rattle.tb_mac.specs.Assembled.{Assembled}
use Rattle.tb_mac.specs.Layout.{start_size}
use Rattle.tb_mac.specs.MacEvents.{MacState, Going, Halted, events_of, mac_machine}
use Rattle.tb_mac.specs.MacStep.{Mac, fetched}
use Rattle.tb_macm.specs.RunDoes.{IsPassing, puts}
use Rattle.tb_macm.specs.Steps.{byte_put}
use Rattle.tb_macm.specs.declared.load.LoadRefusal.{LoadRefusal}

-- what is asked of a run: the words of its memory, the most steps, and the bytes of its input
pub record Asked : Type 0 where
  pub heap : ℕ
  pub steps : ℕ
  pub input : List ℕ

-- a sink before a call and after it: the bytes held, where it tells them, and its count of faults
pub record Sunk : Type 0 where
  pub before : Option (List ℕ)
  pub now : Option (List ℕ)
  pub faults : ℕ
  pub faults_now : ℕ

-- the same of a sink's value before and after, by what its type tells of it
abbrev pub sunk : {S : Type 0} → (S → Option (List ℕ)) → (S → ℕ) → S → S → Sunk
sunk held faults old new = record { before = held old; now = held new; faults = faults old; faults_now = faults new }

-- a sink was given these bytes
abbrev pub Gained : Sunk → List ℕ → Type 0
Gained s bytes = IfSome s.before (λ held. s.now ≡ Some (held ++ bytes))

-- the machine on code, in the memory and with the input that are asked for
abbrev pub machine_of : Assembled → Asked → Machine Event MacState
machine_of c a = mac_machine c a.heap a.input

-- how a run ends that made so many steps and came to this state. No event but the last is an end or a failure. Want of
-- memory and want of a next step are the definition's own stops.
pub data EndsWith (c : Assembled) (state : MacState) (taken steps : ℕ) (out : Sunk) : Stop → Type 0 where
  -- all steps were made without another stop
  out_of_steps : {m : Mac} (rest : List ℕ) (es : List Event) → state ≡ Going m rest es → All IsPassing es → taken ≡ steps →
      EndsWith c state taken steps out Stop.Steps
  -- before a step that puts a byte, where the count of the sink rose
  not_put : {m : Mac} (rest : List ℕ) (es : List Event) → state ≡ Going m rest es → All IsPassing es → taken < steps →
      IsSome (byte_put (fetched c m)) → Rose out.faults out.faults_now → EndsWith c state taken steps out Stop.WriteFault
  ended : {m : Mac} (rest : List ℕ) (es : List Event) → state ≡ Halted m Stop.End rest (es ++ Event.End ∷ []) →
      All IsPassing es → EndsWith c state taken steps out Stop.End
  failed : {m : Mac} (rest : List ℕ) (es : List Event) (e : Cause) (p : Place) →
      state ≡ Halted m (Stop.Fail e p) rest (es ++ Event.Fail e p ∷ []) → All IsPassing es →
      EndsWith c state taken steps out (Stop.Fail e p)
  full : {m : Mac} (rest : List ℕ) (es : List Event) (h s n : ℕ) → state ≡ Halted m (Stop.Full h s n) rest es →
      All IsPassing es → EndsWith c state taken steps out (Stop.Full h s n)
  stuck : {m : Mac} (rest : List ℕ) (es : List Event) (pc : ℕ) → state ≡ Halted m (Stop.Stuck pc) rest es →
      All IsPassing es → EndsWith c state taken steps out (Stop.Stuck pc)

-- a run of code: at most so many steps of the definition's machine; the bytes added are those that its events put
pub record Runs (c : Assembled) (a : Asked) (out : Sunk) (stop : Stop) : Type 0 where
  pub taken : ℕ
  pub within : taken ≤ a.steps
  pub put : Gained out (puts (events_of (after (machine_of c a) taken)))
  pub ends : EndsWith c (after (machine_of c a) taken) taken a.steps out stop

-- the code was run; or it was not loaded, and nothing was put: its globals and static objects, of `pointer` words, do not
-- fit with 64 further words, or they do and there was no memory
abbrev pub CodeDoes : Assembled → Asked → Sunk → Result Stop LoadRefusal → Type 0
CodeDoes c a out (Ok stop) = (start_size c.parts + 64 ≤ a.heap) × Runs c a out stop
CodeDoes c a out (Err (LoadRefusal.HeapSmall pointer)) =
    (a.heap < start_size c.parts + 64) × (pointer ≡ start_size c.parts) × Gained out []
CodeDoes c a out (Err LoadRefusal.NoMemory) = (start_size c.parts + 64 ≤ a.heap) × Gained out []
