-- How a run of the code of a program stops, and what is promised of it.
use Rattle.std.specs.Prelude.{◌≡◌, ℕ, suc, ◌+◌, ◌*◌, ◌≤◌, List, [], ◌∷◌, ◌++◌, length, All}
use Rattle.tb_prim.specs.declared.place.Place.{Place}
use Rattle.tb_prim.specs.declared.event.Cause.{Cause}
use Rattle.tb_prim.specs.declared.event.Event.{Event}
use Rattle.tb_prim.specs.declared.event.Stop.{Stop}
use Rattle.tb_semantics.specs.Runs.{Machine, after, Ends}
use Rattle.tb_core.specs.Reference as ref
use Rattle.tb_core.specs.Tree.{ProgramTree}
use Rattle.tb_core.specs.Width.{square_sum}
use Rattle.tb_mac.specs.MacEvents as mac
use Rattle.tb_mac.specs.MacEvents.{MacState, Going, Halted}
use Rattle.tb_mac.specs.MacStep.{Mac}
use Rattle.tb_macm.specs.RunDoes.{IsPassing}
use Rattle.tb_twobit.specs.Words.{Go}
use Rattle.tb_twobit.specs.Sinks.{Sunk, Gained, Said}
use Rattle.tb_twobit.specs.SpaceSafe.{HasNarrowFactor, IsSmallMemory, IsSpaceSafe, code_machine, reference_of}
use Rattle.tb_twobit.specs.Statuses.{failed_line, full_line}

-- the machine on the code of a program, in a memory of the heap's words
abbrev pub machine_of : Go → ProgramTree → List ℕ → Machine Event MacState
machine_of go p input = code_machine p go.heap input

-- how a run stops, with its status: `taken` steps were made and led to `state`. No event but the last is an end or a
-- failure. The machine is never without a next step.
pub data Stops (state : MacState) (taken steps : ℕ) (diag : Sunk) : ℕ → Type 0 where
  -- status 0 where the events end with End
  ended : {m : Mac} (rest : List ℕ) (front : List Event) → state ≡ Halted m Stop.End rest (front ++ Event.End ∷ []) →
      All IsPassing front → Gained diag [] → Stops state taken steps diag 0
  -- status 6 where the events end with Fail, of this cause and place
  failed : {m : Mac} (rest : List ℕ) (front : List Event) (c : Cause) (q : Place) →
      state ≡ Halted m (Stop.Fail c q) rest (front ++ Event.Fail c q ∷ []) → All IsPassing front →
      Said diag (failed_line c q) → Stops state taken steps diag 6
  -- status 7 where the next request does not fit
  full : {m : Mac} (rest : List ℕ) (es : List Event) (pointer stack need : ℕ) →
      state ≡ Halted m (Stop.Full pointer stack need) rest es → All IsPassing es →
      Said diag (full_line pointer stack need) → Stops state taken steps diag 7
  -- status 8 where the steps were made without another stop
  out_of_steps : {m : Mac} (rest : List ℕ) (es : List Event) → state ≡ Going m rest es → All IsPassing es → taken ≡ steps →
      Gained diag [] → Stops state taken steps diag 8

-- so many steps are always enough: where the reference emits a list of j + 1 events and then stands still, a run
-- that may make (8 * Q + 10) * (j + 1) steps does not end for want of steps, with Q the sum of the squared widths
abbrev pub NeedsNoMore : ProgramTree → List ℕ → ℕ → ℕ → Type 0
NeedsNoMore p input steps status =
    (j n : ℕ) (es : List Event) → Ends (reference_of p input) n es → length es ≡ suc j →
    (8 * square_sum p + 10) * suc j ≤ steps → status ≡ 8 → ⊥

-- what is promised of a run that made so many steps, and of its status: at most as many as are allowed; its events are
-- the reference's at some moment; each of its states holds at most K * S + K words, where the reference has space S at a
-- moment with the same events; and memory is full only where it is small beside what that holds and has made
pub record IsPromised (go : Go) (p : ProgramTree) (input : List ℕ) (taken status : ℕ) : Type 0 where
  pub within : taken ≤ go.steps
  pub moment : ℕ
  pub like_reference : mac.events_of (after (machine_of go p input) taken)
      ≡ ref.events_of (after (reference_of p input) moment)
  pub needs_no_more : NeedsNoMore p input go.steps status
  pub narrow : HasNarrowFactor p
  pub space_safe : (n : ℕ) → n ≤ taken → IsSpaceSafe p go.heap input n
  pub small_where_full : status ≡ 7 → IsSmallMemory p go.heap input (mac.events_of (after (machine_of go p input) taken))

-- a machine is not without a next step, where no event is an end or a failure
abbrev pub IsNeverStuck : MacState → Type 0
IsNeverStuck state =
    (m : Mac) (pc : ℕ) (rest : List ℕ) (es : List Event) → state ≡ Halted m (Stop.Stuck pc) rest es → All IsPassing es → ⊥
