-- The events of a run: a call is entered, its value comes back, a byte is put or taken, and last of all the
-- run ends or fails.
use Rattle.std.specs.Prelude.{◌≡◌, ℕ, suc, ◌<◌, ◌⊎◌, Bool, true, false, List, [], ◌∷◌, ◌++◌}
use Rattle.tb_prim.specs.declared.event.Event.{Event}
use Rattle.tb_semantics.specs.Runs.{run}
use Rattle.tb_core.specs.Reference.{State, Running, Stopped, Lost, events_of}

-- whether a run stops with this event
abbrev pub is_last : Event → Bool
is_last (Event.Enter l) = false
is_last Event.Back = false
is_last (Event.Put c) = false
is_last (Event.Took t) = false
is_last Event.End = true
is_last (Event.Fail c p) = true

-- a run does not stop with any of the events
abbrev pub NoneLast : List Event → Type 0
NoneLast [] = Unit {0}
NoneLast (e ∷ es) = (is_last e ≡ false) × NoneLast es

-- the events are some with which a run goes on, and then one with which it stops
pub record Ends (events : List Event) : Type 0 where
  pub front : List Event
  pub last : Event
  pub whole : events ≡ front ++ last ∷ []
  pub goes_on : NoneLast front
  pub stops : is_last last ≡ true

-- a run has stopped exactly where its last event is End or Fail, and no earlier event is one of these
abbrev pub EndsLast : State → Type 0
EndsLast (Running c es) = NoneLast es
EndsLast (Stopped c es) = Ends es
EndsLast (Lost c es) = NoneLast es

-- how many calls were entered
abbrev pub calls : List Event → ℕ
calls [] = 0
calls (Event.Enter l ∷ es) = suc (calls es)
calls (_ ∷ es) = calls es

-- a run has no next step: it has stopped, or is lost
abbrev pub IsFinal : State → Type 0
IsFinal (Running c es) = ⊥
IsFinal (Stopped c es) = Unit {0}
IsFinal (Lost c es) = Unit {0}

-- some steps after a state the run has entered one more call, or has no next step
pub record ComesToCall (step : State → State) (s : State) : Type 0 where
  pub steps : ℕ
  pub reached : IsFinal (run step steps s) ⊎ (calls (events_of s) < calls (events_of (run step steps s)))

-- a run has a next step, or has stopped
abbrev pub IsNotLost : State → Type 0
IsNotLost (Running c es) = Unit {0}
IsNotLost (Stopped c es) = Unit {0}
IsNotLost (Lost c es) = ⊥

-- a run has stopped, with End or Fail
abbrev pub HasStopped : State → Type 0
HasStopped (Running c es) = ⊥
HasStopped (Stopped c es) = Unit {0}
HasStopped (Lost c es) = ⊥
