-- Machines, and their runs as functions of the number of steps.
use Rattle.std.specs.Prelude.{◌≡◌, ℕ, zero, suc, ◌≤◌, List, ◌++◌, length}

-- a machine: where it starts, its step, and the events so far of a state. A final state steps to itself.
pub record Machine (E S : Type 0) : Type 0 where
  pub start : S
  pub step : S → S
  pub events : S → List E

-- n steps from a state
abbrev pub run : {S : Type 0} → (S → S) → ℕ → S → S
run step zero s = s
run step (suc n) s = run step n (step s)

-- the state after n steps from the start
abbrev pub after : {E S : Type 0} → Machine E S → ℕ → S
after m n = run m.step n m.start

-- the first list and then some more is the second
pub record IsPrefix {E : Type 0} (front all : List E) : Type 0 where
  pub rest : List E
  pub whole : front ++ rest ≡ all

-- each step leaves the events as they are or appends one
pub record Appends {E : Type 0} (before now : List E) : Type 0 where
  pub added : List E
  pub appended : now ≡ before ++ added
  pub few : length added ≤ 1

-- a step emits at most one event, behind those before it
abbrev pub EmitsInOrder : {E S : Type 0} → Machine E S → Type 0
EmitsInOrder {E} {S} m = (s : S) → Appends (m.events s) (m.events (m.step s))

-- the target's events at any moment are the source's at some moment, and the target comes to each of the
-- source's events
pub record KeepsEvents {E T S : Type 0} (target : Machine E T) (source : Machine E S) : Type 0 where
  pub events : (n : ℕ) → (m : ℕ) × (target.events (after target n) ≡ source.events (after source m))
  pub comes : (m : ℕ) → (n : ℕ) × (length (source.events (after source m)) ≤ length (target.events (after target n)))

-- after n steps the machine stands still, and has emitted these events
pub record Ends {E S : Type 0} (m : Machine E S) (n : ℕ) (es : List E) : Type 0 where
  pub emitted : m.events (after m n) ≡ es
  pub still : m.step (after m n) ≡ after m n
