-- What it is that a machine keeps another: the events, what is held at once, what was made, and that it goes on.
use Rattle.std.specs.Prelude.{◌≡◌, ◌≤◌, ◌⊎◌, ◌+◌, ℕ, Bool, false, IsTrue, length}
use Rattle.tb_semantics.specs.Runs.{Machine, after}

-- how much a state holds. Frames: those that wait for a procedure to come back. Closures: the procedures that can
-- be reached. Words: one for each global, and the flat sizes of all other items that are static or can be reached.
pub record Shape : Type 0 where
  pub frames : ℕ
  pub closures : ℕ
  pub words : ℕ

-- a machine whose states are measured: their shape, what was made so far (the procedures, and the words of all
-- other items), and whether the machine has stopped since its memory is full
pub record Measured (E S : Type 0) : Type 0 where
  pub machine : Machine E S
  pub shape : S → Shape
  pub made : S → ℕ
  pub is_full : S → Bool

-- a window of a run has the states with one number of events: a moment is in window j when j events were emitted
abbrev pub IsInWindow : {E S : Type 0} → Machine E S → ℕ → ℕ → Type 0
IsInWindow m j n = length (m.events (after m n)) ≡ j

-- moments of two runs are in the same window: the same events were emitted by then
abbrev pub IsSameWindow : {E T S : Type 0} → Machine E T → Machine E S → ℕ → ℕ → Type 0
IsSameWindow target source n m = target.events (after target n) ≡ source.events (after source m)

-- a shape is within another, up to some frames and closures
pub record Fits (slack : ℕ) (small large : Shape) : Type 0 where
  pub frames : small.frames ≤ large.frames + slack
  pub closures : small.closures ≤ large.closures + slack
  pub words : small.words ≤ large.words

-- the shape after n steps, what was made by then, and how many events were emitted
abbrev pub shape_at : {E S : Type 0} → Measured E S → ℕ → Shape
shape_at m n = m.shape (after m.machine n)

abbrev pub made_at : {E S : Type 0} → Measured E S → ℕ → ℕ
made_at m n = m.made (after m.machine n)

abbrev pub emitted_at : {E S : Type 0} → Measured E S → ℕ → ℕ
emitted_at m n = length (m.machine.events (after m.machine n))

-- each moment of the target has a moment of the source in the same window whose shape it fits into, and one by
-- which the source had made as much; and the target comes to each of the source's events, or is full before it
pub record Keeps {E T S : Type 0} (target : Measured E T) (source : Measured E S) (slack : ℕ) : Type 0 where
  pub windows : (n : ℕ) → (m : ℕ) × IsSameWindow target.machine source.machine n m ×
      Fits slack (shape_at target n) (shape_at source m)
  pub made : (n : ℕ) → (m : ℕ) × IsSameWindow target.machine source.machine n m ×
      (made_at target n ≤ made_at source m)
  pub comes : (m : ℕ) → (n : ℕ) ×
      (IsTrue (target.is_full (after target.machine n)) ⊎ (emitted_at source m ≤ emitted_at target n))

-- no run of the machine stops since its memory is full
abbrev pub IsNeverFull : {E S : Type 0} → Measured E S → Type 0
IsNeverFull m = (n : ℕ) → m.is_full (after m.machine n) ≡ false

-- a machine that has stopped since its memory is full stays as it is
abbrev pub IsStillWhenFull : {E S : Type 0} → Measured E S → Type 0
IsStillWhenFull {E} {S} m = (s : S) → IsTrue (m.is_full s) → m.machine.step s ≡ s
