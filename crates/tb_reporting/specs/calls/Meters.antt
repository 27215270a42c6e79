-- What one more step adds to a report, and what its last line leaves.
use Rattle.std.specs.Prelude.{◌≡◌, ℕ, ◌+◌, ◌%◌, ◌==◌, max, cond, List, [], ◌∷◌, map, Option, Some, None, IfSome, Result}
use Rattle.tb_prim.specs.declared.event.Event.{Event}
use Rattle.tb_prim.specs.declared.event.Stop.{Stop}
use Rattle.tb_base.specs.declared.outside.Failed.{Failed}
use Rattle.tb_base.specs.Outside.{PutsAll, PutsSome, Rose}
use Rattle.tb_lines.specs.Lines.{joined}
use Rattle.tb_macm.specs.Steps.{Adds}
use Rattle.tb_reporting.specs.Reports.{Measure, measure_line, peak}

-- how many events there are with that of one more step, if it has one
abbrev pub counted : Option Event → ℕ → ℕ
counted None events = events
counted (Some e) events = events + 1

-- what is measured behind that event
abbrev pub measured : Option Event → ℕ → ℕ → ℕ → List Measure
measured None every events words = []
measured (Some e) every events words = cond ((events + 1) % every == 0) (record { event = events + 1; words = words } ∷ []) []

-- the most words are kept, and the lines are put
pub record Counts (ms : List Measure) (top top' : ℕ) (held held' : Option (List ℕ)) (result : Result (Unit {0}) Failed) : Type 0 where
  pub most : top' ≡ max (peak ms) top
  pub put : PutsAll held held' (joined (map measure_line ms)) result

-- the bytes were put and the stop is answered; or only a front of them was, and that is answered
pub data Finishes (held held' : Option (List ℕ)) (faults faults' : ℕ) (bytes : List ℕ) (stop : Stop) : Stop → Type 0 where
  whole : Adds held held' bytes → Finishes held held' faults faults' bytes stop stop
  cut : IfSome held (λ bs. (n : ℕ) × PutsSome bs held' bytes n) → Rose faults faults' →
      Finishes held held' faults faults' bytes stop Stop.WriteFault
