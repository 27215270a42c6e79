-- Two states of runs that have done the same.
use Rattle.std.specs.Prelude.{◌≡◌, ℕ, List, length, Option}
use Rattle.tb_prim.specs.declared.event.Event.{Event}
use Rattle.tb_prim.specs.declared.event.Stop.{Stop}
use Rattle.tb_mac.specs.Frames.{Framed}
use Rattle.tb_mac.specs.FramedRuns.{FramedState, Runs, Stays}

-- two states of the machine at the same instruction, with the same heap, the same room and as many frames, that know as
-- much of the input
pub record StandsSame (m n : Framed) : Type 0 where
  pub pc : m.pc ≡ n.pc
  pub heap : m.heap ≡ n.heap
  pub room : length m.gap ≡ length n.gap
  pub frames : length m.frames ≡ length n.frames
  pub ahead : m.ahead ≡ n.ahead

-- both go on, or both have stopped in the same way; with the same events and the same rest of the input
pub data DoSame : FramedState → FramedState → Type 0 where
  both_run : {m n : Framed} {input : List ℕ} {es : List Event} → StandsSame m n → DoSame (Runs m input es) (Runs n input es)
  both_stay : {m n : Framed} {s : Stop} {input : List ℕ} {es : List Event} → StandsSame m n →
      DoSame (Stays m s input es) (Stays n s input es)
