-- What a call of the interpreter's step does, by what the definition's step comes to.
use Rattle.std.specs.Prelude.{◌≡◌, ◌⊎◌, ℕ, List, [], Bool, true, false, Option, None, IsSome}
use Rattle.tb_prim.specs.declared.event.Event.{Event}
use Rattle.tb_prim.specs.declared.event.Stop.{Stop}
use Rattle.tb_base.specs.Outside.{Rose}
use Rattle.tb_mac.specs.Assembled.{Assembled}
use Rattle.tb_macm.specs.Steps.{Adds, Faults, Rests, asks_ahead, byte_of, bytes_of, told}
use Rattle.tb_macm.specs.declared.step.Step.{Step}
use Rattle.tb_sparc.specs.Grouped.{Grouped}
use Rattle.tb_sparc.specs.SparcStep.{Sparc, Outcome, Emits, Takes, Peeks, Stops, Went, fetched, sparc_step}

-- the byte that a step puts, if it puts one
abbrev pub byte_put : Outcome → Option ℕ
byte_put (Emits e s) = byte_of e
byte_put _ = None

-- a step asks the source where it takes or peeks and nothing is known of the input ahead
abbrev pub asks : Sparc → Outcome → Bool
asks s Takes = asks_ahead s.ahead
asks s Peeks = asks_ahead s.ahead
asks s _ = false

-- the definition's step, with the input that the source has
pub record Made (c : Assembled) (g : Grouped) (old new : Sparc) (left left' : Option (List ℕ)) (e : Option Event) : Type 0 where
  pub input : List ℕ
  pub rest : List ℕ
  pub told : Rests left left' input rest
  pub step : sparc_step c g old input ≡ Went e new rest

-- the step asks the source, which did not tell more and counted a fault
pub record ReadFails (old : Sparc) (outcome : Outcome) (faults faults' : ℕ) (s : Stop) : Type 0 where
  pub stop : s ≡ Stop.ReadFault
  pub asks : asks old outcome ≡ true
  pub rose : Rose faults faults'

-- the step puts a byte, and the sink did not take it and counted a fault
pub record WriteFails (outcome : Outcome) (faults faults' : ℕ) (s : Stop) : Type 0 where
  pub stop : s ≡ Stop.WriteFault
  pub puts : IsSome (byte_put outcome)
  pub rose : Rose faults faults'

-- why a step was not made: the definition has none, or there is no source or no sink
abbrev pub NotMade : Outcome → Sparc → Faults → Faults → Stop → Type 0
NotMade outcome old f f' s = (outcome ≡ Stops s) ⊎ (ReadFails old outcome f.read f'.read s ⊎ WriteFails outcome f.write f'.write s)

-- the step was made as the definition has it, with the input of the source, and its byte was put; or it was not
-- made, nothing was taken or put and the state stays
abbrev pub StepDoes : Assembled → Grouped → Sparc → Sparc → Option (List ℕ) → Option (List ℕ) → Option (List ℕ) → Option (List ℕ) → Faults → Faults → Step → Type 0
StepDoes c g old new left left' held held' f f' (Step.Went e) = Made c g old new left left' e × Adds held held' (bytes_of e)
StepDoes c g old new left left' held held' f f' (Step.Stopped s) =
    NotMade (fetched c g old) old f f' s × (new ≡ old) × Rests left left' (told left) (told left) × Adds held held' []
