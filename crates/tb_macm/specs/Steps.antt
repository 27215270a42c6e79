-- What a call of the interpreter's step does, by what the definition's step comes to.
use Rattle.std.specs.Prelude.{◌≡◌, ℕ, ◌⊎◌, List, [], ◌∷◌, ◌++◌, Bool, true, false, Option, Some, None, IsSome, IfSome}
use Rattle.tb_prim.specs.declared.event.Event.{Event}
use Rattle.tb_prim.specs.declared.event.Event.TheVariants as E
use Rattle.tb_prim.specs.declared.event.Stop.{Stop}
use Rattle.tb_prim.specs.declared.event.Taken.{Taken}
use Rattle.tb_base.specs.Outside.{Rose}
use Rattle.tb_mac.specs.MacStep.{Mac, Outcome, Emits, TakesTo, PeeksTo, Stops, Went, with_input}
use Rattle.tb_macm.specs.declared.step.Step.{Step}

-- the byte that an event puts, if it puts one
abbrev pub byte_of : Event → Option ℕ
byte_of (E.Put b) = Some b
byte_of _ = None

-- the byte that a step puts, if it puts one
abbrev pub byte_put : Outcome → Option ℕ
byte_put (Emits e m) = byte_of e
byte_put _ = None

-- the bytes of an event that a step had
abbrev pub bytes_of : Option Event → List ℕ
bytes_of (Some (E.Put b)) = b ∷ []
bytes_of _ = []

-- a step asks the source where it takes or peeks and nothing is known of the input ahead
abbrev pub asks_ahead : Option Taken → Bool
asks_ahead None = true
asks_ahead (Some t) = false

abbrev pub asks : Mac → Outcome → Bool
asks m (TakesTo a) = asks_ahead m.ahead
asks m (PeeksTo a) = asks_ahead m.ahead
asks m _ = false

-- where bytes are told, these were added at their end
abbrev pub Adds : Option (List ℕ) → Option (List ℕ) → List ℕ → Type 0
Adds held held' bytes = IfSome held (λ bs. held' ≡ Some (bs ++ bytes))

-- where the bytes left are told, they were these, and are those now
abbrev pub Rests : Option (List ℕ) → Option (List ℕ) → List ℕ → List ℕ → Type 0
Rests left left' input input' = IfSome left (λ bs. (bs ≡ input) × (left' ≡ Some input'))

-- the bytes that a source tells
abbrev pub told : Option (List ℕ) → List ℕ
told None = []
told (Some bs) = bs

-- the definition's step, with the input that the source has
pub record Made (outcome : Outcome) (old new : Mac) (left left' : Option (List ℕ)) (e : Option Event) : Type 0 where
  pub input : List ℕ
  pub rest : List ℕ
  pub told : Rests left left' input rest
  pub step : with_input old input outcome ≡ Went e new rest

-- the step asks the source, which did not tell more and counted a fault
pub record ReadFails (old : Mac) (outcome : Outcome) (faults faults' : ℕ) (s : Stop) : Type 0 where
  pub stop : s ≡ Stop.ReadFault
  pub asks : asks old outcome ≡ true
  pub rose : Rose faults faults'

-- the step puts a byte, and the sink did not take it and counted a fault
pub record WriteFails (outcome : Outcome) (faults faults' : ℕ) (s : Stop) : Type 0 where
  pub stop : s ≡ Stop.WriteFault
  pub puts : IsSome (byte_put outcome)
  pub rose : Rose faults faults'

-- the counts of faults of the source and the sink
pub record Faults : Type 0 where
  pub read : ℕ
  pub write : ℕ

abbrev pub faults : ℕ → ℕ → Faults
faults r w = record { read = r; write = w }

-- the step was made as the definition has it, with the input of the source, and its byte was put; or it was not
-- made, for the definition's reason or for want of a source or a sink, nothing was taken or put and the state
-- stays
abbrev pub StepDoes : Outcome → Mac → Mac → Option (List ℕ) → Option (List ℕ) → Option (List ℕ) → Option (List ℕ) → Faults → Faults → Step → Type 0
StepDoes outcome old new left left' held held' f f' (Step.Went e) = Made outcome old new left left' e × Adds held held' (bytes_of e)
StepDoes outcome old new left left' held held' f f' (Step.Stopped s) =
    ((outcome ≡ Stops s) ⊎ (ReadFails old outcome f.read f'.read s ⊎ WriteFails outcome f.write f'.write s))
    × (new ≡ old) × Rests left left' (told left) (told left) × Adds held held' []
