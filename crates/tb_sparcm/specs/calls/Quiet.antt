-- What the parts of a step do: those without input and output, and those with.
use Rattle.std.specs.Prelude.{◌≡◌, ◌⊎◌, ◌<◌, ℕ, List, [], Option, Some, None}
use Rattle.tb_prim.specs.declared.event.Event.{Event}
use Rattle.tb_mac.specs.Assembled.{Assembled}
use Rattle.tb_macm.specs.Steps.{Adds, Faults, Rests, byte_of, bytes_of, told}
use Rattle.tb_macm.specs.calls.Quiet.{byte_of_some}
use Rattle.tb_macm.specs.declared.step.Step.{Step}
use Rattle.tb_mac.specs.Words.{on_some}
use Rattle.tb_sparc.specs.declared.instr.Operand.{Operand}
use Rattle.tb_sparc.specs.declared.instr.Operand.TheVariants.{Reg, Imm}
use Rattle.tb_sparc.specs.SparcStep.{Sparc, Outcome, Goes, Emits, Stops, Went, event_of, with_input, with_mark}
use Rattle.std.specs.Prelude.{slice_get}
use Rattle.tb_sparcm.specs.Steps.{NotMade, ReadFails, WriteFails}

-- a second operand whose register is there
abbrev pub IsReadable : Operand → Type 0
IsReadable (Reg r) = r < 32
IsReadable (Imm n) = Unit {0}

-- a step without input and output was made as the definition has it, or was not made for the definition's
-- reason, and the state stays
abbrev pub Does : Outcome → Sparc → Sparc → Step → Type 0
Does outcome old new (Step.Went None) = outcome ≡ Goes new
Does outcome old new (Step.Went (Some e)) = (outcome ≡ Emits e new) × (byte_of e ≡ None)
Does outcome old new (Step.Stopped s) = (outcome ≡ Stops s) × (new ≡ old)

-- the step of an outcome at a state, at a group start with this event, with the input that the source has
pub record MadeAt (mark : Option Event) (outcome : Outcome) (at new : Sparc) (left left' : Option (List ℕ)) (e : Option Event) : Type 0 where
  pub input : List ℕ
  pub rest : List ℕ
  pub told : Rests left left' input rest
  pub step : with_mark mark (with_input at input outcome) ≡ Went e new rest

-- a step from a state, which is made at another
abbrev pub DoesAt : Option Event → Outcome → Sparc → Sparc → Sparc → Option (List ℕ) → Option (List ℕ) → Option (List ℕ) → Option (List ℕ) → Faults → Faults → Step → Type 0
DoesAt mark outcome at old new left left' held held' f f' (Step.Went e) = MadeAt mark outcome at new left left' e × Adds held held' (bytes_of e)
DoesAt mark outcome at old new left left' held held' f f' (Step.Stopped s) =
    NotMade outcome old f f' s × (new ≡ old) × Rests left left' (told left) (told left) × Adds held held' []

-- the event of the group that starts, if one does
abbrev pub mark_of : Assembled → Option ℕ → Option Event
mark_of c group = on_some group None (λ n. on_some (slice_get c.code n) None event_of)

-- the state in which a step is made
abbrev pub grouped : Option ℕ → Sparc → Sparc
grouped group s = record s { group = on_some group s.group (λ n. n) }

-- a step that reads
abbrev pub ReadDoes : Outcome → Sparc → Sparc → Option (List ℕ) → Option (List ℕ) → ℕ → ℕ → Step → Type 0
ReadDoes outcome old new left left' f f' (Step.Went e) = MadeAt None outcome old new left left' e × (byte_of_some e ≡ None)
ReadDoes outcome old new left left' f f' (Step.Stopped s) = ReadFails old outcome f f' s × (new ≡ old) × Rests left left' (told left) (told left)

-- a step that writes
abbrev pub WriteDoes : Outcome → Sparc → Sparc → Option (List ℕ) → Option (List ℕ) → ℕ → ℕ → Step → Type 0
WriteDoes outcome old new held held' f f' (Step.Went None) = ⊥
WriteDoes outcome old new held held' f f' (Step.Went (Some e)) = (outcome ≡ Emits e new) × Adds held held' (bytes_of (Some e))
WriteDoes outcome old new held held' f f' (Step.Stopped s) = WriteFails outcome f f' s × (new ≡ old) × Adds held held' []

-- a step that may write: it did, or it was made without output
abbrev pub OutputDoes : Outcome → Sparc → Sparc → Option (List ℕ) → Option (List ℕ) → ℕ → ℕ → Step → Type 0
OutputDoes outcome old new held held' f f' r = WriteDoes outcome old new held held' f f' r ⊎ (Does outcome old new r × (held' ≡ held))
