-- What the parts of a step do: those without input and output, and those with.
use Rattle.std.specs.Prelude.{◌≡◌, ◌⊎◌, ◌<◌, ◌≤◌, ℕ, List, [], take, Option, Some, None, Result, Ok, Err}
use Rattle.tb_prim.specs.declared.event.Event.{Event}
use Rattle.tb_prim.specs.declared.event.Taken.{Taken}
use Rattle.tb_base.specs.Outside.{Rose}
use Rattle.tb_base.specs.declared.outside.Failed.{Failed}
use Rattle.tb_mac.specs.declared.word.Word.{Word}
use Rattle.tb_mac.specs.Effects.{Effect, Gives, Makes, Changes, Fails, NoNextStep}
use Rattle.tb_mac.specs.MacStep.{Mac, Outcome, Goes, Emits, Stops, Walked, Elements, NoList, NoWord, next_taken, rest_after}
use Rattle.tb_mac.specs.Objects.{pair_tag, vector_tag, string_tag, pair_words, new_vector, new_string}
use Rattle.tb_macm.specs.declared.answer.Answer.{Answer}
use Rattle.tb_macm.specs.declared.answer.Answer.TheVariants as A
use Rattle.tb_macm.specs.declared.answer.Walk.{Walk}
use Rattle.tb_macm.specs.declared.answer.Walk.TheVariants as W
use Rattle.tb_macm.specs.declared.step.Step.{Step}
use Rattle.tb_macm.specs.Steps.{byte_of, bytes_of, Adds, Made, ReadFails, WriteFails, Rests, told}

-- a step without input and output was made as the definition has it, or was not made for the definition's
-- reason, and the state stays
abbrev pub Does : Outcome → Mac → Mac → Step → Type 0
Does outcome old new (Step.Went None) = outcome ≡ Goes new
Does outcome old new (Step.Went (Some e)) = (outcome ≡ Emits e new) × (byte_of e ≡ None)
Does outcome old new (Step.Stopped s) = (outcome ≡ Stops s) × (new ≡ old)

-- what comes next in the input
pub record Next (left left' : Option (List ℕ)) (ahead : Option Taken) (t : Taken) : Type 0 where
  pub input : List ℕ
  pub rest : List ℕ
  pub told : Rests left left' input rest
  pub taken : t ≡ next_taken ahead input
  pub behind : rest ≡ rest_after ahead input

-- what comes next was found, or the source could not tell and counted a fault
abbrev pub Finds : Option (List ℕ) → Option (List ℕ) → ℕ → ℕ → Option Taken → Result Taken Failed → Type 0
Finds left left' f f' ahead (Ok t) = Next left left' ahead t
Finds left left' f f' ahead (Err e) = (ahead ≡ None) × Rose f f' × Rests left left' (told left) (told left)

-- the byte that an event puts, if there is an event and it puts one
abbrev pub byte_of_some : Option Event → Option ℕ
byte_of_some None = None
byte_of_some (Some e) = byte_of e

-- a step that reads
abbrev pub ReadDoes : Outcome → Mac → Mac → Option (List ℕ) → Option (List ℕ) → ℕ → ℕ → Step → Type 0
ReadDoes outcome old new left left' f f' (Step.Went e) = Made outcome old new left left' e × (byte_of_some e ≡ None)
ReadDoes outcome old new left left' f f' (Step.Stopped s) = ReadFails old outcome f f' s × (new ≡ old) × Rests left left' (told left) (told left)

-- a step that writes
abbrev pub WriteDoes : Outcome → Mac → Mac → Option (List ℕ) → Option (List ℕ) → ℕ → ℕ → Step → Type 0
WriteDoes outcome old new held held' f f' (Step.Went None) = ⊥
WriteDoes outcome old new held held' f f' (Step.Went (Some e)) = (outcome ≡ Emits e new) × Adds held held' (bytes_of (Some e))
WriteDoes outcome old new held held' f f' (Step.Stopped s) = WriteFails outcome f f' s × (new ≡ old) × Adds held held' []

-- a step that may read: it did, or it was made without input
abbrev pub InputDoes : Outcome → Mac → Mac → Option (List ℕ) → Option (List ℕ) → ℕ → ℕ → Step → Type 0
InputDoes outcome old new left left' f f' r = ReadDoes outcome old new left left' f f' r ⊎ (Does outcome old new r × (left' ≡ left))

-- a step that may write: it did, or it was made without output
abbrev pub OutputDoes : Outcome → Mac → Mac → Option (List ℕ) → Option (List ℕ) → ℕ → ℕ → Step → Type 0
OutputDoes outcome old new held held' f f' r = WriteDoes outcome old new held held' f f' r ⊎ (Does outcome old new r × (held' ≡ held))

-- the effect of an answer
abbrev pub effect_of : Answer → Effect
effect_of (A.Gives w) = Gives w
effect_of (A.Pair u v) = Makes pair_tag (pair_words u v)
effect_of (A.Vector n) = Makes vector_tag (new_vector n)
effect_of (A.Text n) = Makes string_tag (new_string n)
effect_of (A.Changes at w) = Changes at w
effect_of (A.Fails cause) = Fails cause
effect_of A.NoNextStep = NoNextStep

-- an answer that changes a word changes one of the heap, and one that makes an object is in its range
abbrev pub IsWithin : ℕ → Answer → Type 0
IsWithin pointer (A.Changes at w) = at < pointer
IsWithin pointer (A.Vector n) = n < 16777216
IsWithin pointer (A.Text n) = n < 16777216
IsWithin pointer _ = Unit {0}

-- what a walk came to, with the words that it left
abbrev pub walked_of : Walk → List Word → Walked
walked_of (W.Elements n) us = Elements (take n us)
walked_of (W.NoList cause) us = NoList cause
walked_of W.NoWord us = NoWord

-- a walk finds at most twelve elements
abbrev pub IsShort : Walk → Type 0
IsShort (W.Elements n) = n ≤ 12
IsShort _ = Unit {0}
