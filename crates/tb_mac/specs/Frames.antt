-- The same machine with its stack as a list of frames: the words of the heap, those of the gap between the
-- pointers, and the frames, the top one first. Only `save` makes a frame, and `pop` takes exactly the top one.
use Rattle.std.specs.Prelude.{ℕ, ◌+◌, ◌-◌, ◌==◌, cond, nat_lt, ℤ, pos, negsuc, List, [], ◌∷◌, ◌++◌, take, drop, length, Option, Some, None, slice_get, slice_set}
use Rattle.tb_prim.specs.declared.event.Cause.{Cause}
use Rattle.tb_prim.specs.declared.event.Event.{Event}
use Rattle.tb_prim.specs.declared.event.Stop.{Stop}
use Rattle.tb_prim.specs.declared.event.Taken.{Taken}
use Rattle.tb_prim.specs.Primitives.{primitive_at}
use Rattle.tb_mac.specs.declared.word.Word.{Word}
use Rattle.tb_mac.specs.declared.word.Placed.{Placed}
use Rattle.tb_mac.specs.declared.word.Word.TheVariants.{Fix, Special, Char, Header, Pointer, Code, Raw}
use Rattle.tb_mac.specs.declared.code.Instr.{Instr}
use Rattle.tb_mac.specs.declared.code.Instr.TheVariants.{Proc, Args, ArgsGe, Save, SetRtn, Load, Store, Pop, Return, Invoke, Jump, Brf, Imm, Stat, Move, GlobalGet, GlobalSet, GlobalDef, Cell, CellGet, CellSet, Clo, Capt, CaptSet, Apply, End, Op0, Op1, Op2, Op3}
use Rattle.tb_mac.specs.Assembled.{Assembled}
use Rattle.tb_mac.specs.Words.{on_some, imm_word, zero_word, unspecified, is_false, is_undefined, same_word}
use Rattle.tb_mac.specs.Objects.{vector_tag, procedure_tag, cell_kind, cell_words, new_procedure}
use Rattle.tb_mac.specs.Layout.{addresses}
use Rattle.tb_mac.specs.Effects.{Effect, Gives, Makes, Changes, Puts, Takes, Peeks, Fails, NoNextStep, Heap, object_at, procedure_at, numbered, effect_0, effect_1, effect_2, effect_3}
use Rattle.tb_mac.specs.MacStep.{Mac, Outcome, Goes, Emits, TakesTo, PeeksTo, Stops, Walked, Elements, NoList, NoWord, captured_at, list_at, list_words, place_in, place_of, put_words, walk_list}

-- a frame: its return word and its slots
pub record Frame : Type 0 where
  pub back : Word
  pub slots : List Word

pub record Framed : Type 0 where
  pub pc : ℕ
  pub registers : List Word
  pub heap : List Word
  pub gap : List Word
  pub frames : List Frame
  pub ahead : Option Taken

-- the words of frames: return word, size, slots
abbrev pub flat_frames : List Frame → List Word
flat_frames [] = []
flat_frames (f ∷ fs) = f.back ∷ Fix (pos (length f.slots)) ∷ (f.slots ++ flat_frames fs)

-- the state of the flat machine
abbrev pub flat : Framed → Mac
flat m = record {
  pc = m.pc;
  registers = m.registers;
  memory = m.heap ++ (m.gap ++ flat_frames m.frames);
  heap_pointer = length m.heap;
  stack_pointer = length m.heap + length m.gap;
  ahead = m.ahead;
}

-- what an instruction comes to
pub data FramedOutcome : Type 0 where
  Continues : Framed → FramedOutcome
  Shows : Event → Framed → FramedOutcome
  AsksNext : ℕ → FramedOutcome
  AsksAhead : ℕ → FramedOutcome
  Ends : Stop → FramedOutcome

abbrev pub flat_outcome : FramedOutcome → Outcome
flat_outcome (Continues m) = Goes (flat m)
flat_outcome (Shows e m) = Emits e (flat m)
flat_outcome (AsksNext a) = TakesTo a
flat_outcome (AsksAhead a) = PeeksTo a
flat_outcome (Ends s) = Stops s

abbrev pub halts : Framed → FramedOutcome
halts m = Ends (Stop.Stuck m.pc)

abbrev pub goes_to : ℕ → Framed → Framed
goes_to x m = record m { pc = x }

abbrev pub gets : ℕ → Word → Framed → Framed
gets a w m = record m { pc = m.pc + 1; registers = slice_set m.registers a w }

abbrev pub words_of : Framed → Heap
words_of m at = slice_get m.heap at

-- a word of the heap changes, and the next instruction follows
abbrev pub holds_word : ℕ → Word → Framed → Framed
holds_word at w m = record m { pc = m.pc + 1; heap = slice_set m.heap at w }

abbrev pub of_register : Framed → ℕ → (Word → FramedOutcome) → FramedOutcome
of_register m a k = on_some (slice_get m.registers a) (halts m) k

abbrev pub fails : Assembled → Framed → Cause → FramedOutcome
fails c m cause = on_some (place_of c.places m.pc) (halts m) (λ p. Ends (Stop.Fail cause p))

-- a request for words is refused exactly where the gap has fewer
abbrev pub requests : ℕ → Framed → Framed → FramedOutcome
requests need m m' = cond (nat_lt (length m.gap) need) (Ends (Stop.Full (length m.heap) (length m.heap + length m.gap) need)) (Continues m')

-- the words of an object go from the gap to the heap
abbrev pub allots : List Word → ℕ → Word → Framed → FramedOutcome
allots ws a w m = requests (length ws) m (record m {
  pc = m.pc + 1;
  registers = slice_set m.registers a w;
  heap = m.heap ++ ws;
  gap = drop (length ws) m.gap;
})

abbrev pub makes : ℕ → List Word → ℕ → Framed → FramedOutcome
makes tag ws a m = allots ws a (Pointer tag (length m.heap)) m

-- a frame of x slots, which are the last words of the gap
abbrev pub saves : ℕ → Framed → FramedOutcome
saves x m =
    let n = length m.gap - (x + 2) in
    requests (x + 2) m (record m { pc = m.pc + 1; gap = take n m.gap; frames = record { back = zero_word; slots = drop (n + 2) m.gap } ∷ m.frames })

abbrev pub of_frame : Framed → List Frame → (Frame → List Frame → FramedOutcome) → FramedOutcome
of_frame m [] k = halts m
of_frame m (f ∷ fs) k = k f fs

abbrev pub sets_return : ℕ → Framed → FramedOutcome
sets_return x m = of_frame m m.frames (λ f fs. Continues (record m { pc = m.pc + 1; frames = record f { back = Code x } ∷ fs }))

abbrev pub loads : ℕ → ℕ → Framed → FramedOutcome
loads a x m = of_frame m m.frames (λ f fs. on_some (slice_get f.slots x) (halts m) (λ w. Continues (gets a w m)))

abbrev pub stores : ℕ → ℕ → Framed → FramedOutcome
stores a x m = of_frame m m.frames (λ f fs. cond (nat_lt x (length f.slots))
    (of_register m a (λ w. Continues (record m { pc = m.pc + 1; frames = record f { slots = slice_set f.slots x w } ∷ fs }))) (halts m))

-- the words of the frame on top, which has x slots, go back to the gap
abbrev pub pops : ℕ → Framed → FramedOutcome
pops x m = of_frame m m.frames (λ f fs. cond (length f.slots == x)
    (Continues (record m { pc = m.pc + 1; gap = m.gap ++ (f.back ∷ Fix (pos (length f.slots)) ∷ f.slots); frames = fs })) (halts m))

abbrev pub returns_to : Framed → FramedOutcome
returns_to m = of_frame m m.frames (λ f fs. on_some (place_in (Some f.back)) (halts m) (λ x. Shows Event.Back (goes_to x m)))

abbrev pub checks_args : Assembled → ℕ → Framed → FramedOutcome
checks_args c a m = of_register m 16 (λ w. cond (same_word w (Fix (pos a))) (Continues (goes_to (m.pc + 1) m)) (fails c m Cause.WrongArgs))

abbrev pub rest_of : ℕ → ℕ → Framed → FramedOutcome
rest_of a n m =
    let us = take (n - a) (drop (a + 1) m.registers) in
    allots (list_words (length m.heap) us) (a + 1) (list_at (length m.heap) us) m

abbrev pub rest_number : Assembled → ℕ → ℤ → Framed → FramedOutcome
rest_number c a (pos n) m = cond (nat_lt n a) (fails c m Cause.WrongArgs) (cond (nat_lt 12 n) (halts m) (rest_of a n m))
rest_number c a (negsuc n) m = fails c m Cause.WrongArgs

abbrev pub of_number : Word → FramedOutcome → (ℤ → FramedOutcome) → FramedOutcome
of_number (Fix n) o k = k n
of_number _ o k = o

abbrev pub checks_rest : Assembled → ℕ → Framed → FramedOutcome
checks_rest c a m = of_register m 16 (λ w. of_number w (halts m) (λ n. rest_number c a n m))

abbrev pub enters : Placed → Framed → Framed → FramedOutcome
enters o m m' = on_some (place_in (words_of m (o.at + 1))) (halts m) (λ x. Continues (goes_to x m'))

abbrev pub of_procedure : Assembled → Framed → (Placed → FramedOutcome) → FramedOutcome
of_procedure c m k = of_register m 0 (λ w. on_some (procedure_at (words_of m) w) (fails c m Cause.NotProcedure) k)

abbrev pub invokes : Assembled → ℕ → Framed → FramedOutcome
invokes c a m = of_procedure c m (λ o. enters o m (record m { registers = slice_set m.registers 16 (Fix (pos a)) }))

abbrev pub applies_to : Assembled → Placed → Framed → Walked → FramedOutcome
applies_to c o m (Elements us) = enters o m (record m { registers = slice_set (put_words 1 us m.registers) 16 (Fix (pos (length us))) })
applies_to c o m (NoList cause) = fails c m cause
applies_to c o m NoWord = halts m

abbrev pub applies : Assembled → Framed → FramedOutcome
applies c m = of_procedure c m (λ o. of_register m 1 (λ l. applies_to c o m (walk_list (words_of m) l)))

abbrev pub of_global : Framed → ℕ → (Word → FramedOutcome) → FramedOutcome
of_global m x k = on_some (words_of m x) (halts m) k

abbrev pub of_cell : Framed → ℕ → (ℕ → Word → FramedOutcome) → FramedOutcome
of_cell m b k = of_register m b (λ u. on_some (object_at (words_of m) vector_tag cell_kind u) (halts m) (λ o. on_some (words_of m (o.at + 1)) (halts m) (k (o.at + 1))))

abbrev pub of_captured : Framed → ℕ → ℕ → (ℕ → Word → FramedOutcome) → FramedOutcome
of_captured m b x k = of_register m b (λ u. on_some (captured_at (words_of m) x u) (halts m) (λ at. on_some (words_of m at) (halts m) (k at)))

-- a primitive's effect
abbrev pub carries_out : Assembled → ℕ → Framed → Effect → FramedOutcome
carries_out c a m (Gives w) = Continues (gets a w m)
carries_out c a m (Makes tag ws) = makes tag ws a m
carries_out c a m (Changes at w) = on_some (words_of m at) (halts m) (λ old. Continues (gets a unspecified (record m { heap = slice_set m.heap at w })))
carries_out c a m (Puts b) = Shows (Event.Put b) (gets a unspecified m)
carries_out c a m Takes = AsksNext a
carries_out c a m Peeks = AsksAhead a
carries_out c a m (Fails cause) = fails c m cause
carries_out c a m NoNextStep = halts m

-- what an instruction does
abbrev pub framed_perform : Assembled → Framed → Instr → FramedOutcome
framed_perform c m (Proc x) = Shows (Event.Enter x) (goes_to (m.pc + 1) m)
framed_perform c m (Args a) = checks_args c a m
framed_perform c m (ArgsGe a) = checks_rest c a m
framed_perform c m (Save x) = saves x m
framed_perform c m (SetRtn x) = sets_return x m
framed_perform c m (Load a x) = loads a x m
framed_perform c m (Store a x) = stores a x m
framed_perform c m (Pop x) = pops x m
framed_perform c m Return = returns_to m
framed_perform c m (Invoke a) = invokes c a m
framed_perform c m (Jump x) = Continues (goes_to x m)
framed_perform c m (Brf a x) = of_register m a (λ w. Continues (goes_to (cond (is_false w) x (m.pc + 1)) m))
framed_perform c m (Imm a x) = on_some (imm_word x) (halts m) (λ w. Continues (gets a w m))
framed_perform c m (Stat a tag x) = on_some (slice_get (addresses c.parts) x) (halts m) (λ at. Continues (gets a (Pointer tag at) m))
framed_perform c m (Move a b) = of_register m b (λ w. Continues (gets a w m))
framed_perform c m (GlobalGet a x) = of_global m x (λ w. cond (is_undefined w) (fails c m Cause.Undefined) (Continues (gets a w m)))
framed_perform c m (GlobalSet a x) = of_global m x (λ w. cond (is_undefined w) (fails c m Cause.Undefined) (of_register m a (λ u. Continues (holds_word x u m))))
framed_perform c m (GlobalDef a x) = of_global m x (λ w. of_register m a (λ u. Continues (holds_word x u m)))
framed_perform c m (Cell a b) = of_register m b (λ w. makes vector_tag (cell_words w) a m)
framed_perform c m (CellGet a b) = of_cell m b (λ at w. cond (is_undefined w) (fails c m Cause.Undefined) (Continues (gets a w m)))
framed_perform c m (CellSet a b) = of_cell m a (λ at w. of_register m b (λ u. Continues (holds_word at u m)))
framed_perform c m (Clo a n x) = makes procedure_tag (new_procedure n x) a m
framed_perform c m (Capt a b x) = of_captured m b x (λ at w. Continues (gets a w m))
framed_perform c m (CaptSet a b x) = of_captured m a x (λ at w. of_register m b (λ u. Continues (holds_word at u m)))
framed_perform c m Apply = applies c m
framed_perform c m End = Ends Stop.End
framed_perform c m (Op0 a x) = carries_out c a m (numbered (primitive_at x) effect_0)
framed_perform c m (Op1 a b x) = of_register m b (λ u. carries_out c a m (numbered (primitive_at x) (λ p. effect_1 (words_of m) p u)))
framed_perform c m (Op2 a b d x) = of_register m b (λ u. of_register m d (λ v. carries_out c a m (numbered (primitive_at x) (λ p. effect_2 (words_of m) p u v))))
framed_perform c m (Op3 a b d x) = of_register m a (λ u. of_register m b (λ v. of_register m d (λ w. carries_out c 16 m (numbered (primitive_at x) (λ p. effect_3 (words_of m) p u v w)))))

-- what the instruction that stands at the pc does
abbrev pub framed_fetched : Assembled → Framed → FramedOutcome
framed_fetched c m = on_some (slice_get c.code m.pc) (halts m) (framed_perform c m)
