-- The MAC machine: its states, and the step from one to the next.
use Rattle.std.specs.Prelude.{ℕ, zero, suc, ◌+◌, ◌-◌, ◌==◌, ◌≤◌, Bool, true, false, cond, nat_lt, nat_le, ℤ, pos, negsuc, List, [], ◌∷◌, take, drop, length, Option, Some, None, slice_get, slice_set, option_map, find}
use Rattle.tb_prim.specs.declared.place.Place.{Place}
use Rattle.tb_prim.specs.declared.event.Cause.{Cause}
use Rattle.tb_prim.specs.declared.event.Event.{Event}
use Rattle.tb_prim.specs.declared.event.Stop.{Stop}
use Rattle.tb_prim.specs.declared.event.Taken.{Taken}
use Rattle.tb_mac.specs.declared.word.Word.{Word}
use Rattle.tb_mac.specs.declared.word.Placed.{Placed}
use Rattle.tb_mac.specs.declared.word.Word.TheVariants.{Fix, Special, Char, Header, Pointer, Code, Raw}
use Rattle.tb_mac.specs.declared.code.Instr.{Instr}
use Rattle.tb_mac.specs.declared.code.Instr.TheVariants.{Proc, Args, ArgsGe, Save, SetRtn, Load, Store, Pop, Return, Invoke, Jump, Brf, Imm, Stat, Move, GlobalGet, GlobalSet, GlobalDef, Cell, CellGet, CellSet, Clo, Capt, CaptSet, Apply, End, Op0, Op1, Op2, Op3}
use Rattle.tb_mac.specs.declared.code.PlaceEntry.{PlaceEntry}
use Rattle.tb_mac.specs.Assembled.{Assembled}
use Rattle.tb_mac.specs.Words.{on_some, imm_word, zero_word, empty_list, unspecified, end_object, is_false, is_undefined, same_word}
use Rattle.tb_prim.specs.Primitives.{primitive_at}
use Rattle.tb_mac.specs.Objects.{pair_tag, vector_tag, procedure_tag, cell_kind, cell_words, new_procedure}
use Rattle.tb_mac.specs.Layout.{addresses}
use Rattle.tb_mac.specs.Effects.{Effect, Gives, Makes, Changes, Puts, Takes, Peeks, Fails, NoNextStep, Heap, pair_at, object_at, procedure_at, numbered, effect_0, effect_1, effect_2, effect_3}

-- a state: the number of the next instruction, the 17 registers, the words of the heap and the stack, the two
-- word numbers between which no word is in use, and what is known of the input ahead: nothing, one byte that
-- was peeked, or that the end was met
pub record Mac : Type 0 where
  pub pc : ℕ
  pub registers : List Word
  pub memory : List Word
  pub heap_pointer : ℕ
  pub stack_pointer : ℕ
  pub ahead : Option Taken

-- what an instruction comes to: the next state, with an event or none; a register that gets what the input has
-- next, which is taken or only peeked at; or no next state and why
pub data Outcome : Type 0 where
  Goes : Mac → Outcome
  Emits : Event → Mac → Outcome
  TakesTo : ℕ → Outcome
  PeeksTo : ℕ → Outcome
  Stops : Stop → Outcome

-- there is no next step
abbrev pub stuck : Mac → Outcome
stuck m = Stops (Stop.Stuck m.pc)

-- the machine goes on at another instruction
abbrev pub jump_to : ℕ → Mac → Mac
jump_to x m = record m { pc = x }

-- a register gets a word, and the next instruction follows
abbrev pub set_register : ℕ → Word → Mac → Mac
set_register a w m = record m { pc = m.pc + 1; registers = slice_set m.registers a w }

-- a word of the memory changes, and the next instruction follows
abbrev pub set_word : ℕ → Word → Mac → Mac
set_word at w m = record m { pc = m.pc + 1; memory = slice_set m.memory at w }

-- words that follow one another from one on
abbrev pub put_words : ℕ → List Word → List Word → List Word
put_words at [] memory = memory
put_words at (w ∷ ws) memory = put_words (at + 1) ws (slice_set memory at w)

-- the words of the heap
abbrev pub heap_of : Mac → Heap
heap_of m at = cond (nat_lt at m.heap_pointer) (slice_get m.memory at) None

-- a register, which is there
abbrev pub with_register : Mac → ℕ → (Word → Outcome) → Outcome
with_register m a k = on_some (slice_get m.registers a) (stuck m) k

-- the place of an instruction
abbrev pub place_of : List PlaceEntry → ℕ → Option Place
place_of places n = option_map (λ e. e.place) (find (λ e. e.instr == n) places)

-- the machine fails at the instruction's place
abbrev pub fail : Assembled → Mac → Cause → Outcome
fail c m cause = on_some (place_of c.places m.pc) (stuck m) (λ p. Stops (Stop.Fail cause p))

-- a request for words is refused exactly where they do not fit between the two pointers
abbrev pub request : ℕ → Mac → Mac → Outcome
request need m m' = cond (nat_lt (m.stack_pointer - m.heap_pointer) need) (Stops (Stop.Full m.heap_pointer m.stack_pointer need)) (Goes m')

-- words at the heap pointer, which moves behind them, and a register that gets a word
abbrev pub allocate : List Word → ℕ → Word → Mac → Mac
allocate ws a w m = record m {
  pc = m.pc + 1;
  registers = slice_set m.registers a w;
  memory = put_words m.heap_pointer ws m.memory;
  heap_pointer = m.heap_pointer + length ws;
}

-- a new object of these words; a register gets the pointer to it
abbrev pub make : ℕ → List Word → ℕ → Mac → Outcome
make tag ws a m = request (length ws) m (allocate ws a (Pointer tag m.heap_pointer) m)

-- the frame on top has its return word at the stack pointer, behind it a fixnum with the number of its slots,
-- and then the slots
abbrev pub size_in : Option Word → Option ℕ
size_in (Some (Fix (pos n))) = Some n
size_in _ = None

-- the size of the frame on top, where all its words are there
abbrev pub top_size : Mac → Option ℕ
top_size m = on_some (size_in (slice_get m.memory (m.stack_pointer + 1))) None (λ n. cond (nat_le (m.stack_pointer + 2 + n) (length m.memory)) (Some n) None)

-- something done with the frame on top, by its size
abbrev pub with_frame : Mac → (ℕ → Outcome) → Outcome
with_frame m k = on_some (top_size m) (stuck m) k

-- the word number of slot x of the frame on top, where that has such a slot
abbrev pub slot_at : Mac → ℕ → Option ℕ
slot_at m x = on_some (top_size m) None (λ n. cond (nat_lt x n) (Some (m.stack_pointer + 2 + x)) None)

abbrev pub with_slot : Mac → ℕ → (ℕ → Outcome) → Outcome
with_slot m x k = on_some (slot_at m x) (stuck m) k

-- the instruction of a code place
abbrev pub place_in : Option Word → Option ℕ
place_in (Some (Code i)) = Some i
place_in _ = None

-- a frame of x slots lies on top: return word 0, its size, and the slots as they were
abbrev pub push_frame : ℕ → Mac → Mac
push_frame x m = let sp = m.stack_pointer - (x + 2) in record m {
  pc = m.pc + 1;
  memory = slice_set (slice_set m.memory sp zero_word) (sp + 1) (Fix (pos x));
  stack_pointer = sp;
}

abbrev pub save : ℕ → Mac → Outcome
save x m = request (x + 2) m (push_frame x m)

-- the return word of the frame on top
abbrev pub set_return : ℕ → Mac → Outcome
set_return x m = with_frame m (λ n. Goes (set_word m.stack_pointer (Code x) m))

abbrev pub load : ℕ → ℕ → Mac → Outcome
load a x m = with_slot m x (λ at. on_some (slice_get m.memory at) (stuck m) (λ w. Goes (set_register a w m)))

abbrev pub store : ℕ → ℕ → Mac → Outcome
store a x m = with_slot m x (λ at. with_register m a (λ w. Goes (set_word at w m)))

-- the frame on top, which has x slots, is taken away
abbrev pub pop : ℕ → Mac → Outcome
pop x m = with_frame m (λ n. cond (n == x) (Goes (record m { pc = m.pc + 1; stack_pointer = m.stack_pointer + 2 + n })) (stuck m))

-- the machine goes on at the return word of the frame on top
abbrev pub return : Mac → Outcome
return m = with_frame m (λ n. on_some (place_in (slice_get m.memory m.stack_pointer)) (stuck m) (λ x. Emits Event.Back (jump_to x m)))

-- RESULT is the fixnum a
abbrev pub args : Assembled → ℕ → Mac → Outcome
args c a m = with_register m 16 (λ w. cond (same_word w (Fix (pos a))) (Goes (jump_to (m.pc + 1) m)) (fail c m Cause.WrongArgs))

-- the list of words, whose pairs stand one behind the other from a word on
abbrev pub list_at : ℕ → List Word → Word
list_at at [] = empty_list
list_at at (u ∷ us) = Pointer pair_tag at

abbrev pub list_words : ℕ → List Word → List Word
list_words at [] = []
list_words at (u ∷ us) = u ∷ list_at (at + 2) us ∷ list_words (at + 2) us

-- the list of the operands from number a + 1 to n
abbrev pub rest_list : ℕ → ℕ → Mac → Outcome
rest_list a n m =
    let us = take (n - a) (drop (a + 1) m.registers) in
    let ws = list_words m.heap_pointer us in
    request (length ws) m (allocate ws (a + 1) (list_at m.heap_pointer us) m)

-- a number of operands below a fails, one above 12 leaves no next step
abbrev pub rest_args : Assembled → ℕ → ℤ → Mac → Outcome
rest_args c a (pos n) m = cond (nat_lt n a) (fail c m Cause.WrongArgs) (cond (nat_lt 12 n) (stuck m) (rest_list a n m))
rest_args c a (negsuc n) m = fail c m Cause.WrongArgs

abbrev pub on_fixnum : Word → Outcome → (ℤ → Outcome) → Outcome
on_fixnum (Fix n) o k = k n
on_fixnum _ o k = o

abbrev pub args_ge : Assembled → ℕ → Mac → Outcome
args_ge c a m = with_register m 16 (λ w. on_fixnum w (stuck m) (λ n. rest_args c a n m))

-- operands in the registers from 1 on, and their number in RESULT
abbrev pub set_operands : List Word → Mac → Mac
set_operands us m = record m { registers = slice_set (put_words 1 us m.registers) 16 (Fix (pos (length us))) }

-- a procedure is entered at its code place, which stands behind its header
abbrev pub enter : Placed → Mac → Mac → Outcome
enter o m m' = on_some (place_in (heap_of m (o.at + 1))) (stuck m) (λ x. Goes (jump_to x m'))

abbrev pub with_procedure : Assembled → Mac → (Placed → Outcome) → Outcome
with_procedure c m k = with_register m 0 (λ w. on_some (procedure_at (heap_of m) w) (fail c m Cause.NotProcedure) k)

abbrev pub invoke : Assembled → ℕ → Mac → Outcome
invoke c a m = with_procedure c m (λ o. enter o m (record m { registers = slice_set m.registers 16 (Fix (pos a)) }))

-- what the walk of a list comes to: its elements, a failure, or a word of the heap that is not there
pub data Walked : Type 0 where
  Elements : List Word → Walked
  NoList : Cause → Walked
  NoWord : Walked

abbrev pub with_element : Word → Walked → Walked
with_element w (Elements ws) = Elements (w ∷ ws)
with_element w (NoList cause) = NoList cause
with_element w NoWord = NoWord

abbrev pub ends_list : Word → Walked
ends_list w = cond (same_word w empty_list) (Elements []) (NoList Cause.WrongType)

-- the walk of a list that may have so many more elements; a further pair is one too many
abbrev pub walked : Heap → ℕ → Word → Walked
walked heap zero w = on_some (pair_at w) (ends_list w) (λ a. NoList Cause.TooMany)
walked heap (suc n) w = on_some (pair_at w) (ends_list w) (λ a. on_some (heap a) NoWord (λ u. on_some (heap (a + 1)) NoWord (λ v. with_element u (walked heap n v))))

-- the walk of a list of at most twelve elements
unfoldable pub walk_list : Heap → Word → Walked
walk_list heap w = walked heap 12 w

abbrev pub apply_to : Assembled → Placed → Mac → Walked → Outcome
apply_to c o m (Elements us) = enter o m (set_operands us m)
apply_to c o m (NoList cause) = fail c m cause
apply_to c o m NoWord = stuck m

-- the procedure in register 0 is entered with the elements of the list in register 1, at most twelve
abbrev pub apply : Assembled → Mac → Outcome
apply c m = with_procedure c m (λ o. with_register m 1 (λ l. apply_to c o m (walk_list (heap_of m) l)))

-- the machine goes on at x where the register is false
abbrev pub branch : ℕ → ℕ → Mac → Outcome
branch a x m = with_register m a (λ w. Goes (jump_to (cond (is_false w) x (m.pc + 1)) m))

-- a register gets the word that these bits stand for
abbrev pub immediate : ℕ → ℕ → Mac → Outcome
immediate a x m = on_some (imm_word x) (stuck m) (λ w. Goes (set_register a w m))

-- a register gets the pointer to a static object
abbrev pub static : Assembled → ℕ → ℕ → ℕ → Mac → Outcome
static c a tag x m = on_some (slice_get (addresses c.parts) x) (stuck m) (λ at. Goes (set_register a (Pointer tag at) m))

abbrev pub copy : ℕ → ℕ → Mac → Outcome
copy a b m = with_register m b (λ w. Goes (set_register a w m))

-- a global that holds Undefined cannot be read or assigned; its definition can
abbrev pub with_global : Mac → ℕ → (Word → Outcome) → Outcome
with_global m x k = on_some (heap_of m x) (stuck m) k

abbrev pub global_get : Assembled → ℕ → ℕ → Mac → Outcome
global_get c a x m = with_global m x (λ w. cond (is_undefined w) (fail c m Cause.Undefined) (Goes (set_register a w m)))

abbrev pub global_set : Assembled → ℕ → ℕ → Mac → Outcome
global_set c a x m = with_global m x (λ w. cond (is_undefined w) (fail c m Cause.Undefined) (with_register m a (λ u. Goes (set_word x u m))))

abbrev pub global_def : ℕ → ℕ → Mac → Outcome
global_def a x m = with_global m x (λ w. with_register m a (λ u. Goes (set_word x u m)))

abbrev pub new_cell : ℕ → ℕ → Mac → Outcome
new_cell a b m = with_register m b (λ w. make vector_tag (cell_words w) a m)

-- the cell in a register; its value stands behind its header
abbrev pub with_cell : Mac → ℕ → (ℕ → Word → Outcome) → Outcome
with_cell m b k = with_register m b (λ u. on_some (object_at (heap_of m) vector_tag cell_kind u) (stuck m) (λ o. on_some (heap_of m (o.at + 1)) (stuck m) (k (o.at + 1))))

abbrev pub cell_get : Assembled → ℕ → ℕ → Mac → Outcome
cell_get c a b m = with_cell m b (λ at w. cond (is_undefined w) (fail c m Cause.Undefined) (Goes (set_register a w m)))

abbrev pub cell_set : ℕ → ℕ → Mac → Outcome
cell_set a b m = with_cell m a (λ at w. with_register m b (λ u. Goes (set_word at u m)))

-- where captured word x of a procedure stands
abbrev pub captured_at : Heap → ℕ → Word → Option ℕ
captured_at heap x u = on_some (procedure_at heap u) None (λ o. cond (nat_lt x o.size) (Some (o.at + 2 + x)) None)

-- captured word x of the procedure in a register
abbrev pub with_captured : Mac → ℕ → ℕ → (ℕ → Word → Outcome) → Outcome
with_captured m b x k = with_register m b (λ u. on_some (captured_at (heap_of m) x u) (stuck m) (λ at. on_some (heap_of m at) (stuck m) (k at)))

abbrev pub captured : ℕ → ℕ → ℕ → Mac → Outcome
captured a b x m = with_captured m b x (λ at w. Goes (set_register a w m))

abbrev pub set_captured : ℕ → ℕ → ℕ → Mac → Outcome
set_captured a b x m = with_captured m a x (λ at w. with_register m b (λ u. Goes (set_word at u m)))

-- a primitive's effect is carried out; a register gets what it gives
abbrev pub carry_out : Assembled → ℕ → Mac → Effect → Outcome
carry_out c a m (Gives w) = Goes (set_register a w m)
carry_out c a m (Makes tag ws) = make tag ws a m
carry_out c a m (Changes at w) = on_some (heap_of m at) (stuck m) (λ old. Goes (set_register a unspecified (record m { memory = slice_set m.memory at w })))
carry_out c a m (Puts b) = Emits (Event.Put b) (set_register a unspecified m)
carry_out c a m Takes = TakesTo a
carry_out c a m Peeks = PeeksTo a
carry_out c a m (Fails cause) = fail c m cause
carry_out c a m NoNextStep = stuck m

abbrev pub apply_0 : Assembled → ℕ → ℕ → Mac → Outcome
apply_0 c a x m = carry_out c a m (numbered (primitive_at x) effect_0)

abbrev pub apply_1 : Assembled → ℕ → ℕ → ℕ → Mac → Outcome
apply_1 c a b x m = with_register m b (λ u. carry_out c a m (numbered (primitive_at x) (λ p. effect_1 (heap_of m) p u)))

abbrev pub apply_2 : Assembled → ℕ → ℕ → ℕ → ℕ → Mac → Outcome
apply_2 c a b d x m = with_register m b (λ u. with_register m d (λ v. carry_out c a m (numbered (primitive_at x) (λ p. effect_2 (heap_of m) p u v))))

-- RESULT becomes the unspecified value
abbrev pub apply_3 : Assembled → ℕ → ℕ → ℕ → ℕ → Mac → Outcome
apply_3 c a b d x m = with_register m a (λ u. with_register m b (λ v. with_register m d (λ w. carry_out c 16 m (numbered (primitive_at x) (λ p. effect_3 (heap_of m) p u v w)))))

-- what an instruction does
abbrev pub perform : Assembled → Mac → Instr → Outcome
perform c m (Proc x) = Emits (Event.Enter x) (jump_to (m.pc + 1) m)
perform c m (Args a) = args c a m
perform c m (ArgsGe a) = args_ge c a m
perform c m (Save x) = save x m
perform c m (SetRtn x) = set_return x m
perform c m (Load a x) = load a x m
perform c m (Store a x) = store a x m
perform c m (Pop x) = pop x m
perform c m Return = return m
perform c m (Invoke a) = invoke c a m
perform c m (Jump x) = Goes (jump_to x m)
perform c m (Brf a x) = branch a x m
perform c m (Imm a x) = immediate a x m
perform c m (Stat a tag x) = static c a tag x m
perform c m (Move a b) = copy a b m
perform c m (GlobalGet a x) = global_get c a x m
perform c m (GlobalSet a x) = global_set c a x m
perform c m (GlobalDef a x) = global_def a x m
perform c m (Cell a b) = new_cell a b m
perform c m (CellGet a b) = cell_get c a b m
perform c m (CellSet a b) = cell_set a b m
perform c m (Clo a n x) = make procedure_tag (new_procedure n x) a m
perform c m (Capt a b x) = captured a b x m
perform c m (CaptSet a b x) = set_captured a b x m
perform c m Apply = apply c m
perform c m End = Stops Stop.End
perform c m (Op0 a x) = apply_0 c a x m
perform c m (Op1 a b x) = apply_1 c a b x m
perform c m (Op2 a b d x) = apply_2 c a b d x m
perform c m (Op3 a b d x) = apply_3 c a b d x m

-- what the instruction that stands at the pc does
abbrev pub fetched : Assembled → Mac → Outcome
fetched c m = on_some (slice_get c.code m.pc) (stuck m) (perform c m)

-- what a step comes to: the next state and the rest of the input, with an event or none; or no next state
pub data Stepped : Type 0 where
  Went : Option Event → Mac → List ℕ → Stepped
  Stopped : Stop → Stepped

-- the word of what was taken
abbrev pub taken_word : Taken → Word
taken_word (Taken.Byte b) = Char b
taken_word Taken.End = end_object

-- what comes next: what is ahead, else the next byte of the input, or its end
abbrev pub next_taken : Option Taken → List ℕ → Taken
next_taken (Some t) input = t
next_taken None [] = Taken.End
next_taken None (b ∷ input) = Taken.Byte b

-- the input behind that
abbrev pub rest_after : Option Taken → List ℕ → List ℕ
rest_after (Some t) input = input
rest_after None [] = []
rest_after None (b ∷ input) = input

-- what stays ahead when this was taken: after the end was met, every later answer is the end
abbrev pub kept_ahead : Taken → Option Taken
kept_ahead (Taken.Byte b) = None
kept_ahead Taken.End = Some Taken.End

-- a register gets what was taken or peeked at
abbrev pub received : ℕ → Taken → Option Taken → Mac → Mac
received a t ahead m = set_register a (taken_word t) (record m { ahead = ahead })

abbrev pub take_input : ℕ → Mac → List ℕ → Stepped
take_input a m input = let t = next_taken m.ahead input in Went (Some (Event.Took t)) (received a t (kept_ahead t) m) (rest_after m.ahead input)

-- the same answer, which stays ahead
abbrev pub peek_input : ℕ → Mac → List ℕ → Stepped
peek_input a m input = let t = next_taken m.ahead input in Went None (received a t (Some t) m) (rest_after m.ahead input)

-- an outcome with the input
abbrev pub with_input : Mac → List ℕ → Outcome → Stepped
with_input m input (Goes m') = Went None m' input
with_input m input (Emits e m') = Went (Some e) m' input
with_input m input (TakesTo a) = take_input a m input
with_input m input (PeeksTo a) = peek_input a m input
with_input m input (Stops s) = Stopped s

-- the step from a state with this input
abbrev pub mac_step : Assembled → Mac → List ℕ → Stepped
mac_step c m input = with_input m input (fetched c m)
