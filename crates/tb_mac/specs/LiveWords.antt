-- Which words of a state are live, by the live maps, and how many words a state holds.
use Rattle.std.specs.Prelude.{◌≡◌, ℕ, zero, suc, ◌+◌, ◌/◌, ◌%◌, ◌^◌, ◌==◌, Bool, true, false, not, cond, ◌&&◌, nat_lt, nat_le, pos, List, [], ◌∷◌, ◌++◌, length, take, Option, Some, None, slice_get}
use Rattle.tb_semantics.specs.Graph.{Graph, total}
use Rattle.tb_mac.specs.declared.word.Word.{Word}
use Rattle.tb_mac.specs.declared.word.Word.TheVariants.{Fix, Header, Pointer, Code}
use Rattle.tb_mac.specs.declared.code.Instr.{Instr}
use Rattle.tb_mac.specs.declared.code.Instr.TheVariants.{Proc, Args, ArgsGe}
use Rattle.tb_mac.specs.declared.code.LambdaEntry.{LambdaEntry}
use Rattle.tb_mac.specs.declared.code.LiveMap.{LiveMap}
use Rattle.tb_mac.specs.Assembled.{Assembled}
use Rattle.tb_mac.specs.Words.{on_some}
use Rattle.tb_mac.specs.Objects.{vector_kind, cell_kind, string_kind, symbol_kind, procedure_kind, padded_size, raw_size}
use Rattle.tb_mac.specs.Layout.{addresses, globals_size, start_size, statics_size}
use Rattle.tb_mac.specs.Frames.{Frame, Framed}
use Rattle.tb_mac.specs.MacStep.{place_in}

-- the map of an instruction
abbrev pub map_at : Assembled → ℕ → Option LiveMap
map_at c pc = slice_get c.maps pc

-- the lambda with this number is lifted
abbrev pub is_lifted : List LambdaEntry → ℕ → Bool
is_lifted lambdas n = on_some (slice_get lambdas n) false (λ l. l.lifted)

-- at the entry of a lambda that is not lifted, and where its operands are counted, those beyond the number in
-- RESULT are not there
abbrev pub is_counted : List LambdaEntry → Instr → Bool
is_counted lambdas (Proc x) = not (is_lifted lambdas x)
is_counted lambdas (Args a) = true
is_counted lambdas (ArgsGe a) = true
is_counted lambdas _ = false

-- the number of operands; any number where RESULT holds none
abbrev pub operand_count : Option Word → ℕ
operand_count (Some (Fix (pos n))) = n
operand_count _ = 12

-- register a is one of the operands beyond a number
abbrev pub is_beyond : ℕ → ℕ → Bool
is_beyond n a = nat_le 1 a && (nat_le a 12 && nat_lt n a)

abbrev pub counts_now : Assembled → Framed → Bool
counts_now c m = on_some (slice_get c.code m.pc) false (is_counted c.parts.lambdas)

abbrev pub is_bit_set : ℕ → ℕ → Bool
is_bit_set bits a = (bits / 2 ^ a) % 2 == 1

-- register a is live
abbrev pub is_live_register : Assembled → Framed → ℕ → Bool
is_live_register c m a =
    on_some (map_at c m.pc) false (λ map. is_bit_set map.regs a)
    && not (counts_now c m && is_beyond (operand_count (slice_get m.registers 16)) a)

-- the words that stand where the list says true
abbrev pub chosen : List Bool → List Word → List Word
chosen [] ws = []
chosen (b ∷ bs) [] = []
chosen (b ∷ bs) (w ∷ ws) = cond b (w ∷ chosen bs ws) (chosen bs ws)

abbrev pub chosen_from : (ℕ → Bool) → ℕ → List Word → List Word
chosen_from live a [] = []
chosen_from live a (w ∷ ws) = cond (live a) (w ∷ chosen_from live (a + 1) ws) (chosen_from live (a + 1) ws)

abbrev pub live_registers : Assembled → Framed → List Word
live_registers c m = chosen_from (is_live_register c m) 0 m.registers

-- the slots of a map, where it has an own frame
abbrev pub slots_of : Option LiveMap → Option (List Bool)
slots_of o = on_some o None (λ map. map.slots)

-- the slots of the map at a return word
abbrev pub slots_at : Assembled → Word → Option (List Bool)
slots_at c w = on_some (place_in (Some w)) None (λ x. slots_of (map_at c x))

abbrev pub live_slots : Option (List Bool) → Frame → List Word
live_slots o f = on_some o [] (λ bits. chosen bits f.slots)

-- the live slots of frames by the maps at their return words
abbrev pub waiting_slots : Assembled → List Frame → List Word
waiting_slots c [] = []
waiting_slots c (f ∷ fs) = live_slots (slots_at c f.back) f ++ waiting_slots c fs

-- where the map at pc has an own frame, the frame on top has the live slots of that map
abbrev pub stack_slots : Assembled → Option (List Bool) → List Frame → List Word
stack_slots c (Some bits) (f ∷ fs) = live_slots (Some bits) f ++ waiting_slots c fs
stack_slots c _ fs = waiting_slots c fs

abbrev pub live_words : Assembled → Framed → List Word
live_words c m = live_registers c m ++ stack_slots c (slots_of (map_at c m.pc)) m.frames

-- a frame has as many slots as a map says
abbrev pub HasSlots : Option (List Bool) → Frame → Type 0
HasSlots None f = ⊥
HasSlots (Some bits) f = length bits ≡ length f.slots

abbrev pub AreWaiting : Assembled → List Frame → Type 0
AreWaiting c [] = Unit {0}
AreWaiting c (f ∷ fs) = HasSlots (slots_at c f.back) f × AreWaiting c fs

-- the map at pc has no own frame, or one with as many slots as the frame on top; and each frame that is not the
-- procedure's own has as return word a code place whose map has as many slots as the frame
abbrev pub IsWalkableBy : Assembled → Option (List Bool) → List Frame → Type 0
IsWalkableBy c None fs = AreWaiting c fs
IsWalkableBy c (Some bits) [] = ⊥
IsWalkableBy c (Some bits) (f ∷ fs) = (length bits ≡ length f.slots) × AreWaiting c fs

abbrev pub IsWalkable : Assembled → Framed → Type 0
IsWalkable c m = IsWalkableBy c (slots_of (map_at c m.pc)) m.frames

-- an object by its first word: a header with its kind and length, or the first word of a pair
abbrev pub object_size : Option Word → ℕ
object_size (Some (Header k n)) =
    cond (k == procedure_kind) (padded_size (n + 2))
    (cond (k == string_kind) (padded_size (raw_size n + 1))
    (cond (k == symbol_kind) (padded_size (raw_size n + 1))
    (padded_size (n + 1))))
object_size _ = 2

-- how many words of an object, from its first on, can hold pointers
abbrev pub pointing_words : Option Word → ℕ
pointing_words (Some (Header k n)) =
    cond (k == procedure_kind) (n + 2) (cond (k == string_kind) 0 (cond (k == symbol_kind) 0 (n + 1)))
pointing_words _ = 2

-- where a word points to
abbrev pub targets : Word → List ℕ
targets (Pointer t a) = a ∷ []
targets _ = []

abbrev pub all_targets : List Word → List ℕ
all_targets [] = []
all_targets (w ∷ ws) = targets w ++ all_targets ws

-- where so many words of the heap from one on point to
abbrev pub targets_from : List Word → ℕ → ℕ → List ℕ
targets_from heap at zero = []
targets_from heap at (suc n) = on_some (slice_get heap at) [] targets ++ targets_from heap (at + 1) n

-- the objects of the heap, those that each leads to, and those that live words, globals and static objects lead
-- to or are
abbrev pub object_graph : Assembled → Framed → Graph
object_graph c m = record {
  count = length m.heap;
  next = λ a. targets_from m.heap a (pointing_words (slice_get m.heap a));
  roots = all_targets (live_words c m) ++ (all_targets (take (globals_size c.parts) m.heap) ++ addresses c.parts);
}

-- the words of frames: return word, size word and slots
abbrev pub frame_words : List Frame → ℕ
frame_words [] = 0
frame_words (f ∷ fs) = 2 + length f.slots + frame_words fs

-- the words of an object that is not static
abbrev pub made_size : Assembled → Framed → ℕ → ℕ
made_size c m a = cond (nat_lt a (start_size c.parts)) 0 (object_size (slice_get m.heap a))

-- the words that a state holds: the registers, all frames, globals, static objects, and the objects of the heap
-- that can be reached
abbrev pub machine_words : Assembled → Framed → ℕ
machine_words c m = 17 + frame_words m.frames + start_size c.parts + total (made_size c m) (object_graph c m)

-- a procedure counts one
abbrev pub closure_count : Option Word → ℕ
closure_count (Some (Header k n)) = cond (k == procedure_kind) 1 0
closure_count _ = 0

-- the flat size of an object but a procedure: a pair 3, a cell 2, others their length and one
abbrev pub data_size : Option Word → ℕ
data_size (Some (Header k n)) = cond (k == procedure_kind) 0 (n + 1)
data_size _ = 3
