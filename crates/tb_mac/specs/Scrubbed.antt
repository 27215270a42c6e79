-- The run in which, before each step, a mark stands in each register and slot that is not live, and a step that
-- reads the mark has no next step.
use Rattle.std.specs.Prelude.{ℕ, ◌+◌, ◌-◌, ◌==◌, Bool, true, false, cond, ◌&&◌, ◌||◌, pos, List, [], ◌∷◌, ◌++◌, length, take, drop, Option, Some, None, slice_get}
use Rattle.tb_prim.specs.declared.event.Event.{Event}
use Rattle.tb_semantics.specs.Runs.{Machine}
use Rattle.tb_mac.specs.declared.code.Instr.{Instr}
use Rattle.tb_mac.specs.declared.code.Instr.TheVariants.{Args, ArgsGe, Load, Store, Invoke, Brf, Move, GlobalSet, GlobalDef, Cell, CellGet, CellSet, Capt, CaptSet, Apply, Op1, Op2, Op3}
use Rattle.tb_mac.specs.declared.word.Word.{Word}
use Rattle.tb_mac.specs.declared.word.Word.TheVariants.{Special}
use Rattle.tb_mac.specs.Assembled.{Assembled}
use Rattle.tb_mac.specs.Words.{on_some}
use Rattle.tb_mac.specs.Frames.{Frame, Framed, FramedOutcome, framed_fetched, halts}
use Rattle.tb_mac.specs.FramedRuns.{FramedState, Runs, framed_events, framed_next, framed_start}
use Rattle.tb_mac.specs.LiveWords.{is_live_register, map_at, operand_count, slots_at, slots_of}

-- the mark, which no instruction makes
abbrev pub poison : Word
poison = Special 255

abbrev pub is_poison : Word → Bool
is_poison (Special k) = k == 255
is_poison _ = false

-- slots that are not live are marked
abbrev pub scrub_slots : List Bool → List Word → List Word
scrub_slots bits [] = []
scrub_slots [] (w ∷ ws) = poison ∷ scrub_slots [] ws
scrub_slots (b ∷ bits) (w ∷ ws) = cond b w poison ∷ scrub_slots bits ws

abbrev pub scrub_registers : (ℕ → Bool) → ℕ → List Word → List Word
scrub_registers live a [] = []
scrub_registers live a (w ∷ ws) = cond (live a) w poison ∷ scrub_registers live (a + 1) ws

abbrev pub scrub_frame : Option (List Bool) → Frame → Frame
scrub_frame None f = f
scrub_frame (Some bits) f = record f { slots = scrub_slots bits f.slots }

abbrev pub scrub_waiting : Assembled → List Frame → List Frame
scrub_waiting c [] = []
scrub_waiting c (f ∷ fs) = scrub_frame (slots_at c f.back) f ∷ scrub_waiting c fs

abbrev pub scrub_frames : Assembled → Option (List Bool) → List Frame → List Frame
scrub_frames c (Some bits) (f ∷ fs) = scrub_frame (Some bits) f ∷ scrub_waiting c fs
scrub_frames c _ fs = scrub_waiting c fs

-- whether a state is walkable, as a test
abbrev pub has_slots : Option (List Bool) → Frame → Bool
has_slots None f = false
has_slots (Some bits) f = length bits == length f.slots

abbrev pub are_waiting : Assembled → List Frame → Bool
are_waiting c [] = true
are_waiting c (f ∷ fs) = has_slots (slots_at c f.back) f && are_waiting c fs

abbrev pub is_walkable : Assembled → Option (List Bool) → List Frame → Bool
is_walkable c None fs = are_waiting c fs
is_walkable c (Some bits) [] = false
is_walkable c (Some bits) (f ∷ fs) = has_slots (Some bits) f && are_waiting c fs

-- a state that is not walkable is not scrubbed
abbrev pub scrub : Assembled → Framed → Framed
scrub c m =
    cond (is_walkable c (slots_of (map_at c m.pc)) m.frames)
    (record m { registers = scrub_registers (is_live_register c m) 0 m.registers; frames = scrub_frames c (slots_of (map_at c m.pc)) m.frames })
    m

-- the words that an instruction reads: registers, and a slot of the frame on top
abbrev pub register_of : Framed → ℕ → List Word
register_of m a = on_some (slice_get m.registers a) [] (λ w. w ∷ [])

abbrev pub slot_of : ℕ → List Frame → List Word
slot_of x [] = []
slot_of x (f ∷ fs) = on_some (slice_get f.slots x) [] (λ w. w ∷ [])

abbrev pub reads : Framed → Instr → List Word
reads m (Args a) = register_of m 16
reads m (ArgsGe a) = register_of m 16 ++ take (operand_count (slice_get m.registers 16) - a) (drop (a + 1) m.registers)
reads m (Load a x) = slot_of x m.frames
reads m (Store a x) = register_of m a
reads m (Invoke a) = register_of m 0
reads m (Brf a x) = register_of m a
reads m (Move a b) = register_of m b
reads m (GlobalSet a x) = register_of m a
reads m (GlobalDef a x) = register_of m a
reads m (Cell a b) = register_of m b
reads m (CellGet a b) = register_of m b
reads m (CellSet a b) = register_of m a ++ register_of m b
reads m (Capt a b x) = register_of m b
reads m (CaptSet a b x) = register_of m a ++ register_of m b
reads m Apply = register_of m 0 ++ register_of m 1
reads m (Op1 a b x) = register_of m b
reads m (Op2 a b d x) = register_of m b ++ register_of m d
reads m (Op3 a b d x) = register_of m a ++ (register_of m b ++ register_of m d)
reads m _ = []

abbrev pub any_poison : List Word → Bool
any_poison [] = false
any_poison (w ∷ ws) = is_poison w || any_poison ws

-- a step of the scrubbed run
abbrev pub scrubbed_fetched : Assembled → Framed → FramedOutcome
scrubbed_fetched c m =
    let m' = scrub c m in
    cond (on_some (slice_get c.code m.pc) false (λ i. any_poison (reads m' i))) (halts m) (framed_fetched c m')

abbrev pub scrubbed_machine : Assembled → ℕ → List ℕ → Machine Event FramedState
scrubbed_machine c heap input = record {
  start = Runs (framed_start c heap) input [];
  step = framed_next (scrubbed_fetched c);
  events = framed_events;
}
