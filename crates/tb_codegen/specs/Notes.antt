-- What is noted at an instruction: where the run of the A-normal form is, whether the procedure's own frame is
-- there, and in which registers and slots the words stand that are used from here on.
use Rattle.std.specs.Prelude.{ℕ, zero, suc, ◌+◌, ◌^◌, ◌==◌, ◌||◌, Bool, false, cond, List, [], ◌∷◌, Option, Some, None}
use Rattle.tb_prim.specs.declared.place.Place.{Place}
use Rattle.tb_prim.specs.declared.constant.Const.{Const}
use Rattle.tb_ir.specs.AnfTree.{Operand, Quote, Var, Block}
use Rattle.tb_mac.specs.declared.code.Instr.{Instr}
use Rattle.tb_mac.specs.declared.code.LiveMap.{LiveMap}
use Rattle.tb_mac.specs.declared.item.Item.{Item}
use Rattle.tb_mac.specs.declared.item.Item.TheVariants.{Label, Ins}

-- a register, or a slot of the procedure's own frame
pub data Spot : Type 0 where
  Reg : ℕ → Spot
  Slot : ℕ → Spot

-- whose word stands somewhere: a constant's, that of a variable in the environment at a depth (0 is that of the
-- block, 1 that of the first block which waits for its value), the procedure of this lambda that was entered, or the variable
-- with this number among those that a new procedure captures
pub data Symbol : Type 0 where
  Constant : Const → Symbol
  Variable : ℕ → ℕ → Symbol
  Itself : ℕ → Symbol
  Capture : ℕ → Symbol

pub data Entry : Type 0 where
  Stands : Spot → Symbol → Entry

-- what waits for the value of a block: the caller; the top level, whose next form has this number; or a block, with
-- the variable that is bound to the value and the label of the block's code
pub data Waiting : Type 0 where
  ToCaller : Waiting
  ToTop : ℕ → Waiting
  Then : ℕ → Block → ℕ → Waiting → Waiting

-- where the run is: at a block; at a value, or at the unspecified value, that is about to be given; at a new
-- procedure of this lambda, of which so many captured words are written; or at procedures that are made together,
-- of which so many are made and of each so many captured words written
pub data Point : Type 0 where
  AtBlock : Block → Waiting → Point
  AtValue : Waiting → Point
  AtUnspecified : Waiting → Point
  AtFill : ℕ → ℕ → Waiting → Point
  AtAll : ℕ → List ℕ → List ℕ → List ℕ → Block → Waiting → Point

-- the procedure's own frame: not there, there with so many slots, or there with this label as its return word
pub data Own : Type 0 where
  Away : Own
  Here : ℕ → Own
  Ready : ℕ → ℕ → Own

-- a note inside a body, or at the entry of a lambda: at the `proc` and where the operands are counted, if it is
-- entered through a procedure, and at the `proc` if it is lifted
pub data Note : Type 0 where
  Inside : Point → Own → List Entry → Note
  AtProc : ℕ → Note
  AtArgs : ℕ → Note
  AtLifted : ℕ → List Entry → Note

-- the symbol of an atom
abbrev pub symbol_of : Operand → Symbol
symbol_of (Quote c) = Constant c
symbol_of (Var x) = Variable 0 x

-- a word stands in this register, or slot
abbrev pub is_register : ℕ → Entry → Bool
is_register a (Stands (Reg b) s) = a == b
is_register a (Stands (Slot b) s) = false

abbrev pub is_slot : ℕ → Entry → Bool
is_slot x (Stands (Reg b) s) = false
is_slot x (Stands (Slot b) s) = x == b

abbrev pub any : (Entry → Bool) → List Entry → Bool
any test [] = false
any test (e ∷ es) = test e || any test es

-- the bits of so many registers, from register 0 on
abbrev pub register_bits : List Entry → ℕ → ℕ
register_bits es zero = 0
register_bits es (suc a) = register_bits es a + cond (any (is_register a) es) (2 ^ a) 0

-- for each of so many slots from one on, whether a word stands there
abbrev pub slot_bits : List Entry → ℕ → ℕ → List Bool
slot_bits es x zero = []
slot_bits es x (suc n) = any (is_slot x) es ∷ slot_bits es (suc x) n

abbrev pub own_slots : Own → List Entry → Option (List Bool)
own_slots Away es = None
own_slots (Here size) es = Some (slot_bits es 0 size)
own_slots (Ready size l) es = Some (slot_bits es 0 size)

-- registers 0 to 12 and RESULT
abbrev pub entry_bits : ℕ
entry_bits = 73727

-- the live map of a note
abbrev pub note_map : Note → LiveMap
note_map (Inside pt own es) = record { regs = register_bits es 17; slots = own_slots own es }
note_map (AtProc l) = record { regs = entry_bits; slots = None }
note_map (AtArgs l) = record { regs = entry_bits; slots = None }
note_map (AtLifted l es) = record { regs = register_bits es 17; slots = None }

-- items with notes: a label with the note of the instruction behind it, or an instruction with its note, and its
-- place where it can fail
pub data Noted : Type 0 where
  Mark : ℕ → Note → Noted
  Does : Instr → Note → Option Place → Noted

abbrev pub item_of : Noted → Item
item_of (Mark l n) = Label l
item_of (Does i n p) = Ins i (note_map n) p
