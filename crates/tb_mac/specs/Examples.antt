-- Runs of the machine's definition on code written out.
use Rattle.std.specs.Prelude.{◌≡◌, ℕ, ◌+◌, pos, negsuc, false, cond, List, [], ◌∷◌, map, replicate, Option, Some, None}
use Rattle.tb_prim.specs.declared.constant.Const.{Const}
use Rattle.tb_prim.specs.declared.constant.GlobalName.{GlobalName}
use Rattle.tb_prim.specs.declared.constant.Static.{Static}
use Rattle.tb_prim.specs.declared.place.Place.{Place}
use Rattle.tb_prim.specs.declared.event.Cause.{Cause}
use Rattle.tb_prim.specs.declared.event.Event.{Event}
use Rattle.tb_prim.specs.declared.event.Stop.{Stop}
use Rattle.tb_prim.specs.declared.event.Taken.{Taken}
use Rattle.tb_prim.specs.declared.primitive.Primitive.{Primitive}
use Rattle.tb_semantics.specs.Runs.{after}
use Rattle.tb_mac.specs.declared.code.Instr.{Instr}
use Rattle.tb_mac.specs.declared.code.Instr.TheVariants.{Proc, Args, ArgsGe, Save, SetRtn, Load, Store, Pop, Return, Invoke, Jump, Brf, Imm, Stat, Move, GlobalGet, GlobalSet, GlobalDef, Cell, CellGet, CellSet, Clo, Capt, CaptSet, Apply, End, Op0, Op1, Op2, Op3}
use Rattle.tb_mac.specs.declared.word.Word.{Word}
use Rattle.tb_mac.specs.declared.word.Word.TheVariants.{Fix, Special, Char, Header, Pointer, Code, Raw}
use Rattle.tb_mac.specs.declared.code.PlaceEntry.{PlaceEntry}
use Rattle.tb_mac.specs.Assembled.{Assembled}
use Rattle.tb_mac.specs.Bounds.{frame_bound, window_bound}
use Rattle.tb_mac.specs.Effects.{Effect, Gives, Makes, Changes, Fails, effect_1, effect_2, effect_3}
use Rattle.tb_mac.specs.Layout.{start_words}
use Rattle.tb_mac.specs.MacEvents.{Halted, MacState, events_of, mac_machine}
use Rattle.tb_mac.specs.MacStep.{Mac}
use Rattle.tb_mac.specs.Rules.{failing_from}

abbrev pub spot : ℕ → Place
spot n = record { library = false; line = 1; column = n }

-- an instruction that can fail has its number as the column of its place
abbrev pub placed : ℕ → PlaceEntry
placed n = record { instr = n; place = spot n }

-- code with so many globals and these static objects
abbrev pub coded : ℕ → List Static → List Instr → Assembled
coded globals statics code = record {
  parts = record { globals = replicate globals (record { library = false; name = 97 ∷ [] }); statics = statics; lambdas = []; order = [] };
  code = code;
  maps = [];
  places = map placed (failing_from 0 code);
}

-- so many steps with this input, in a memory of so many words, emit these events
abbrev pub Emits : Assembled → ℕ → List ℕ → ℕ → List Event → Type 0
Emits c heap input n events = events_of (after (mac_machine c heap input) n) ≡ events

-- the stop of a machine
abbrev pub stop_of : MacState → Option Stop
stop_of (Halted m s input es) = Some s
stop_of _ = None

-- so many steps in a memory of so many words come to this stop
abbrev pub StopsWith : List Instr → ℕ → ℕ → Stop → Type 0
StopsWith code heap n s = stop_of (after (mac_machine (coded 0 [] code) heap []) n) ≡ Some s

-- a procedure that adds 5 to its operand and gives the character of that code
abbrev pub call : List Instr
call =
    Save 0 ∷ Clo 0 0 7 ∷ Imm 1 240 ∷ SetRtn 5 ∷ Invoke 1 ∷ Op1 16 16 42 ∷ End ∷
    Proc 0 ∷ Args 1 ∷ Imm 2 20 ∷ Op2 1 1 2 17 ∷ Op1 16 1 29 ∷ Return ∷ []

abbrev pub CallPutsA : Type 0
CallPutsA = Emits (coded 0 [] call) 64 [] 13 (Event.Enter 0 ∷ Event.Back ∷ Event.Put 65 ∷ Event.End ∷ [])

-- the first and the second element of a rest list of two, after one operand; with three operands it is a list
-- of two, and with none the number is wrong
abbrev pub rest : ℕ → List Instr
rest n =
    Clo 0 0 5 ∷ Imm 1 24842 ∷ Imm 2 25098 ∷ Imm 3 25354 ∷ Invoke n ∷
    Proc 0 ∷ ArgsGe 1 ∷ Op1 4 2 1 ∷ Op1 16 4 42 ∷ Op1 4 2 2 ∷ Op1 4 4 1 ∷ Op1 16 4 42 ∷ End ∷ []

abbrev pub RestListInOrder : Type 0
RestListInOrder = Emits (coded 0 [] (rest 3)) 64 [] 13 (Event.Enter 0 ∷ Event.Put 98 ∷ Event.Put 99 ∷ Event.End ∷ [])

abbrev pub RestListTooShort : Type 0
RestListTooShort = Emits (coded 0 [] (rest 2)) 64 [] 13 (Event.Enter 0 ∷ Event.Put 98 ∷ Event.Fail Cause.WrongType (spot 10) ∷ [])

abbrev pub TooFewOperands : Type 0
TooFewOperands = Emits (coded 0 [] (rest 0)) 64 [] 13 (Event.Enter 0 ∷ Event.Fail Cause.WrongArgs (spot 6) ∷ [])

-- a procedure is applied to a list whose last pair leads to this register's word: register 2 holds the empty
-- list, register 3 the fixnum 1, and register 1 the list itself
abbrev pub applied : ℕ → List Instr
applied a =
    Imm 2 514 ∷ Imm 3 4 ∷ Imm 4 24842 ∷ Op2 1 4 2 0 ∷ Op2 5 1 a 4 ∷ Clo 0 0 7 ∷ Apply ∷ Proc 0 ∷ Args 1 ∷ Op1 16 1 42 ∷ End ∷ []

abbrev pub AppliesToOne : Type 0
AppliesToOne = Emits (coded 0 [] (applied 2)) 64 [] 11 (Event.Enter 0 ∷ Event.Put 97 ∷ Event.End ∷ [])

abbrev pub AppliesToNoList : Type 0
AppliesToNoList = Emits (coded 0 [] (applied 3)) 64 [] 11 (Event.Fail Cause.WrongType (spot 6) ∷ [])

abbrev pub AppliesToCircle : Type 0
AppliesToCircle = Emits (coded 0 [] (applied 1)) 64 [] 11 (Event.Fail Cause.TooMany (spot 6) ∷ [])

-- a global is defined, assigned and read; before its definition reading and assigning fail
abbrev pub globals : List Instr
globals = Imm 1 24842 ∷ GlobalDef 1 0 ∷ Imm 1 25098 ∷ GlobalSet 1 0 ∷ GlobalGet 2 0 ∷ Op1 16 2 42 ∷ GlobalSet 1 1 ∷ []

abbrev pub GlobalsHold : Type 0
GlobalsHold = Emits (coded 2 [] globals) 64 [] 8 (Event.Put 98 ∷ Event.Fail Cause.Undefined (spot 6) ∷ [])

-- a string of five characters: the last is set and read, the sixth is out of range
abbrev pub string : List Instr
string =
    Imm 1 20 ∷ Op1 2 1 34 ∷ Imm 3 16 ∷ Imm 4 30986 ∷ Op3 2 3 4 36 ∷ Op2 5 2 3 35 ∷ Op1 16 5 42 ∷ Op1 6 2 37 ∷ Op2 5 2 6 35 ∷ []

abbrev pub StringHolds : Type 0
StringHolds = Emits (coded 0 [] string) 64 [] 9 (Event.Put 121 ∷ Event.Fail Cause.Range (spot 8) ∷ [])

-- a cell and a captured word
abbrev pub cells : List Instr
cells =
    Imm 1 24842 ∷ Cell 2 1 ∷ Clo 3 1 0 ∷ CaptSet 3 2 0 ∷ Capt 4 3 0 ∷ CellGet 5 4 ∷ Op1 16 5 42 ∷ Imm 6 1026 ∷ CellSet 2 6 ∷ CellGet 5 4 ∷ []

abbrev pub CellsHold : Type 0
CellsHold = Emits (coded 0 [] cells) 64 [] 10 (Event.Put 97 ∷ Event.Fail Cause.Undefined (spot 9) ∷ [])

-- a peek gives what the next reading takes; after the end every answer is the end
abbrev pub reading : List Instr
reading = Op0 1 41 ∷ Op0 1 40 ∷ Op0 2 41 ∷ Op0 2 40 ∷ Op1 16 1 42 ∷ End ∷ []

abbrev pub ReadsOne : Type 0
ReadsOne = Emits (coded 0 [] reading) 64 (97 ∷ []) 6 (Event.Took (Taken.Byte 97) ∷ Event.Took Taken.End ∷ Event.Put 97 ∷ Event.End ∷ [])

abbrev pub ReadsEnd : Type 0
ReadsEnd = Emits (coded 0 [] reading) 64 [] 6 (Event.Took Taken.End ∷ Event.Took Taken.End ∷ Event.Fail Cause.WrongType (spot 4) ∷ [])

-- a new vector is clean where a frame was before: its element is 0
abbrev pub clean : List Instr
clean = Save 2 ∷ Imm 1 24842 ∷ Store 1 0 ∷ Store 1 1 ∷ Pop 2 ∷ Imm 1 12 ∷ Op1 2 1 30 ∷ Imm 3 0 ∷ Op2 4 2 3 31 ∷ Op1 4 4 29 ∷ Op1 16 4 42 ∷ []

abbrev pub NewVectorIsClean : Type 0
NewVectorIsClean = Emits (coded 0 [] clean) 4 [] 11 (Event.Put 0 ∷ [])

-- the last request that fits, and one word less
abbrev pub FullOrNot : Type 0
FullOrNot =
    StopsWith (Save 3 ∷ []) 4 1 (Stop.Full 0 4 5) ×
    StopsWith (Save 2 ∷ End ∷ []) 4 2 Stop.End ×
    StopsWith (Cell 1 1 ∷ Cell 1 1 ∷ []) 3 2 (Stop.Full 2 3 2) ×
    StopsWith (Clo 1 1 0 ∷ []) 3 1 (Stop.Full 0 3 4) ×
    StopsWith (Clo 1 1 0 ∷ End ∷ []) 4 2 Stop.End ×
    StopsWith (Op2 1 1 1 0 ∷ []) 1 1 (Stop.Full 0 1 2) ×
    StopsWith (Imm 1 8 ∷ Op1 1 1 30 ∷ []) 3 2 (Stop.Full 0 3 4) ×
    StopsWith (Imm 1 8 ∷ Op1 1 1 30 ∷ End ∷ []) 4 3 Stop.End ×
    StopsWith (Imm 16 12 ∷ ArgsGe 1 ∷ []) 3 2 (Stop.Full 0 3 4) ×
    StopsWith (Imm 16 12 ∷ ArgsGe 3 ∷ End ∷ []) 0 3 Stop.End

-- no next step: a return word that is no code place, a slot that is not there, a frame of another size, a
-- number of operands that no call gives, and a place behind the last instruction
abbrev pub StuckByName : Type 0
StuckByName =
    StopsWith (Save 0 ∷ Return ∷ []) 4 2 (Stop.Stuck 1) ×
    StopsWith (Return ∷ []) 4 1 (Stop.Stuck 0) ×
    StopsWith (Save 1 ∷ Load 1 1 ∷ []) 4 2 (Stop.Stuck 1) ×
    StopsWith (Save 1 ∷ Pop 2 ∷ []) 4 2 (Stop.Stuck 1) ×
    StopsWith (Imm 16 52 ∷ ArgsGe 1 ∷ []) 64 2 (Stop.Stuck 1) ×
    StopsWith (Jump 1 ∷ []) 64 2 (Stop.Stuck 1) ×
    StopsWith (CellGet 1 1 ∷ []) 64 1 (Stop.Stuck 0)

-- no words at all
abbrev pub nothing : ℕ → Option Word
nothing at = None

abbrev pub fix : ℕ → Word
fix n = Fix (pos n)

-- the greatest and the least fixnum
abbrev pub most : Word
most = Fix (pos 536870911)

abbrev pub least : Word
least = Fix (negsuc 536870911)

-- the primitives on numbers at the edges of their checks
abbrev pub Arithmetic : Type 0
Arithmetic =
    (effect_2 nothing Primitive.Add most (fix 0) ≡ Gives most) ×
    (effect_2 nothing Primitive.Add most (fix 1) ≡ Fails Cause.Overflow) ×
    (effect_2 nothing Primitive.Sub least (fix 1) ≡ Fails Cause.Overflow) ×
    (effect_2 nothing Primitive.Sub least (Fix (negsuc 0)) ≡ Gives (Fix (negsuc 536870910))) ×
    (effect_2 nothing Primitive.Mul least (Fix (negsuc 0)) ≡ Fails Cause.Overflow) ×
    (effect_2 nothing Primitive.Quotient least (Fix (negsuc 0)) ≡ Fails Cause.Overflow) ×
    (effect_2 nothing Primitive.Quotient (Fix (negsuc 6)) (fix 2) ≡ Gives (Fix (negsuc 2))) ×
    (effect_2 nothing Primitive.Remainder (Fix (negsuc 6)) (fix 2) ≡ Gives (Fix (negsuc 0))) ×
    (effect_2 nothing Primitive.Modulo (Fix (negsuc 6)) (fix 2) ≡ Gives (fix 1)) ×
    (effect_2 nothing Primitive.Modulo (fix 7) (Fix (negsuc 1)) ≡ Gives (Fix (negsuc 0))) ×
    (effect_2 nothing Primitive.Quotient (fix 1) (fix 0) ≡ Fails Cause.ZeroDivide) ×
    (effect_2 nothing Primitive.Quotient (Special 1) (fix 0) ≡ Fails Cause.WrongType) ×
    (effect_2 nothing Primitive.Less (fix 1) (Char 1) ≡ Fails Cause.WrongType) ×
    (effect_2 nothing Primitive.GreaterEq (fix 1) (fix 1) ≡ Gives (Special 1)) ×
    (effect_1 nothing Primitive.IntToChar (fix 255) ≡ Gives (Char 255)) ×
    (effect_1 nothing Primitive.IntToChar (fix 256) ≡ Fails Cause.Range) ×
    (effect_1 nothing Primitive.MakeVector (fix 16777216) ≡ Fails Cause.Range) ×
    (effect_1 nothing Primitive.MakeVector (Fix (negsuc 0)) ≡ Fails Cause.Range)

-- new strings: one raw word for four characters, padded to an even number of words
abbrev pub zeros : Word
zeros = Raw (0 ∷ 0 ∷ 0 ∷ 0 ∷ [])

abbrev pub NewStrings : Type 0
NewStrings =
    (effect_1 nothing Primitive.MakeString (fix 0) ≡ Makes 5 (Header 34 0 ∷ fix 0 ∷ [])) ×
    (effect_1 nothing Primitive.MakeString (fix 1) ≡ Makes 5 (Header 34 1 ∷ zeros ∷ [])) ×
    (effect_1 nothing Primitive.MakeString (fix 4) ≡ Makes 5 (Header 34 4 ∷ zeros ∷ [])) ×
    (effect_1 nothing Primitive.MakeString (fix 5) ≡ Makes 5 (Header 34 5 ∷ zeros ∷ zeros ∷ fix 0 ∷ []))

-- a vector of one element and a string of two characters, and their words at the start of a memory, behind
-- one global
abbrev pub statics : List Static
statics = Static.Str (104 ∷ 105 ∷ []) ∷ Static.Vector (Const.Stat 0 ∷ Const.Bool false ∷ []) ∷ []

abbrev pub StartsWithStatics : Type 0
StartsWithStatics = start_words (coded 1 statics []).parts
    ≡ Special 4 ∷ fix 0 ∷ Header 34 2 ∷ Raw (104 ∷ 105 ∷ 0 ∷ 0 ∷ []) ∷ Header 18 2 ∷ Pointer 5 2 ∷ Special 0 ∷ fix 0 ∷ []

-- a static string is read
abbrev pub ReadsStatic : Type 0
ReadsStatic = Emits (coded 1 statics (Stat 1 3 1 ∷ Imm 2 0 ∷ Op2 3 1 2 31 ∷ Imm 2 4 ∷ Op2 3 3 2 35 ∷ Op1 16 3 42 ∷ [])) 64 [] 6 (Event.Put 105 ∷ [])

abbrev pub BoundsOfCall : Type 0
BoundsOfCall = (frame_bound call ≡ 0) × (frame_bound cells ≡ 1) × (window_bound call ≡ 7) × (window_bound (Proc 0 ∷ End ∷ []) ≡ 2)
