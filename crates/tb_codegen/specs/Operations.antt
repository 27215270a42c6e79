-- The code of one operation: its operands go to registers, its value to RESULT.
use Rattle.std.specs.Prelude.{ℕ, suc, Bool, true, false, cond, List, [], ◌∷◌, ◌++◌, length, Option, Some, None, slice_get}
use Rattle.tb_prim.specs.declared.place.Place.{Place}
use Rattle.tb_prim.specs.declared.constant.Const.{Const}
use Rattle.tb_prim.specs.declared.constant.Static.{Static}
use Rattle.tb_prim.specs.declared.primitive.Primitive.{Primitive}
use Rattle.tb_prim.specs.Primitives.{can_fail, number_of}
use Rattle.tb_core.specs.FreeVariables.{without}
use Rattle.tb_ir.specs.AnfTree.{Operand, Quote, Var, Block, Op, Atom, Global, SetGlobal, DefGlobal, PrimUse, NewCell, CellGet, CellSet, Close, Call, Direct, Apply, Branch}
use Rattle.tb_ir.specs.AnfMachine.{free_block}
use Rattle.tb_ir.specs.AnfRules.{atoms}
use Rattle.tb_mac.specs.declared.code.Instr.{Instr}
use Rattle.tb_mac.specs.declared.code.Instr.TheVariants as I
use Rattle.tb_mac.specs.Words.{on_some, imm_bits, unspecified}
use Rattle.tb_mac.specs.Layout.{const_word, static_tag}
use Rattle.tb_codegen.specs.Notes.{Reg, Slot, Variable, Capture, Entry, Stands, Waiting, ToCaller, ToTop, Then, Point, AtValue, AtUnspecified, AtFill, Away, Here, Ready, Note, Inside, symbol_of, Noted, Mark, Does}

-- what the code of a body stands on: the variables that lambdas capture, the static objects, the slots of its
-- variables, and how many slots its frame has
pub record Body : Type 0 where
  pub captured : ℕ → List ℕ
  pub statics : List Static
  pub home : ℕ → ℕ
  pub size : ℕ

-- RESULT, where values come and go
abbrev pub result : ℕ
result = 16

-- variables of the environment at a depth, each in its slot
abbrev pub variables : Body → ℕ → List ℕ → List Entry
variables c d [] = []
variables c d (x ∷ xs) = Stands (Slot (c.home x)) (Variable d x) ∷ variables c d xs

-- the variables of the blocks that wait, the first of them at this depth
abbrev pub waiting_map : Body → ℕ → Waiting → List Entry
waiting_map c d ToCaller = []
waiting_map c d (ToTop k) = []
waiting_map c d (Then x b l js) = variables c d (without (x ∷ []) (free_block c.captured b)) ++ waiting_map c (suc d) js

abbrev pub block_map : Body → Block → Waiting → List Entry
block_map c b js = variables c 0 (free_block c.captured b) ++ waiting_map c 1 js

-- a value in RESULT, and what waits for it
abbrev pub value_map : Body → Waiting → List Entry
value_map c js = Stands (Reg result) (Variable 0 0) ∷ waiting_map c 1 js

-- a note with the own frame there
abbrev pub here : Body → Point → List Entry → Note
here c pt es = Inside pt (Here c.size) es

-- a register gets a constant: the pointer to a static object, or a word that is written in the instruction
abbrev pub constant : List Static → ℕ → Const → Instr
constant statics a (Const.Stat n) = I.Stat a (on_some (slice_get statics n) 0 static_tag) n
constant statics a k = I.Imm a (imm_bits (const_word [] [] k))

-- a register gets the value of an atom
abbrev pub load : Body → ℕ → Operand → Instr
load c a (Quote k) = constant c.statics a k
load c a (Var x) = I.Load a (c.home x)

-- the values of atoms go to registers that follow one another
abbrev pub loads : Body → Point → ℕ → List Operand → List Entry → List Noted
loads c pt a [] es = []
loads c pt a (d ∷ ds) es = Does (load c a d) (here c pt es) None ∷ loads c pt (suc a) ds (Stands (Reg a) (symbol_of d) ∷ es)

-- what stands somewhere then
abbrev pub loaded : ℕ → List Operand → List Entry → List Entry
loaded a [] es = es
loaded a (d ∷ ds) es = loaded (suc a) ds (Stands (Reg a) (symbol_of d) ∷ es)

-- the atoms whose values an operation has in registers, and the first of these registers: a call that enters a
-- procedure has that in register 0
abbrev pub operands : Op → List Operand
operands (Atom a) = []
operands op = atoms op

abbrev pub first_register : Op → ℕ
first_register (Call f ds p) = 0
first_register (Apply f l p) = 0
first_register op = 1

-- the use of a primitive by the number of its operands
abbrev pub use_of : Primitive → List Operand → Instr
use_of q [] = I.Op0 result (number_of q)
use_of q (a ∷ []) = I.Op1 result 1 (number_of q)
use_of q (a ∷ b ∷ []) = I.Op2 result 1 2 (number_of q)
use_of q (a ∷ b ∷ d ∷ ds) = I.Op3 1 2 3 (number_of q)

-- the instruction of an operation whose operands are in registers; a branch goes on at a label where its test is
-- false
abbrev pub act : Body → ℕ → Op → Instr
act c l (Atom a) = load c result a
act c l (Global g p) = I.GlobalGet result g
act c l (SetGlobal g a p) = I.GlobalSet 1 g
act c l (DefGlobal g a) = I.GlobalDef 1 g
act c l (PrimUse q ds p) = use_of q ds
act c l (NewCell a) = I.Cell result 1
act c l (CellGet a p) = I.CellGet result 1
act c l (CellSet a b) = I.CellSet 1 2
act c l (Close m) = I.Clo result (length (c.captured m)) m
act c l (Call f ds p) = I.Invoke (length ds)
act c l (Direct m ds) = I.Jump m
act c l (Apply f a p) = I.Apply
act c l (Branch a b d) = I.Brf 1 l

-- its place, where it can fail
abbrev pub place : Op → Option Place
place (Global g p) = Some p
place (SetGlobal g a p) = Some p
place (PrimUse q ds p) = cond (can_fail q) (Some p) None
place (CellGet a p) = Some p
place (Call f ds p) = Some p
place (Apply f a p) = Some p
place op = None

-- whether it transfers to a procedure
abbrev pub is_call : Op → Bool
is_call (Call f ds p) = true
is_call (Direct m ds) = true
is_call (Apply f a p) = true
is_call op = false

-- the variables that a new procedure captures, from a number on
abbrev pub captures : Body → ℕ → List ℕ → List Entry
captures c j [] = []
captures c j (x ∷ xs) = Stands (Slot (c.home x)) (Capture j) ∷ captures c (suc j) xs

-- the captured words of a new procedure in RESULT are written, from a number on
abbrev pub fill_map : Body → ℕ → List ℕ → Waiting → List Entry
fill_map c j xs js = Stands (Reg result) (Variable 0 0) ∷ (captures c j xs ++ waiting_map c 1 js)

abbrev pub fills : Body → ℕ → Waiting → ℕ → List ℕ → List Noted
fills c m js j [] = []
fills c m js j (x ∷ xs) =
    Does (I.Load 1 (c.home x)) (here c (AtFill m j js) (fill_map c j (x ∷ xs) js)) None ∷
    Does (I.CaptSet result 1 j) (here c (AtFill m j js) (Stands (Reg 1) (Capture j) ∷ fill_map c j (x ∷ xs) js)) None ∷
    fills c m js (suc j) xs

-- RESULT gets the unspecified value
abbrev pub unspecified_result : Body → Waiting → List Noted
unspecified_result c js = Does (I.Imm result (imm_bits unspecified)) (here c (AtUnspecified js) (waiting_map c 1 js)) None ∷ []

-- what is behind the instruction before the value is in RESULT
abbrev pub behind : Body → Waiting → Op → List Noted
behind c js (SetGlobal g a p) = unspecified_result c js
behind c js (DefGlobal g a) = unspecified_result c js
behind c js (CellSet a b) = unspecified_result c js
behind c js (Close m) = fills c m js 0 (c.captured m)
behind c js op = []

-- an operation that is no call, at a note with this map
abbrev pub simple : Body → Op → Point → Waiting → List Entry → List Noted
simple c op pt js es =
    loads c pt (first_register op) (operands op) es ++
    (Does (act c 0 op) (here c pt (loaded (first_register op) (operands op) es)) (place op) ∷ behind c js op)

-- a call that comes back to a label
abbrev pub returning : Body → Op → Point → Waiting → ℕ → List Entry → List Noted
returning c op pt js l es =
    let now = loaded (first_register op) (operands op) es in
    loads c pt (first_register op) (operands op) es ++
    (Does (I.SetRtn l) (here c pt now) None ∷
    Does (act c l op) (Inside pt (Ready c.size l) now) (place op) ∷
    Mark l (here c (AtValue js) (value_map c js)) ∷ [])

-- a call in tail position, behind which the own frame is not there
abbrev pub leaving : Body → Op → Point → List Entry → List Noted
leaving c op pt es =
    loads c pt (first_register op) (operands op) es ++
    (Does (I.Pop c.size) (here c pt (loaded (first_register op) (operands op) es)) None ∷
    Does (act c 0 op) (Inside pt Away (loaded (first_register op) (operands op) [])) (place op) ∷ [])

-- the value of an operation comes to RESULT
abbrev pub evaluated : Body → Op → Point → Waiting → ℕ → List Entry → List Noted
evaluated c op pt js l es = cond (is_call op) (returning c op pt js l es) (simple c op pt js es)
