-- What code of the MAC machine keeps: the ranges of its fields, its live maps, its lambdas, its places and
-- its orders.
use Rattle.std.specs.Prelude.{◌≡◌, ℕ, ◌+◌, ◌*◌, ◌<◌, ◌≤◌, ◌^◌, Bool, true, false, cond, List, [], ◌∷◌, map, length, All, AllPairs, ◌≢◌, Option, Some, None, IsSome, IfSome, IsTrue, slice_get, slice_index, option_map}
use Rattle.tb_prim.specs.declared.constant.Const.{Const}
use Rattle.tb_prim.specs.declared.constant.Static.{Static}
use Rattle.tb_prim.specs.declared.constant.GlobalName.{GlobalName}
use Rattle.tb_mac.specs.declared.code.Instr.{Instr}
use Rattle.tb_mac.specs.declared.code.Instr.TheVariants.{Proc, Args, ArgsGe, Save, SetRtn, Load, Store, Pop, Return, Invoke, Jump, Brf, Imm, Stat, Move, GlobalGet, GlobalSet, GlobalDef, Cell, CellGet, CellSet, Clo, Capt, CaptSet, Apply, End, Op0, Op1, Op2, Op3}
use Rattle.tb_mac.specs.declared.code.LiveMap.{LiveMap}
use Rattle.tb_mac.specs.declared.code.LambdaEntry.{LambdaEntry}
use Rattle.tb_mac.specs.declared.code.OrderEntry.{OrderEntry}
use Rattle.tb_mac.specs.declared.code.PlaceEntry.{PlaceEntry}
use Rattle.tb_mac.specs.declared.code.Parts.{Parts}
use Rattle.tb_mac.specs.Words.{on_some, imm_word}
use Rattle.tb_prim.specs.Fixnums.{is_fixnum}
use Rattle.tb_prim.specs.Primitives.{primitive_at, arity_at, can_fail}
use Rattle.tb_mac.specs.Layout.{static_tag, addresses_from}

-- the tag of the static object with this number
abbrev pub tag_at : List Static → ℕ → Option ℕ
tag_at statics n = option_map static_tag (slice_get statics n)

-- an earlier static object with this tag, whose distance from the first, in double words, and tag fit a word
-- of 32 bits: 8 * distance + tag
pub record IsEarlier (statics : List Static) (index n : ℕ) : Type 0 where
  pub earlier : n < index
  pub fits : 4 * slice_index (addresses_from 0 statics) n + on_some (tag_at statics n) 0 (λ t. t) < 2 ^ 32

-- a constant in the static object with this number: a fixnum, a character, a special but the end object, or an
-- earlier object
abbrev pub ConstOk : List Static → ℕ → Const → Type 0
ConstOk statics index (Const.Fix v) = IsTrue (is_fixnum v)
ConstOk statics index (Const.Stat n) = IsEarlier statics index n
ConstOk statics index _ = Unit {0}

-- a static object has at most 2^24 - 1 elements or bytes
abbrev pub StaticOk : List Static → ℕ → Static → Type 0
StaticOk statics index (Static.Pair a b) = ConstOk statics index a × ConstOk statics index b
StaticOk statics index (Static.Vector cs) = (length cs < 2 ^ 24) × All (ConstOk statics index) cs
StaticOk statics index (Static.Str bytes) = length bytes < 2 ^ 24
StaticOk statics index (Static.Sym bytes) = length bytes < 2 ^ 24

abbrev pub StaticAtOk : List Static → ℕ → Type 0
StaticAtOk statics index = IfSome (slice_get statics index) (StaticOk statics index)

-- a name has 1 to 255 bytes
abbrev pub NameOk : GlobalName → Type 0
NameOk g = (1 ≤ length g.name) × (length g.name ≤ 255)

-- the numbers from 0 on, of which there are m, in some order; at most 1,000
pub record OrderOk (o : OrderEntry) : Type 0 where
  pub few : length o.order ≤ 1000
  pub below : All (λ i. i < length o.order) o.order
  pub apart : AllPairs ◌≢◌ o.order

-- a register is 0 to 16
abbrev pub IsRegister : ℕ → Type 0
IsRegister a = a ≤ 16

-- the fields of an instruction are in their ranges, in code of so many instructions with these parts:
-- registers, numbers of operands up to 12 (11 before a rest list), frames of at most 1,000 slots and as many
-- captured words, targets in the code, immediates that stand for a word, globals, static objects with their
-- tag, lambdas, and primitives with that number of operands
abbrev pub InstrOk : Parts → ℕ → Instr → Type 0
InstrOk parts count (Proc x) = x < length parts.lambdas
InstrOk parts count (Args a) = a ≤ 12
InstrOk parts count (ArgsGe a) = a ≤ 11
InstrOk parts count (Save x) = x ≤ 1000
InstrOk parts count (SetRtn x) = x < count
InstrOk parts count (Load a x) = IsRegister a × (x < 1000)
InstrOk parts count (Store a x) = IsRegister a × (x < 1000)
InstrOk parts count (Pop x) = Unit {0}
InstrOk parts count Return = Unit {0}
InstrOk parts count (Invoke a) = a ≤ 12
InstrOk parts count (Jump x) = x < count
InstrOk parts count (Brf a x) = IsRegister a × (x < count)
InstrOk parts count (Imm a x) = IsRegister a × IsSome (imm_word x)
InstrOk parts count (Stat a b x) = IsRegister a × (tag_at parts.statics x ≡ Some b)
InstrOk parts count (Move a b) = IsRegister a × IsRegister b
InstrOk parts count (GlobalGet a x) = IsRegister a × (x < length parts.globals)
InstrOk parts count (GlobalSet a x) = IsRegister a × (x < length parts.globals)
InstrOk parts count (GlobalDef a x) = IsRegister a × (x < length parts.globals)
InstrOk parts count (Cell a b) = IsRegister a × IsRegister b
InstrOk parts count (CellGet a b) = IsRegister a × IsRegister b
InstrOk parts count (CellSet a b) = IsRegister a × IsRegister b
InstrOk parts count (Clo a n x) = IsRegister a × (n ≤ 1000) × (x < count)
InstrOk parts count (Capt a b x) = IsRegister a × IsRegister b × (x < 1000)
InstrOk parts count (CaptSet a b x) = IsRegister a × IsRegister b × (x < 1000)
InstrOk parts count Apply = Unit {0}
InstrOk parts count End = Unit {0}
InstrOk parts count (Op0 a x) = IsRegister a × (arity_at x ≡ Some 0)
InstrOk parts count (Op1 a b x) = IsRegister a × IsRegister b × (arity_at x ≡ Some 1)
InstrOk parts count (Op2 a b c x) = IsRegister a × IsRegister b × IsRegister c × (arity_at x ≡ Some 2)
InstrOk parts count (Op3 a b c x) = IsRegister a × IsRegister b × IsRegister c × (arity_at x ≡ Some 3)

-- the primitive with this number can fail
abbrev pub number_can_fail : ℕ → Bool
number_can_fail x = on_some (primitive_at x) false can_fail

-- the instruction can fail, so that it has a place
abbrev pub instr_can_fail : Instr → Bool
instr_can_fail (Args a) = true
instr_can_fail (ArgsGe a) = true
instr_can_fail (Invoke a) = true
instr_can_fail (GlobalGet a x) = true
instr_can_fail (GlobalSet a x) = true
instr_can_fail (CellGet a b) = true
instr_can_fail Apply = true
instr_can_fail (Op0 a x) = number_can_fail x
instr_can_fail (Op1 a b x) = number_can_fail x
instr_can_fail (Op2 a b c x) = number_can_fail x
instr_can_fail (Op3 a b c x) = number_can_fail x
instr_can_fail _ = false

-- a map has a bit for each of the 17 registers, and at most 1,000 slots
pub record MapOk (m : LiveMap) : Type 0 where
  pub registers : m.regs < 2 ^ 17
  pub slots : IfSome m.slots (λ bits. length bits ≤ 1000)

-- the numbers of the instructions that can fail, in order, where the first has number n
abbrev pub failing_from : ℕ → List Instr → List ℕ
failing_from n [] = []
failing_from n (i ∷ is) = cond (instr_can_fail i) (n ∷ failing_from (n + 1) is) (failing_from (n + 1) is)

-- the entry of the lambda with this number is a `proc` of that number
abbrev pub EntryOk : List LambdaEntry → List Instr → ℕ → Type 0
EntryOk lambdas code n = IfSome (slice_get lambdas n) (λ l. slice_get code l.entry ≡ Some (Proc n))

-- at most 2^20 - 1 globals, static objects, lambdas and orders each, and each in its range, but for entries
pub record PartsOk (parts : Parts) : Type 0 where
  pub few_globals : length parts.globals < 2 ^ 20
  pub few_statics : length parts.statics < 2 ^ 20
  pub few_lambdas : length parts.lambdas < 2 ^ 20
  pub few_orders : length parts.order < 2 ^ 20
  pub names : All NameOk parts.globals
  pub statics : (n : ℕ) → StaticAtOk parts.statics n
  pub orders : All OrderOk parts.order

-- 1 to 2^24 - 1 instructions with fields in range, a map for each, the entries of the lambdas, and a place for
-- exactly the instructions that can fail, in order
pub record KeepsRules (parts : Parts) (code : List Instr) (maps : List LiveMap) (places : List PlaceEntry) : Type 0 where
  pub parts_ok : PartsOk parts
  pub some : 1 ≤ length code
  pub few : length code < 2 ^ 24
  pub fields : All (InstrOk parts (length code)) code
  pub mapped : length maps ≡ length code
  pub each_map : All MapOk maps
  pub entries : (n : ℕ) → EntryOk parts.lambdas code n
  pub placed : map (λ e. e.instr) places ≡ failing_from 0 code
