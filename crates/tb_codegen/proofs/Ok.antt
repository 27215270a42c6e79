-- What an instruction must be to its note, to the note behind it, and to the notes of the places that it names.
use Rattle.std.proofs.Common.{◌≡◌, ℕ, suc, ◌<◌, ◌≤◌, ◌⊎◌, ◌++◌, ◌+◌, true, false, List, [], ◌∷◌, length, Option, Some, None, slice_get, slice_set}
use Rattle.tb_prim.specs.declared.place.Place.{Place}
use Rattle.tb_prim.specs.declared.constant.Const.{Const}
use Rattle.tb_prim.specs.declared.primitive.Primitive.{Primitive}
use Rattle.tb_prim.specs.Primitives.{number_of}
use Rattle.tb_semantics.specs.Graph.{IsIn, IsApart}
use Rattle.tb_ir.specs.AnfTree.{Operand, Quote, Var, Block, Bind, CloseAll, Tail, Op, Atom, Global, SetGlobal, DefGlobal, PrimUse, NewCell, CellGet, CellSet, Close, Call, Direct, Apply, Branch, ProcTree, AnfTree}
use Rattle.tb_ir.specs.AnfMachine.{InBlock, free_block, form_of, proc_of}
use Rattle.tb_mac.specs.declared.code.Instr.{Instr}
use Rattle.tb_mac.specs.declared.code.Instr.TheVariants as I
use Rattle.tb_mac.specs.Words.{IsImmediate, imm_bits, unspecified}
use Rattle.tb_mac.specs.Layout.{const_word}
use Rattle.tb_prim.specs.declared.constant.Static.{Static}
use Rattle.tb_mac.specs.Assembled.{Assembled}
use Rattle.tb_mac.specs.LiveWords.{is_lifted}
use Rattle.tb_mac.specs.MacStep.{place_of}
use Rattle.tb_codegen.specs.Notes.{Spot, Reg, Slot, Symbol, Constant, Variable, Itself, Capture, Entry, Stands, Waiting, ToCaller, ToTop, Then, Point, AtBlock, AtValue, AtUnspecified, AtFill, AtAll, Own, Away, Here, Ready, Note, Inside, AtProc, AtArgs, AtLifted, note_map, symbol_of}
use Rattle.tb_codegen.specs.Operations.{constant, operands, place}
use Rattle.tb_codegen.specs.Generate.{captured_in, settled, zeros}
use Rattle.tb_codegen.proofs.Changes.{OpAt, Under, Given, Same, IsFirst, IsNew, IsThat, StandsAt, From, Into, NoSlots, Args, from_register, Backs, HasFrame, Starts, StartsLifted, Caught, Opens, Kept}

-- an instruction can write the constant, or it is a static object that is there
abbrev pub IsWritten : List Static → Const → Type 0
IsWritten statics (Const.Stat n) = n < length statics
IsWritten statics (Const.Fix v) = IsImmediate (const_word [] [] (Const.Fix v))
IsWritten statics (Const.Char c) = IsImmediate (const_word [] [] (Const.Char c))
IsWritten statics k = Unit {0}

-- groups of no procedures before a block are empty
pub data Settles : Block → Type 0 where
  s_more : {b : Block} → Settles b → Settles (CloseAll [] [] b)
  s_group : (x : ℕ) (xs ls : List ℕ) (b : Block) → Settles (CloseAll (x ∷ xs) ls b)
  s_bind : (x : ℕ) (op : Op) (b : Block) → Settles (Bind x op b)
  s_tail : (op : Op) → Settles (Tail op)

module _ (p : AnfTree) where
  abbrev pub free : Block → List ℕ
  free b = free_block (captured_in p) b

  -- the instruction of an operation that gives a value: its operands stand in these registers, the value goes to
  -- this one
  pub data Acts : Op → Instr → List ℕ → ℕ → Type 0 where
    a_quote : (c : Const) (i : Instr) (d : ℕ) → i ≡ constant p.statics d c → IsWritten p.statics c → Acts (Atom (Quote c)) i [] d
    a_global : (g : ℕ) (q : Place) (d : ℕ) → g < length p.globals → Acts (Global g q) (I.GlobalGet d g) [] d
    a_use0 : (r : Primitive) (q : Place) (d : ℕ) → Acts (PrimUse r [] q) (I.Op0 d (number_of r)) [] d
    a_use1 : (r : Primitive) (x : Operand) (q : Place) (d a : ℕ) → Acts (PrimUse r (x ∷ []) q) (I.Op1 d a (number_of r)) (a ∷ []) d
    a_use2 : (r : Primitive) (x y : Operand) (q : Place) (d a b : ℕ) →
        Acts (PrimUse r (x ∷ y ∷ []) q) (I.Op2 d a b (number_of r)) (a ∷ b ∷ []) d
    a_use3 : (r : Primitive) (x y z : Operand) (q : Place) (a b e : ℕ) →
        Acts (PrimUse r (x ∷ y ∷ z ∷ []) q) (I.Op3 a b e (number_of r)) (a ∷ b ∷ e ∷ []) 16
    a_cell : (x : Operand) (d a : ℕ) → Acts (NewCell x) (I.Cell d a) (a ∷ []) d
    a_get : (x : Operand) (q : Place) (d a : ℕ) → Acts (CellGet x q) (I.CellGet d a) (a ∷ []) d

  -- the instruction of an operation that writes, behind which the value is the unspecified one
  pub data Writes : Op → Instr → List ℕ → Type 0 where
    w_set : (g : ℕ) (x : Operand) (q : Place) (a : ℕ) → g < length p.globals → Writes (SetGlobal g x q) (I.GlobalSet a g) (a ∷ [])
    w_define : (g : ℕ) (x : Operand) (a : ℕ) → g < length p.globals → Writes (DefGlobal g x) (I.GlobalDef a g) (a ∷ [])
    w_cell : (x y : Operand) (a b : ℕ) → Writes (CellSet x y) (I.CellSet a b) (a ∷ b ∷ [])

  -- a procedure that is entered with itself, or one that is lifted
  pub record Entered (m : ℕ) (q : ProcTree) : Type 0 where
    pub there : proc_of p.procs m ≡ Some q
    pub kept : q.lifted ≡ false

  pub record Lifts (m : ℕ) (q : ProcTree) : Type 0 where
    pub there : proc_of p.procs m ≡ Some q
    pub lifted : q.lifted ≡ true
    pub alone : q.captured ≡ []
    pub no_rest : q.rest ≡ false

  -- where a call goes back to
  pub data Calls (T : ℕ → Note → Type 0) (js : Waiting) (o : Option (List ℕ)) (old : List Entry) : Own → Type 0 where
    from_ready : {size l : ℕ} {ret : List Entry} → T l (Inside (AtValue js) (Here size) ret) → HasFrame js →
        Backs o ret old → Calls T js o old (Ready size l)
    from_away : js ≡ ToCaller → Calls T js o old Away

  -- each of these variables stands somewhere
  pub record Stand (xs : List ℕ) (old : List Entry) : Type 0 where
    pub stand : (y : ℕ) → IsIn y xs → (q : Spot) × IsIn (Stands q (Variable 0 y)) old

  -- the captured variables of these lambdas
  abbrev pub catches : List ℕ → List ℕ
  catches [] = []
  catches (m ∷ ms) = captured_in p m ++ catches ms

  -- each captured variable is one of the new ones, or stands somewhere
  pub record StandOr (ys xs : List ℕ) (old : List Entry) : Type 0 where
    pub stand_or : (x : ℕ) → IsIn x xs → IsIn x ys ⊎ ((q : Spot) × IsIn (Stands q (Variable 0 x)) old)

  -- all captured words are written
  pub record Fulls (ns ls : List ℕ) : Type 0 where
    pub fulls : (i m : ℕ) → slice_get ls i ≡ Some m → slice_get ns i ≡ Some (length (captured_in p m))

  pub data Onward (own : Own) (mid : List Entry) (made : ℕ) (ns xs ls : List ℕ) (k : Block) (js : Waiting) : Note → Type 0 where
    not_yet : Onward own mid made ns xs ls k js (Inside (AtAll made ns xs ls k js) own mid)
    all_done : {new : List Entry} → Settles k → made ≡ length xs → Fulls ns ls → From (Under None (free (settled k))) new mid →
        Onward own mid made ns xs ls k js (Inside (AtBlock (settled k) js) own new)

  -- T are the notes of places, F those of places further on
  module _ (T F : ℕ → Note → Type 0) where
    pub data Ok : Instr → Option Place → Note → Option Note → Type 0 where
      -- moves
      ok_load : {d s size : ℕ} {pt : Point} {old new : List Entry} (z : Symbol) → d < 17 → IsIn (Stands (Slot s) z) old →
          Into (Reg d) (StandsAt (Slot s) old) Same new old →
          Ok (I.Load d s) None (Inside pt (Here size) old) (Some (Inside pt (Here size) new))
      ok_store : {s a size : ℕ} {pt : Point} {old new : List Entry} (z : Symbol) → s < size → IsIn (Stands (Reg a) z) old →
          Into (Slot s) (StandsAt (Reg a) old) Same new old →
          Ok (I.Store a s) None (Inside pt (Here size) old) (Some (Inside pt (Here size) new))
      ok_const : (i : Instr) (c : Const) {d : ℕ} {pt : Point} {own : Own} {old new : List Entry} → i ≡ constant p.statics d c →
          IsWritten p.statics c → d < 17 → Into (Reg d) (IsThat (Constant c)) Same new old →
          Ok i None (Inside pt own old) (Some (Inside pt own new))
      -- frames
      ok_save : {size : ℕ} {pt : Point} {old new : List Entry} → From Same new old →
          Ok (I.Save size) None (Inside pt Away old) (Some (Inside pt (Here size) new))
      ok_setrtn : {size l : ℕ} {pt : Point} {old new : List Entry} → From Same new old →
          Ok (I.SetRtn l) None (Inside pt (Here size) old) (Some (Inside pt (Ready size l) new))
      ok_pop : {size : ℕ} {pt : Point} {old new : List Entry} → NoSlots new → From Same new old →
          Ok (I.Pop size) None (Inside pt (Here size) old) (Some (Inside pt Away new))
      ok_jump : {l : ℕ} {pt : Point} {own : Own} {old new : List Entry} → F l (Inside pt own new) → From Same new old →
          Ok (I.Jump l) None (Inside pt own old) None
      -- forms
      ok_form : (b : Block) {k size : ℕ} {old : List Entry} → Settles b → form_of (slice_get p.procs k) ≡ Some (InBlock b) →
          Ok (I.Save size) None (Inside (AtValue (ToTop k)) Away old)
          (Some (Inside (AtBlock (settled b) (ToTop (suc k))) (Here size) []))
      ok_end : {k : ℕ} {old : List Entry} → form_of (slice_get p.procs k) ≡ None →
          Ok I.End None (Inside (AtValue (ToTop k)) Away old) None
      -- operations with a value
      ok_act : (op : Op) (rs : List ℕ) {i : Instr} {d : ℕ} {b : Block} {js gs : Waiting} {o : Option (List ℕ)} {own : Own}
          {old new : List Entry} → Acts op i rs d → OpAt (captured_in p) op b js gs o → d < 17 → Args old rs (operands op) →
          Into (Reg d) IsFirst (Under o []) new old →
          Ok i (place op) (Inside (AtBlock b js) own old) (Some (Inside (AtValue gs) own new))
      ok_read : {x d s size : ℕ} {b : Block} {js gs : Waiting} {o : Option (List ℕ)} {old new : List Entry} →
          OpAt (captured_in p) (Atom (Var x)) b js gs o → d < 17 → IsIn (Stands (Slot s) (Variable 0 x)) old →
          Into (Reg d) IsFirst (Under o []) new old →
          Ok (I.Load d s) None (Inside (AtBlock b js) (Here size) old) (Some (Inside (AtValue gs) (Here size) new))
      ok_write : (op : Op) (rs : List ℕ) {i : Instr} {b : Block} {js gs : Waiting} {o : Option (List ℕ)} {own : Own}
          {old new : List Entry} → Writes op i rs → OpAt (captured_in p) op b js gs o → Args old rs (operands op) →
          From (Under o []) new old →
          Ok i (place op) (Inside (AtBlock b js) own old) (Some (Inside (AtUnspecified gs) own new))
      ok_unspecified : {d : ℕ} {js : Waiting} {own : Own} {old new : List Entry} → d < 17 → Into (Reg d) IsFirst Same new old →
          Ok (I.Imm d (imm_bits unspecified)) None (Inside (AtUnspecified js) own old) (Some (Inside (AtValue js) own new))
      ok_given : (x : ℕ) (k : Block) {a s size l : ℕ} {js : Waiting} {old new : List Entry} → Settles k → s < size →
          IsIn (Stands (Reg a) (Variable 0 0)) old → Into (Slot s) (IsNew x (free (settled k))) (Given x (free (settled k))) new old →
          Ok (I.Store a s) None (Inside (AtValue (Then x k l js)) (Here size) old) (Some (Inside (AtBlock (settled k) js) (Here size) new))
      ok_branch : {a l : ℕ} {t : Operand} {b c k : Block} {js gs : Waiting} {o : Option (List ℕ)} {own : Own}
          {old new1 new2 : List Entry} → Settles b → Settles c → OpAt (captured_in p) (Branch t b c) k js gs o → IsIn (Stands (Reg a) (symbol_of t)) old →
          From (Under o (free (settled b))) new1 old → T l (Inside (AtBlock (settled c) gs) own new2) →
          From (Under o (free (settled c))) new2 old →
          Ok (I.Brf a l) None (Inside (AtBlock k js) own old) (Some (Inside (AtBlock (settled b) gs) own new1))
      ok_return : {old : List Entry} → IsIn (Stands (Reg 16) (Variable 0 0)) old →
          Ok I.Return None (Inside (AtValue ToCaller) Away old) None
      -- calls
      ok_invoke : {n : ℕ} {f : Operand} {ds : List Operand} {q : Place} {b : Block} {js gs : Waiting} {o : Option (List ℕ)}
          {own : Own} {old : List Entry} → OpAt (captured_in p) (Call f ds q) b js gs o → n ≡ length ds → n ≤ 12 →
          Args old (from_register 0 (f ∷ ds)) (f ∷ ds) → Calls T gs o old own →
          Ok (I.Invoke n) (Some q) (Inside (AtBlock b js) own old) None
      ok_apply : {f a : Operand} {q : Place} {b : Block} {js gs : Waiting} {o : Option (List ℕ)} {own : Own} {old : List Entry} →
          OpAt (captured_in p) (Apply f a q) b js gs o → Args old (0 ∷ 1 ∷ []) (f ∷ a ∷ []) → Calls T gs o old own →
          Ok I.Apply (Some q) (Inside (AtBlock b js) own old) None
      ok_direct : (m : ℕ) (q : ProcTree) {l : ℕ} {ds : List Operand} {b : Block} {js gs : Waiting} {o : Option (List ℕ)}
          {own : Own} {old new : List Entry} → OpAt (captured_in p) (Direct m ds) b js gs o → Lifts m q →
          length ds ≡ length q.params → length ds ≤ 12 → Args old (from_register 1 ds) ds → T l (AtLifted m new) → StartsLifted q.params (free q.body) new →
          Calls T gs o old own → Ok (I.Jump l) None (Inside (AtBlock b js) own old) None
      -- entries
      ok_proc : (m : ℕ) (q : ProcTree) → Entered m q → Ok (I.Proc m) None (AtProc m) (Some (AtArgs m))
      ok_lifted : (m : ℕ) (q : ProcTree) {old new : List Entry} → Settles q.body → Lifts m q → StartsLifted q.params (free (settled q.body)) new → From Same new old →
          Ok (I.Proc m) None (AtLifted m old) (Some (Inside (AtBlock (settled q.body) ToCaller) Away new))
      ok_args : (m : ℕ) (q : ProcTree) {n : ℕ} {new : List Entry} → Settles q.body → Entered m q → q.rest ≡ false → n ≡ length q.params →
          IsApart q.captured → Caught q.params q.captured (free (settled q.body)) → Starts m q.params (free (settled q.body)) new →
          Ok (I.Args n) (Some q.place) (AtArgs m) (Some (Inside (AtBlock (settled q.body) ToCaller) Away new))
      ok_args_ge : (m : ℕ) (q : ProcTree) {n : ℕ} {new : List Entry} → Settles q.body → Entered m q → q.rest ≡ true → suc n ≡ length q.params → n ≤ 11 →
          IsApart q.captured → Caught q.params q.captured (free (settled q.body)) → Starts m q.params (free (settled q.body)) new →
          Ok (I.ArgsGe n) (Some q.place) (AtArgs m) (Some (Inside (AtBlock (settled q.body) ToCaller) Away new))
      ok_capt : (m x : ℕ) (q : ProcTree) {d a j : ℕ} {own : Own} {old new : List Entry} → d < 17 → Entered m q →
          slice_get q.captured j ≡ Some x → IsIn (Stands (Reg a) (Itself m)) old → Into (Reg d) (IsThat (Variable 0 x)) Same new old →
          Ok (I.Capt d a j) None (Inside (AtBlock (settled q.body) ToCaller) own old) (Some (Inside (AtBlock (settled q.body) ToCaller) own new))
      -- a new procedure, which captures nothing, or is filled
      ok_close : (m : ℕ) (q : ProcTree) {l d : ℕ} {b : Block} {js gs : Waiting} {o : Option (List ℕ)} {own : Own}
          {old new : List Entry} → OpAt (captured_in p) (Close m) b js gs o → d < 17 → Entered m q → q.captured ≡ [] →
          T l (AtProc m) → Into (Reg d) IsFirst (Under o []) new old →
          Ok (I.Clo d 0 l) None (Inside (AtBlock b js) own old) (Some (Inside (AtValue gs) own new))
      ok_open : (m : ℕ) (q : ProcTree) {l n d : ℕ} {b : Block} {js gs : Waiting} {o : Option (List ℕ)} {own : Own}
          {old new : List Entry} → OpAt (captured_in p) (Close m) b js gs o → d < 17 → Entered m q → n ≡ length q.captured → 1 ≤ n →
          Stand q.captured old → T l (AtProc m) → Into (Reg d) IsFirst (Opens o q.captured) new old →
          Ok (I.Clo d n l) None (Inside (AtBlock b js) own old) (Some (Inside (AtFill m 0 gs) own new))
      ok_fill : {m a b j : ℕ} {js : Waiting} {own : Own} {old new : List Entry} → suc j < length (captured_in p m) →
          IsIn (Stands (Reg a) (Variable 0 0)) old → IsIn (Stands (Reg b) (Capture j)) old → From Same new old →
          Ok (I.CaptSet a b j) None (Inside (AtFill m j js) own old) (Some (Inside (AtFill m (suc j) js) own new))
      ok_filled : {m a b j : ℕ} {js : Waiting} {own : Own} {old new : List Entry} → suc j ≡ length (captured_in p m) →
          IsIn (Stands (Reg a) (Variable 0 0)) old → IsIn (Stands (Reg b) (Capture j)) old → From Same new old →
          Ok (I.CaptSet a b j) None (Inside (AtFill m j js) own old) (Some (Inside (AtValue js) own new))
      -- procedures that are made together
      ok_first : {x m d n l : ℕ} {xs ls : List ℕ} {q : ProcTree} {k : Block} {js : Waiting} {own : Own} {old mid : List Entry} {new : Note} →
          d < 17 → Entered m q → n ≡ length q.captured → T l (AtProc m) → IsApart (x ∷ xs) → length xs ≡ length ls →
          StandOr (x ∷ xs) (catches (m ∷ ls)) old →
          Into (Reg d) (IsThat (Variable 0 x)) (Kept (x ∷ xs) (free (CloseAll (x ∷ xs) (m ∷ ls) k))) mid old →
          Onward own mid 1 (zeros (m ∷ ls)) (x ∷ xs) (m ∷ ls) k js new →
          Ok (I.Clo d n l) None (Inside (AtBlock (CloseAll (x ∷ xs) (m ∷ ls) k) js) own old) (Some new)
      ok_next : {x m d n l made : ℕ} {ns xs ls : List ℕ} {q : ProcTree} {k : Block} {js : Waiting} {own : Own} {old mid : List Entry} {new : Note} →
          d < 17 → Entered m q → n ≡ length q.captured → T l (AtProc m) → slice_get xs made ≡ Some x → slice_get ls made ≡ Some m →
          slice_get ns made ≡ Some 0 → length xs ≡ length ls → Into (Reg d) (IsThat (Variable 0 x)) Same mid old →
          Onward own mid (suc made) ns xs ls k js new →
          Ok (I.Clo d n l) None (Inside (AtAll made ns xs ls k js) own old) (Some new)
      ok_stored : (z : Symbol) {s a size made : ℕ} {ns xs ls : List ℕ} {k : Block} {js : Waiting} {old mid : List Entry} {new : Note} →
          s < size → IsIn (Stands (Reg a) z) old → Into (Slot s) (StandsAt (Reg a) old) Same mid old → length xs ≡ length ls →
          Onward (Here size) mid made ns xs ls k js new →
          Ok (I.Store a s) None (Inside (AtAll made ns xs ls k js) (Here size) old) (Some new)
      ok_word : (i x y m : ℕ) {a b j made : ℕ} {ns xs ls : List ℕ} {k : Block} {js : Waiting} {own : Own} {old mid : List Entry} {new : Note} →
          slice_get xs i ≡ Some x → slice_get ls i ≡ Some m → slice_get ns i ≡ Some j → slice_get (captured_in p m) j ≡ Some y → length xs ≡ length ls →
          IsIn (Stands (Reg a) (Variable 0 x)) old → IsIn (Stands (Reg b) (Variable 0 y)) old → From Same mid old →
          Onward own mid made (slice_set ns i (suc j)) xs ls k js new →
          Ok (I.CaptSet a b j) None (Inside (AtAll made ns xs ls k js) own old) (Some new)

  abbrev pub HasNote : List Note → ℕ → Note → Type 0
  HasNote notes pc n = slice_get notes pc ≡ Some n

  abbrev pub Further : List Note → ℕ → ℕ → Note → Type 0
  Further notes pc x n = (pc < x) × HasNote notes x n

  abbrev pub Falls : List Note → ℕ → Option Note → Type 0
  Falls notes pc None = Unit {0}
  Falls notes pc (Some n) = HasNote notes (pc + 1) n

-- code follows its notes: each instruction is what its note says, with its place and its live map, and what it refers
-- to is that of the program
pub record Follows (p : AnfTree) (notes : List Note) (c : Assembled) : Type 0 where
  pub each : (pc : ℕ) (n : Note) → HasNote p notes pc n → (i : Instr) × (slice_get c.code pc ≡ Some i) ×
      ((o : Option Note) × Ok p (HasNote p notes) (Further p notes pc) i (place_of c.places pc) n o × Falls p notes pc o)
  pub maps : (pc : ℕ) (n : Note) → HasNote p notes pc n → slice_get c.maps pc ≡ Some (note_map n)
  pub globals : c.parts.globals ≡ p.globals
  pub statics : c.parts.statics ≡ p.statics
  pub lambdas : (m : ℕ) (q : ProcTree) → proc_of p.procs m ≡ Some q → is_lifted c.parts.lambdas m ≡ q.lifted
