-- How a state of the MAC machine and one of the A-normal form's are related through the note at the instruction.
use Rattle.std.proofs.Common.{◌≡◌, ℕ, zero, suc, ◌<◌, ◌≤◌, ◌+◌, ◌-◌, ◌/◌, ◌%◌, ◌^◌, ◌⊎◌, ◌==◌, Bool, cond, true, false, List, [], ◌∷◌, ◌++◌, length, Option, Some, None, slice_get}
use Rattle.std.specs.Prelude.{ℤ, pos, nat_le, IsTrue}
use Rattle.tb_prim.specs.declared.constant.Static.{Static}
use Rattle.tb_prim.specs.declared.event.Event.{Event}
use Rattle.tb_prim.specs.declared.event.Stop.{Stop}
use Rattle.tb_prim.specs.declared.event.Taken.{Taken}
use Rattle.tb_semantics.specs.Graph.{IsIn, Reaches}
use Rattle.tb_core.specs.Space.{values_locations}
use Rattle.tb_core.specs.Store.{Value, At, value_of, Pair, Vec, Str, Sym}
use Rattle.tb_core.specs.Store.{Nil, Unspecified, Undefined, EndObject, Truth}
use Rattle.tb_ir.specs.AnfTree.{Block, ProcTree, AnfTree}
use Rattle.tb_ir.specs.AnfMachine.{AnfConfig, AnfFrames, AnfState, AnfWork, Binding, Code, InBlock, language}
use Rattle.tb_ir.specs.Machine.{Callee, Closure, Lifted, Control, Entering, Env, Empty, Eval, Bound, Frame, Item, Cell, Obj, Clo, Own as OwnWork, Running, Lost, Stopped, Top, Val, bind_all, emit, gather, lookup, mark_top, step}
use Rattle.tb_ir.specs.Space.{control_locations, frames_locations, made, marks, store_graph}
use Rattle.tb_mac.specs.declared.word.Word.{Word}
use Rattle.tb_mac.specs.declared.word.Word.TheVariants as W
use Rattle.tb_mac.specs.Layout.{addresses_from, static_tag}
use Rattle.tb_mac.specs.Frames.{Frame as MacFrame, Framed}
use Rattle.tb_mac.specs.FramedRuns.{FramedState, Runs, Stays, is_full_stop}
use Rattle.tb_mac.specs.LiveWords.{closure_count, data_size, object_size as words_from}
use Rattle.tb_mac.specs.Objects.{cell_kind, pair_tag, procedure_kind, procedure_tag, string_kind, string_tag, symbol_kind, vector_kind, vector_tag}
use Rattle.tb_codegen.specs.Notes.{Spot, Reg, Slot, Symbol, Constant, Variable, Itself, Capture, Entry, Stands, Waiting, ToCaller, ToTop, Then, Point, AtBlock, AtValue, AtUnspecified, AtFill, AtAll, Own, Away, Here, Ready, Note, Inside, AtProc, AtArgs, AtLifted}
use Rattle.tb_codegen.specs.Generate.{captured_in}
use Rattle.tb_codegen.proofs.Changes.{StartsLifted}
use Rattle.tb_codegen.proofs.Ok.{HasNote, Lifts, free}

-- an address stands for a location; the tag of its pointers
pub data Link : Type 0 where
  Lk : (t a l : ℕ) → Link

abbrev pub World : Type 0
World = List Link

abbrev pub Grows : World → World → Type 0
Grows w z = (k : Link) → IsIn k w → IsIn k z

-- a word stands for a value
pub data WRel (w : World) : Word → Value → Type 0 where
  w_fix : (v : ℤ) → WRel w (W.Fix v) (Value.Fix v)
  w_char : (c : ℕ) → WRel w (W.Char c) (Value.Char c)
  w_false : WRel w (W.Special 0) (Truth false)
  w_true : WRel w (W.Special 1) (Truth true)
  w_nil : WRel w (W.Special 2) Nil
  w_unspecified : WRel w (W.Special 3) Unspecified
  w_undefined : WRel w (W.Special 4) Undefined
  w_end : WRel w (W.Special 5) EndObject
  w_at : {t a l : ℕ} → IsIn (Lk t a l) w → WRel w (W.Pointer t a) (At l)

pub data WsRel (w : World) : List Word → List Value → Type 0 where
  ws_none : WsRel w [] []
  ws_more : {u : Word} {v : Value} {us : List Word} {vs : List Value} → WRel w u v → WsRel w us vs → WsRel w (u ∷ us) (v ∷ vs)

-- environments by depth, and the value of a name
abbrev pub env_at : List Env → ℕ → Env
env_at [] d = Empty
env_at (r ∷ rs) zero = r
env_at (r ∷ rs) (suc d) = env_at rs d

abbrev pub meaning : List Env → Symbol → Option Value
meaning rs (Constant c) = Some (value_of c)
meaning rs (Variable d y) = lookup (env_at rs d) y
meaning rs (Itself m) = None
meaning rs (Capture j) = None

module _ (p : AnfTree) where
  -- an environment has the captured variables of a lambda
  pub record Caps (r : Env) (m : ℕ) (us : List Value) : Type 0 where
    pub caps : (j x : ℕ) → slice_get (captured_in p m) j ≡ Some x → (u : Value) × (slice_get us j ≡ Some u) × (lookup r x ≡ Some u)

  -- the value of a symbol: a name's, the procedure whose captured variables are loaded, or what the procedure at hand
  -- captures
  pub data Means (st : List Item) (rs : List Env) : Symbol → Value → Type 0 where
    m_name : {s : Symbol} {v : Value} → meaning rs s ≡ Some v → Means st rs s v
    m_itself : (m l : ℕ) (us : List Value) → slice_get st l ≡ Some (Clo m (bind_all (captured_in p m) us Empty)) →
        length us ≡ length (captured_in p m) → Caps (env_at rs 0) m us → Means st rs (Itself m) (At l)
    m_capture : (j l m : ℕ) (us : List Value) {v : Value} → lookup (env_at rs 0) 0 ≡ Some (At l) →
        slice_get st l ≡ Some (Clo m (bind_all (captured_in p m) us Empty)) → length us ≡ length (captured_in p m) →
        slice_get us j ≡ Some v → Means st rs (Capture j) v

abbrev pub read : Spot → List Word → List Word → Option Word
read (Reg a) regs slots = slice_get regs a
read (Slot i) regs slots = slice_get slots i

-- a spot has the word of a name
pub record Has (w : World) (rs : List Env) (regs slots : List Word) (q : Spot) (s : Symbol) : Type 0 where
  pub value : Value
  pub word : Word
  pub means : meaning rs s ≡ Some value
  pub here : read q regs slots ≡ Some word
  pub rel : WRel w word value

-- the same for any symbol
pub record HasAny (p : AnfTree) (st : List Item) (w : World) (rs : List Env) (regs slots : List Word) (q : Spot) (s : Symbol) : Type 0 where
  pub value : Value
  pub word : Word
  pub means : Means p st rs s value
  pub here : read q regs slots ≡ Some word
  pub rel : WRel w word value

pub record Holds (p : AnfTree) (st : List Item) (w : World) (rs : List Env) (regs slots : List Word) (map : List Entry) : Type 0 where
  pub holds : (q : Spot) (s : Symbol) → IsIn (Stands q s) map → HasAny p st w rs regs slots q s

-- frames of the source
abbrev pub waits : Bool → ℕ → Block → Env → Frame AnfWork
waits marked x k r = record { marked = marked; work = OwnWork (Binding x k r) }

abbrev pub at_top : Bool → ℕ → Frame AnfWork
at_top marked k = record { marked = marked; work = Top k }

-- what waits and the frames that are not marked, above others
pub data JRel : Waiting → List Env → AnfFrames → AnfFrames → Type 0 where
  j_caller : {f : Frame AnfWork} {fs : AnfFrames} → JRel ToCaller [] (f ∷ fs) (f ∷ fs)
  j_top : (k : ℕ) → JRel (ToTop k) [] (at_top false k ∷ []) []
  j_then : (x : ℕ) (k : Block) (l : ℕ) (r : Env) {js : Waiting} {rs : List Env} {gs fs : AnfFrames} → JRel js rs gs fs →
      JRel (Then x k l js) (r ∷ rs) (waits false x k r ∷ gs) fs

-- what a frame keeps for its return
pub record Saved (w : World) (rs : List Env) (slots : List Word) (map : List Entry) : Type 0 where
  pub saved : (q : Spot) (s : Symbol) → IsIn (Stands q s) map →
      ((q ≡ Reg 16) × (s ≡ Variable 0 0)) ⊎ ((i : ℕ) × (q ≡ Slot i) × Has w (Empty ∷ rs) [] slots (Slot i) s)

pub data OwnRel : Own → List Word → List MacFrame → List MacFrame → Type 0 where
  o_away : {ms : List MacFrame} → OwnRel Away [] ms ms
  o_here : {u : Word} {slots : List Word} {size : ℕ} {ms : List MacFrame} → length slots ≡ size →
      OwnRel (Here size) slots (record { back = u; slots = slots } ∷ ms) ms
  o_ready : {l : ℕ} {slots : List Word} {size : ℕ} {ms : List MacFrame} → length slots ≡ size →
      OwnRel (Ready size l) slots (record { back = W.Code l; slots = slots } ∷ ms) ms

-- words that hold values; those past the first j are still the fixnum 0
pub data PRel (w : World) (heap : List Word) : ℕ → ℕ → List Value → Type 0 where
  p_none : {a j : ℕ} → PRel w heap a j []
  p_full : {a j : ℕ} {u : Word} {v : Value} {vs : List Value} → slice_get heap a ≡ Some u → WRel w u v →
      PRel w heap (suc a) j vs → PRel w heap a (suc j) (v ∷ vs)
  p_zero : {a : ℕ} {v : Value} {vs : List Value} → slice_get heap a ≡ Some (W.Fix (pos 0)) → PRel w heap (suc a) 0 vs →
      PRel w heap a 0 (v ∷ vs)

-- bytes four to a word
pub record BytesAt (heap : List Word) (a : ℕ) (cs : List ℕ) : Type 0 where
  pub bytes : (k c : ℕ) → slice_get cs k ≡ Some c → (bs : List ℕ) × (slice_get heap (a + k / 4) ≡ Some (W.Raw bs)) ×
      (slice_get bs (k % 4) ≡ Some c) × (length bs ≡ 4)

-- at most one procedure is being filled, or those from a location on: how many are made, and how many words of each
-- are written
pub data Open : Type 0 where
  Closed : Open
  Opened : ℕ → ℕ → Open
  OpenAll : ℕ → ℕ → List ℕ → Open

pub data Fill : Type 0 where
  Whole : Fill
  Part : ℕ → Fill

abbrev pub part_of : Option ℕ → Fill
part_of (Some j) = Part j
part_of None = Whole

abbrev pub fill_of : Open → ℕ → Fill
fill_of Closed l = Whole
fill_of (Opened m j) l = cond (m == l) (Part j) Whole
fill_of (OpenAll l0 c ns) l = cond (nat_le l0 l) (part_of (slice_get ns (l - l0))) Whole

abbrev pub filled : Fill → ℕ → ℕ
filled Whole n = n
filled (Part j) n = j

abbrev pub opened_by : ℕ → Control Code → Open
opened_by j (Val (At l)) = Opened l j
opened_by j c = Closed

abbrev pub first_of : List ℕ → ℕ
first_of [] = 0
first_of (x ∷ xs) = x

abbrev pub open_from : ℕ → List ℕ → Option Value → Open
open_from c ns (Some (At l)) = OpenAll l c ns
open_from c ns v = Closed

abbrev pub all_opened : ℕ → List ℕ → List ℕ → Control Code → Open
all_opened c ns xs (Bound k r) = open_from c ns (lookup r (first_of xs))
all_opened c ns xs control = Closed

abbrev pub open_of : Point → Control Code → Open
open_of (AtFill m j js) c = opened_by j c
open_of (AtAll n ns xs ls k js) c = all_opened n ns xs c
open_of pt c = Closed

abbrev pub tag_of : Item → ℕ
tag_of (Cell v) = vector_tag
tag_of (Obj (Pair a b)) = pair_tag
tag_of (Obj (Vec vs)) = vector_tag
tag_of (Obj (Str cs)) = string_tag
tag_of (Obj (Sym cs)) = string_tag
tag_of (Clo m r) = procedure_tag

-- no address stands for a location that is not made yet
abbrev pub IsBefore : Open → ℕ → Type 0
IsBefore (OpenAll l0 c ns) l = l < l0 + c
IsBefore Closed l = Unit {0}
IsBefore (Opened m j) l = Unit {0}

-- how many procedures of a group are still to be made
abbrev pub unmade : Open → ℕ
unmade Closed = 0
unmade (Opened l j) = 0
unmade (OpenAll l0 c ns) = length ns - c

-- objects follow one another from a word on, to the end of the heap: the procedures and the words of the others
pub data Chained (heap : List Word) : ℕ → ℕ → Type 0 where
  ch_end : {a : ℕ} → a ≡ length heap → Chained heap a 0
  ch_more : {a n : ℕ} {u : Word} → slice_get heap a ≡ Some u → Chained heap (a + words_from (Some u)) n →
      Chained heap a (closure_count (Some u) + data_size (Some u) + n)

module _ (p : AnfTree) (notes : List Note) where
  -- an item at an address
  pub data ORel (w : World) (heap : List Word) (q : Fill) (a : ℕ) : Item → Type 0 where
    o_cell : {v : Value} → slice_get heap a ≡ Some (W.Header cell_kind 1) → PRel w heap (a + 1) 1 (v ∷ []) → ORel w heap q a (Cell v)
    o_pair : {u v : Value} → PRel w heap a 2 (u ∷ v ∷ []) → ORel w heap q a (Obj (Pair u v))
    o_vector : {vs : List Value} → length vs < 2 ^ 24 → slice_get heap a ≡ Some (W.Header vector_kind (length vs)) →
        PRel w heap (a + 1) (length vs) vs → ORel w heap q a (Obj (Vec vs))
    o_string : {cs : List ℕ} → length cs < 2 ^ 24 → slice_get heap a ≡ Some (W.Header string_kind (length cs)) → BytesAt heap (a + 1) cs →
        ORel w heap q a (Obj (Str cs))
    o_symbol : {cs : List ℕ} → length cs < 2 ^ 24 → slice_get heap a ≡ Some (W.Header symbol_kind (length cs)) → BytesAt heap (a + 1) cs →
        ORel w heap q a (Obj (Sym cs))
    o_procedure : (m e : ℕ) (us : List Value) {r : Env} → slice_get heap a ≡ Some (W.Header procedure_kind (length us)) →
        slice_get heap (a + 1) ≡ Some (W.Code e) → HasNote p notes e (AtProc m) → length us ≡ length (captured_in p m) →
        r ≡ bind_all (captured_in p m) us Empty → PRel w heap (a + 2) (filled q (length us)) us → ORel w heap q a (Clo m r)

  pub record Linked (w : World) (o : Open) (heap : List Word) (st : List Item) (t a l : ℕ) : Type 0 where
    pub item : Item
    pub there : slice_get st l ≡ Some item
    pub tag : t ≡ tag_of item
    pub rel : ORel w heap (fill_of o l) a item

  -- the heap from its globals on, of which there are so many words, and the store
  pub record Stores (w : World) (o : Open) (globals : ℕ) (heap : List Word) (st : List Item) : Type 0 where
    pub linked : (t a l : ℕ) → IsIn (Lk t a l) w → Linked w o heap st t a l
    pub one_address : (t u a b l : ℕ) → IsIn (Lk t a l) w → IsIn (Lk u b l) w → a ≡ b
    pub before : (t a l : ℕ) → IsIn (Lk t a l) w → IsBefore o l
    pub behind : (t a l : ℕ) → IsIn (Lk t a l) w → globals ≤ a
    pub apart : (t u a b l m : ℕ) → IsIn (Lk t a l) w → IsIn (Lk u b m) w → (l ≡ m → ⊥) →
        (a + words_from (slice_get heap a) ≤ b) ⊎ (b + words_from (slice_get heap b) ≤ a)
    pub within : (t a l : ℕ) → IsIn (Lk t a l) w → a + words_from (slice_get heap a) ≤ length heap
    pub total : ℕ
    pub chained : Chained heap globals total
    pub made : total + unmade o ≤ made st

-- what is ahead of the input
pub data InRel : Option Taken → List ℕ → List ℕ → Bool → Type 0 where
  i_none : (bs : List ℕ) → InRel None bs bs false
  i_byte : (b : ℕ) (bs : List ℕ) → InRel (Some (Taken.Byte b)) bs (b ∷ bs) false
  i_end : (bs cs : List ℕ) → InRel (Some Taken.End) bs cs true

-- procedures that are being made together
pub record AllFacts (p : AnfTree) (st : List Item) (l0 : ℕ) (xs ls : List ℕ) (r : Env) : Type 0 where
  pub start : lookup r (first_of xs) ≡ Some (At l0)
  pub named : (i x : ℕ) → slice_get xs i ≡ Some x → lookup r x ≡ Some (At (l0 + i))
  pub values : (i m : ℕ) → slice_get ls i ≡ Some m → (us : List Value) ×
      (slice_get st (l0 + i) ≡ Some (Clo m (bind_all (captured_in p m) us Empty))) × (length us ≡ length (captured_in p m)) × Caps p r m us

-- the registers at the entry of a procedure
pub data Ins (w : World) (regs : List Word) : ℕ → List Value → Type 0 where
  in_none : {i : ℕ} → Ins w regs i []
  in_more : {i : ℕ} {u : Word} {v : Value} {vs : List Value} → slice_get regs i ≡ Some u → WRel w u v → Ins w regs (suc i) vs →
      Ins w regs i (v ∷ vs)

pub record AtCall (p : AnfTree) (w : World) (st : List Item) (m : ℕ) (regs : List Word) (l : ℕ) (vs : List Value) : Type 0 where
  pub itself : ℕ
  pub caught : List Value
  pub link : IsIn (Lk procedure_tag itself l) w
  pub item : slice_get st l ≡ Some (Clo m (bind_all (captured_in p m) caught Empty))
  pub long : length caught ≡ length (captured_in p m)
  pub reg0 : slice_get regs 0 ≡ Some (W.Pointer procedure_tag itself)
  pub number : slice_get regs 16 ≡ Some (W.Fix (pos (length vs)))
  pub few : length vs ≤ 12
  pub ops : Ins w regs 1 vs

module _ (p : AnfTree) (notes : List Note) where
  -- frames that wait for a procedure to come back
  pub data FsRel (w : World) : AnfFrames → List MacFrame → Type 0 where
    f_none : FsRel w [] []
    f_then : (x : ℕ) (k : Block) (l : ℕ) (r : Env) {e size : ℕ} {js : Waiting} {rs : List Env} {gs fs : AnfFrames} {slots : List Word}
        {ms : List MacFrame} {map : List Entry} → HasNote p notes e (Inside (AtValue (Then x k l js)) (Here size) map) →
        JRel js rs gs fs → length slots ≡ size → Saved w (r ∷ rs) slots map → FsRel w fs ms →
        FsRel w (waits true x k r ∷ gs) (record { back = W.Code e; slots = slots } ∷ ms)
    f_top : (k : ℕ) {e size : ℕ} {slots : List Word} {map : List Entry} → HasNote p notes e (Inside (AtValue (ToTop k)) (Here size) map) →
        length slots ≡ size → Saved w [] slots map → FsRel w (at_top true k ∷ []) (record { back = W.Code e; slots = slots } ∷ [])

  -- an environment has these variables alone
  pub record IsCut (xs : List ℕ) (r : Env) : Type 0 where
    pub whole : Env
    pub cut : r ≡ gather xs whole

  -- where the source stands: its environments, its frames, those of them that are marked below, and what it does next
  pub data PtRel (st : List Item) : Point → List Env → AnfFrames → AnfFrames → Control Code → Type 0 where
    at_block : (b : Block) (r : Env) {js : Waiting} {rs : List Env} {gs fs : AnfFrames} → IsCut (free p b) r → JRel js rs gs fs →
        PtRel st (AtBlock b js) (r ∷ rs) gs fs (Eval (InBlock b) r)
    at_value : (v : Value) {js : Waiting} {rs : List Env} {gs fs : AnfFrames} → JRel js rs gs fs →
        PtRel st (AtValue js) (Env.Bind 0 v Empty ∷ rs) gs fs (Val v)
    at_unspecified : {js : Waiting} {rs : List Env} {gs fs : AnfFrames} → JRel js rs gs fs →
        PtRel st (AtUnspecified js) (Env.Bind 0 Unspecified Empty ∷ rs) gs fs (Val Unspecified)
    at_fill : (m j l : ℕ) (us : List Value) {js : Waiting} {rs : List Env} {gs fs : AnfFrames} → JRel js rs gs fs →
        slice_get st l ≡ Some (Clo m (bind_all (captured_in p m) us Empty)) → length us ≡ length (captured_in p m) →
        PtRel st (AtFill m j js) (Env.Bind 0 (At l) Empty ∷ rs) gs fs (Val (At l))
    at_all : (l0 made : ℕ) (ns xs ls : List ℕ) (k : Block) (r : Env) {js : Waiting} {rs : List Env} {gs fs : AnfFrames} →
        JRel js rs gs fs → AllFacts p st l0 xs ls r → PtRel st (AtAll made ns xs ls k js) (r ∷ rs) gs fs (Bound (InBlock k) r)

  -- the words of the globals, padding included
  abbrev pub globals_words : ℕ
  globals_words = length p.globals + length p.globals % 2

  -- memories: the store and the heap, the globals, and the input
  pub record Memory (w : World) (o : Open) (heap : List Word) (st : List Item) (globals : List Value) (ahead : Option Taken)
      (input : List ℕ) (cin : List ℕ) (met : Bool) : Type 0 where
    pub stores : Stores p notes w o globals_words heap st
    pub held : PRel w heap 0 (length globals) globals
    pub count : length globals ≡ length p.globals
    pub padded : (k : ℕ) → length p.globals ≤ k → k < globals_words → slice_get heap k ≡ Some (W.Fix (pos 0))
    pub inputs : InRel ahead input cin met
    pub statics : (n : ℕ) (s : Static) → slice_get p.statics n ≡ Some s →
        (a : ℕ) × (slice_get (addresses_from globals_words p.statics) n ≡ Some a) × IsIn (Lk (static_tag s) a n) w

  abbrev pub step_of : AnfState → AnfState
  step_of = step (language p)

  abbrev pub config : Control Code → AnfFrames → List Value → List Item → List ℕ → Bool → AnfConfig
  config control gs globals st cin met = record { control = control; frames = gs; globals = globals; store = st; input = cin; met_end = met }

  abbrev pub framed : ℕ → List Word → List Word → List Word → List MacFrame → Option Taken → Framed
  framed pc regs heap gap frames ahead = record { pc = pc; registers = regs; heap = heap; gap = gap; frames = frames; ahead = ahead }

  -- the source is about to enter a procedure by one step, and these locations can be reached
  pub record AboutTo (c : AnfConfig) (callee : Callee) (vs : List Value) (m : ℕ) (es : List Event) (ls : List ℕ) : Type 0 where
    pub enters : step_of (Running c es) ≡ Running (record c { control = Entering callee vs; frames = mark_top c.frames }) (emit es (Event.Enter m))
    pub reached : (l : ℕ) → IsIn l ls → Reaches (store_graph (language p).values (length p.statics) c) l

  -- a configuration holds what another does
  pub record Onto (c d : AnfConfig) : Type 0 where
    pub store : d.store ≡ c.store
    pub globals : d.globals ≡ c.globals
    pub marked : marks d.frames ≡ marks c.frames
    pub roots : (l : ℕ) → IsIn l (control_locations c.control ++ frames_locations (language p).values c.frames) →
        IsIn l (control_locations d.control ++ frames_locations (language p).values d.frames)

  pub data Rel (w : World) : FramedState → AnfState → Type 0 where
    r_inside : {pc : ℕ} {regs heap gap slots : List Word} {top ms : List MacFrame} {ahead : Option Taken} {input cin : List ℕ}
        {control : Control Code} {gs fs : AnfFrames} {globals : List Value} {st : List Item} {met : Bool} {pt : Point} {own : Own}
        {map : List Entry} {rs : List Env} (es : List Event) → HasNote p notes pc (Inside pt own map) → PtRel st pt rs gs fs control →
        Holds p st w rs regs slots map → OwnRel own slots top ms → FsRel w fs ms →
        Memory w (open_of pt control) heap st globals ahead input cin met → length regs ≡ 17 →
        Rel w (Runs (framed pc regs heap gap top ahead) input es) (Running (config control gs globals st cin met) es)
    -- at the `proc` of a procedure, and where its operands are counted
    r_calls : {pc m l : ℕ} {regs heap gap : List Word} {ms : List MacFrame} {ahead : Option Taken} {input cin : List ℕ}
        {control : Control Code} {f : Frame AnfWork} {gs fs : AnfFrames} {globals : List Value} {st : List Item} {met : Bool} {vs : List Value}
        (es : List Event) → HasNote p notes pc (AtProc m) → AtCall p w st m regs l vs →
        AboutTo (config control gs globals st cin met) (Closure l) vs m es (l ∷ values_locations vs) →
        f ∷ fs ≡ mark_top gs → FsRel w (f ∷ fs) ms → Memory w Closed heap st globals ahead input cin met → length regs ≡ 17 →
        Rel w (Runs (framed pc regs heap gap ms ahead) input es) (Running (config control gs globals st cin met) es)
    r_args : {pc m l : ℕ} {regs heap gap : List Word} {ms : List MacFrame} {ahead : Option Taken} {input cin : List ℕ}
        {f : Frame AnfWork} {fs : AnfFrames} {globals : List Value} {st : List Item} {met : Bool} {vs : List Value}
        (es : List Event) → HasNote p notes pc (AtArgs m) → AtCall p w st m regs l vs → FsRel w (f ∷ fs) ms →
        Memory w Closed heap st globals ahead input cin met → length regs ≡ 17 →
        Rel w (Runs (framed pc regs heap gap ms ahead) input es) (Running (config (Entering (Closure l) vs) (f ∷ fs) globals st cin met) es)
    -- at the `proc` of a procedure that is lifted
    r_lifted : {pc m : ℕ} {regs heap gap : List Word} {ms : List MacFrame} {ahead : Option Taken} {input cin : List ℕ}
        {control : Control Code} {f : Frame AnfWork} {gs fs : AnfFrames} {globals : List Value} {st : List Item} {met : Bool} {vs : List Value}
        {map : List Entry} (es : List Event) (q : ProcTree) → HasNote p notes pc (AtLifted m map) → Lifts p m q →
        StartsLifted q.params (free p q.body) map → length vs ≡ length q.params → Ins w regs 1 vs →
        AboutTo (config control gs globals st cin met) (Lifted m) vs m es (values_locations vs) →
        f ∷ fs ≡ mark_top gs → FsRel w (f ∷ fs) ms → Memory w Closed heap st globals ahead input cin met → length regs ≡ 17 →
        Rel w (Runs (framed pc regs heap gap ms ahead) input es) (Running (config control gs globals st cin met) es)
    -- full, and stopped: what stood before
    r_full : {m : Framed} {stop : Stop} {input : List ℕ} {s : AnfState} {es : List Event} → IsTrue (is_full_stop stop) →
        Rel w (Runs m input es) s → Rel w (Stays m stop input es) s
    r_stopped : {m : Framed} {stop : Stop} {input : List ℕ} {c : AnfConfig} {es now : List Event} → Rel w (Runs m input es) (Running c es) →
        Rel w (Stays m stop input now) (Stopped c now)
    -- a failing operation, one step behind its block
    r_failed : {m : Framed} {stop : Stop} {input : List ℕ} {c d : AnfConfig} {es now : List Event} → Rel w (Runs m input es) (Running c es) →
        Onto c d → Rel w (Stays m stop input now) (Stopped d now)
    -- neither has a next step
    r_lost : {m : Framed} {stop : Stop} {input : List ℕ} {c d : AnfConfig} {es : List Event} → is_full_stop stop ≡ false → Rel w (Runs m input es) (Running c es) →
        Onto c d → Rel w (Stays m stop input es) (Lost d es)

  abbrev pub Goes : FramedState → AnfState → Type 0
  Goes t s = (w : World) × Rel w t s
