-- The fields of the instructions of generated code are in their ranges, its live maps keep their rules, and exactly
-- the instructions that can fail have a place.
use Rattle.std.proofs.Common.{◌≡◌, true≢false, ℕ, zero, suc, ◌<◌, ◌≤◌, ◌+◌, ◌^◌, Bool, true, false, cond, List, [], ◌∷◌, ◌++◌, length, Option, Some, None, is_some, IsSome, option_map, slice_get, refl, sym, ap, ◌∙◌, subst, inl, inr, lit<, lit≤, arith}
use Rattle.tb_prim.specs.declared.place.Place.{Place}
use Rattle.tb_prim.specs.declared.constant.Const.{Const}
use Rattle.tb_prim.specs.declared.constant.Static.{Static}
use Rattle.tb_prim.specs.declared.primitive.Primitive.{Primitive}
use Rattle.tb_prim.specs.declared.primitive.Primitive.TheVariants.{Cons}
use Rattle.tb_prim.specs.Primitives.{arity_of, can_fail, number_of, primitive_at}
use Rattle.tb_semantics.specs.Graph.{IsIn}
use Rattle.tb_ir.specs.AnfTree.{Operand, Quote, Var, Block, Bind, CloseAll, Tail, Op, Atom, Global, SetGlobal, DefGlobal, PrimUse, NewCell, CellGet, CellSet, Close, Call, Direct, Apply, Branch, ProcTree, AnfTree}
use Rattle.tb_ir.specs.AnfRules.{lambdas_of}
use Rattle.tb_mac.specs.declared.code.Instr.{Instr}
use Rattle.tb_mac.specs.declared.code.Instr.TheVariants as I
use Rattle.tb_mac.specs.Assemble.{with_target}
use Rattle.tb_mac.specs.Bounds.{extent}
use Rattle.tb_mac.specs.Layout.{const_word, static_tag}
use Rattle.tb_mac.specs.Rules.{InstrOk, MapOk, instr_can_fail}
use Rattle.tb_mac.specs.Words.{imm_bits, imm_word, on_some, unspecified}
use Rattle.tb_mac.proofs.Immediates.{imm_word-imm_bits}
use Rattle.tb_codegen.specs.Notes.{Entry, Waiting, ToCaller, ToTop, Then, Point, AtBlock, AtAll, Away, Here, Ready, Note, Inside, AtProc, AtArgs, AtLifted, Noted, Mark, Does, note_map, register_bits, slot_bits, any, is_register}
use Rattle.tb_codegen.specs.Operations.{Body, act, behind, block_map, constant, evaluated, fills, first_register, here, is_call, leaving, load, loads, loaded, operands, place, returning, simple, unspecified_result, use_of}
use Rattle.tb_codegen.specs.Generate.{all_words, block_note, captured_in, code_block, code_bound, code_last, counts, given, group, group_map, keep, labels_in, labels_of, last, makes, making_note, passed, passing, words, writes, zeros}
use Rattle.tb_codegen.specs.PlainCode.{entries, parts_of}
use Rattle.tb_codegen.proofs.Ok.{IsWritten}
use Rattle.tb_codegen.proofs.OperationChains.{body}
use Rattle.tb_codegen.proofs.CodeChains.{bound-plain, is_branch, last-plain}

-- live maps
bit-more : (b : Bool) (x m : ℕ) → x < m → x + cond b m 0 < m + m
bit-more true x m h = omega (arith, h)
bit-more false x m h = omega (arith, h)

bits-small : (es : List Entry) → register_bits es 17 < 2 ^ 17
bits-small es = up 16 (up 15 (up 14 (up 13 (up 12 (up 11 (up 10 (up 9 (up 8 (up 7 (up 6 (up 5 (up 4 (up 3 (up 2 (up 1 (up 0 (lit< tt)))))))))))))))))
  where
    up : (a : ℕ) → register_bits es a < 2 ^ a → register_bits es a + cond (any (is_register a) es) (2 ^ a) 0 < 2 ^ a + 2 ^ a
    up a h = bit-more (any (is_register a) es) (register_bits es a) (2 ^ a) h

slots-length : (es : List Entry) (x n : ℕ) → length (slot_bits es x n) ≡ n
slots-length es x zero = refl
slots-length es x (suc n) = ap suc (slots-length es (suc x) n)

-- a number of a primitive is that of one
primitive-found : (r : Primitive) → primitive_at (number_of r) ≡ Some r
primitive-found Cons = refl
primitive-found _ = refl

arity-found : (r : Primitive) (ds : List Operand) → length ds ≡ arity_of r → option_map arity_of (primitive_at (number_of r)) ≡ Some (length ds)
arity-found r ds e = ap (option_map arity_of) (primitive-found r) ∙ ap Some (sym e)

-- a primitive has a place exactly where it can fail
place-use : (r : Primitive) (q : Place) → is_some (cond (can_fail r) (Some q) None) ≡ on_some (primitive_at (number_of r)) false can_fail
place-use r q = there (can_fail r) ∙ sym (ap (λ (o : Option Primitive). on_some o false can_fail) (primitive-found r))
  where
    there : (b : Bool) → is_some (cond b (Some q) None) ≡ b
    there true = refl
    there false = refl

some-none : {X : Type 0} {x : X} → Some x ≡ None → ⊥
some-none e = cc

static-there : (ss : List Static) (j : ℕ) → j < length ss → slice_get ss j ≡ None → ⊥
static-there [] j g e = omega (arith, g)
static-there (s ∷ ss) zero g e = some-none e
static-there (s ∷ ss) (suc j) g e = static-there ss j (omega (arith, g)) e

end-or-more : (ls : List ℕ) (j : ℕ) → j < length ls → 1 ≤ length ls
end-or-more ls j h = omega (arith, h)

-- a note at which the frame is not larger than frames can be
abbrev pub SmallNote : Note → Type 0
SmallNote (Inside pt Away es) = Unit {0}
SmallNote (Inside pt (Here size) es) = size ≤ 1000
SmallNote (Inside pt (Ready size l) es) = size ≤ 1000
SmallNote (AtProc m) = Unit {0}
SmallNote (AtArgs m) = Unit {0}
SmallNote (AtLifted m es) = Unit {0}

pub small-map : (n : Note) → SmallNote n → MapOk (note_map n)
small-map (Inside pt Away es) h = record { registers = bits-small es; slots = tt }
small-map (Inside pt (Here size) es) h = record { registers = bits-small es; slots = subst (λ n. n ≤ 1000) (sym (slots-length es 0 size)) h }
small-map (Inside pt (Ready size l) es) h = record { registers = bits-small es; slots = subst (λ n. n ≤ 1000) (sym (slots-length es 0 size)) h }
small-map (AtProc m) h = record { registers = lit< tt; slots = tt }
small-map (AtArgs m) h = record { registers = lit< tt; slots = tt }
small-map (AtLifted m es) h = record { registers = bits-small es; slots = tt }

-- register 0 is stored nowhere
abbrev pub SparesFirst : Instr → Type 0
SparesFirst (I.Store a s) = 1 ≤ a
SparesFirst i = Unit {0}

module _ (p : AnfTree) (w : ℕ) (narrow : w ≤ 1000) where
  -- an instruction with its map and place
  pub record Good (i : Instr) (n : Note) (q : Option Place) : Type 0 where
    pub field_ok : InstrOk (parts_of p) 1 (with_target (λ l. 0) i)
    pub map_ok : SmallNote n
    pub place_ok : is_some q ≡ instr_can_fail i
    pub small : extent i ≤ w
    pub spares_first : SparesFirst i

  abbrev pub AllGood : List Noted → Type 0
  AllGood [] = Unit {0}
  AllGood (Mark l n ∷ is) = AllGood is
  AllGood (Does i n q ∷ is) = Good i n q × AllGood is

  pub good-append : (is js : List Noted) → AllGood is → AllGood js → AllGood (is ++ js)
  good-append [] js g h = h
  good-append (Mark l n ∷ is) js g h = good-append is js g h
  good-append (Does i n q ∷ is) js g h = (g.0, good-append is js g.1 h)

  pub entries-length : length (entries 0 (lambdas_of p)) ≡ length (lambdas_of p)
  entries-length = same 0 (lambdas_of p)
    where
      same : (n : ℕ) (qs : List ProcTree) → length (entries n qs) ≡ length qs
      same n [] = refl
      same n (q ∷ qs) = ap suc (same (suc n) qs)

  module _ (home : ℕ → ℕ) (size : ℕ) (narrow_frame : size ≤ w) where
    abbrev c : Body
    c = body p [] home size

    pub few_slots : size ≤ 1000
    few_slots = omega (arith, narrow, narrow_frame)

    -- an atom whose constant is written, or whose variable has a slot
    abbrev pub AtomGood : Operand → Type 0
    AtomGood (Quote k) = IsWritten p.statics k
    AtomGood (Var x) = home x < size

    abbrev pub AtomsGood : List Operand → Type 0
    AtomsGood [] = Unit {0}
    AtomsGood (d ∷ ds) = AtomGood d × AtomsGood ds

    slot-small : (x : ℕ) → home x < size → home x < 1000
    slot-small x h = let f = few_slots in omega (arith, h, f)

    special-good : (a x : ℕ) (n : Note) → a ≤ 16 → IsSome (imm_word x) → SmallNote n → Good (I.Imm a x) n None
    special-good a x n lt e m = record { field_ok = (lt, e); map_ok = m; place_ok = refl; small = omega arith; spares_first = tt }

    constant-good : (a : ℕ) (k : Const) (n : Note) → a ≤ 16 → IsWritten p.statics k → SmallNote n → Good (constant p.statics a k) n None
    constant-good a (Const.Fix v) n lt h m = special-good a _ n lt (ap is_some (imm_word-imm_bits (const_word [] [] (Const.Fix v)) h)) m
    constant-good a (Const.Char ch) n lt h m = special-good a _ n lt (ap is_some (imm_word-imm_bits (const_word [] [] (Const.Char ch)) h)) m
    constant-good a (Const.Bool true) n lt h m = special-good a _ n lt refl m
    constant-good a (Const.Bool false) n lt h m = special-good a _ n lt refl m
    constant-good a Const.Nil n lt h m = special-good a _ n lt refl m
    constant-good a Const.Unspecified n lt h m = special-good a _ n lt refl m
    constant-good a Const.Undefined n lt h m = special-good a _ n lt refl m
    constant-good a (Const.Stat k) n lt h m =
        by (slice_get p.statics k) refl
      where
        by : (o : Option Static) → slice_get p.statics k ≡ o → Good (I.Stat a (on_some (slice_get p.statics k) 0 static_tag) k) n None
        by (Some s) e = record {
          field_ok = (lt, ap (option_map static_tag) e ∙ ap (λ t. Some (on_some t 0 static_tag)) (sym e));
          map_ok = m;
          place_ok = refl;
          small = omega arith;
          spares_first = tt;
        }
        by None e = absurd (static-there p.statics k h e)

    load-good : (a : ℕ) (d : Operand) (n : Note) → a ≤ 16 → AtomGood d → SmallNote n → Good (load c a d) n None
    load-good a (Quote k) n lt h m = constant-good a k n lt h m
    load-good a (Var x) n lt h m = record { field_ok = (lt, slot-small x h); map_ok = m; place_ok = refl; small = omega arith; spares_first = tt }

    loads-good : (pt : Point) (a : ℕ) (ds : List Operand) (es : List Entry) → AtomsGood ds → a + length ds ≤ 17 → AllGood (loads c pt a ds es)
    loads-good pt a [] es h le = tt
    loads-good pt a (d ∷ ds) es h le =
        (load-good a d _ (omega (arith, le)) h.0 few_slots, loads-good pt (suc a) ds _ h.1 (omega (arith, le)))

    pub store-good : (a x : ℕ) (n : Note) → 1 ≤ a → a ≤ 16 → home x < size → SmallNote n → Good (I.Store a (home x)) n None
    store-good a x n some lt h m = record { field_ok = (lt, slot-small x h); map_ok = m; place_ok = refl; small = omega arith; spares_first = some }

    -- a lambda that a procedure is made of
    pub record LambdaGood (m : ℕ) : Type 0 where
      pub few : length (captured_in p m) ≤ w
      pub slots : (x : ℕ) → IsIn x (captured_in p m) → home x < size

    clo-good : (m : ℕ) (n : Note) → LambdaGood m → SmallNote n → Good (I.Clo 16 (length (captured_in p m)) m) n None
    clo-good m n h k = let f = h.few in record { field_ok = (lit≤ tt, omega (arith, f, narrow), lit< tt); map_ok = k; place_ok = refl; small = f; spares_first = tt }

    abbrev pub OpGood : Op → Type 0
    OpGood (Atom a) = AtomGood a
    OpGood (Global g q) = g < length p.globals
    OpGood (SetGlobal g a q) = (g < length p.globals) × AtomGood a
    OpGood (DefGlobal g a) = (g < length p.globals) × AtomGood a
    OpGood (PrimUse r ds q) = (length ds ≡ arity_of r) × (length ds ≤ 3) × AtomsGood ds
    OpGood (NewCell a) = AtomGood a
    OpGood (CellGet a q) = AtomGood a
    OpGood (CellSet a b) = AtomGood a × AtomGood b
    OpGood (Close m) = LambdaGood m
    OpGood (Call f ds q) = (length ds ≤ 12) × AtomGood f × AtomsGood ds
    OpGood (Direct m ds) = (length ds ≤ 12) × AtomsGood ds
    OpGood (Apply f a q) = AtomGood f × AtomGood a
    OpGood (Branch a b d) = ⊥

    use-good : (r : Primitive) (ds : List Operand) (q : Place) (n : Note) → length ds ≡ arity_of r → length ds ≤ 3 → SmallNote n →
        Good (use_of r ds) n (cond (can_fail r) (Some q) None)
    use-good r [] q n e le m = record { field_ok = (lit≤ tt, arity-found r [] e); map_ok = m; place_ok = place-use r q; small = omega arith; spares_first = tt }
    use-good r (a ∷ []) q n e le m = record { field_ok = (lit≤ tt, lit≤ tt, arity-found r (a ∷ []) e); map_ok = m; place_ok = place-use r q; small = omega arith; spares_first = tt }
    use-good r (a ∷ b ∷ []) q n e le m =
        record { field_ok = (lit≤ tt, lit≤ tt, lit≤ tt, arity-found r (a ∷ b ∷ []) e); map_ok = m; place_ok = place-use r q; small = omega arith; spares_first = tt }
    use-good r (a ∷ b ∷ d ∷ []) q n e le m =
        record { field_ok = (lit≤ tt, lit≤ tt, lit≤ tt, arity-found r (a ∷ b ∷ d ∷ []) e); map_ok = m; place_ok = place-use r q; small = omega arith; spares_first = tt }
    use-good r (a ∷ b ∷ d ∷ f ∷ ds) q n e le m = absurd (omega (arith, le))

    -- the instruction of an operation; a label has any number
    act-good : (op : Op) (l : ℕ) (n : Note) → OpGood op → SmallNote n → Good (act c l op) n (place op)
    act-good (Atom a) l n h m = load-good 16 a n (lit≤ tt) h m
    act-good (Global g q) l n h m = record { field_ok = (lit≤ tt, h); map_ok = m; place_ok = refl; small = omega arith; spares_first = tt }
    act-good (SetGlobal g a q) l n h m = record { field_ok = (lit≤ tt, h.0); map_ok = m; place_ok = refl; small = omega arith; spares_first = tt }
    act-good (DefGlobal g a) l n h m = record { field_ok = (lit≤ tt, h.0); map_ok = m; place_ok = refl; small = omega arith; spares_first = tt }
    act-good (PrimUse r ds q) l n h m = use-good r ds q n h.0 h.1 m
    act-good (NewCell a) l n h m = record { field_ok = (lit≤ tt, lit≤ tt); map_ok = m; place_ok = refl; small = omega arith; spares_first = tt }
    act-good (CellGet a q) l n h m = record { field_ok = (lit≤ tt, lit≤ tt); map_ok = m; place_ok = refl; small = omega arith; spares_first = tt }
    act-good (CellSet a b) l n h m = record { field_ok = (lit≤ tt, lit≤ tt); map_ok = m; place_ok = refl; small = omega arith; spares_first = tt }
    act-good (Close k) l n h m = clo-good k n h m
    act-good (Call f ds q) l n h m = record { field_ok = h.0; map_ok = m; place_ok = refl; small = omega arith; spares_first = tt }
    act-good (Direct k ds) l n h m = record { field_ok = lit< tt; map_ok = m; place_ok = refl; small = omega arith; spares_first = tt }
    act-good (Apply f a q) l n h m = record { field_ok = tt; map_ok = m; place_ok = refl; small = omega arith; spares_first = tt }
    act-good (Branch a b d) l n h m = absurd h

    operands-good : (op : Op) → OpGood op → AtomsGood (operands op) × (first_register op + length (operands op) ≤ 17)
    operands-good (Atom a) h = (tt, lit≤ tt)
    operands-good (Global g q) h = (tt, lit≤ tt)
    operands-good (SetGlobal g a q) h = ((h.1, tt), lit≤ tt)
    operands-good (DefGlobal g a) h = ((h.1, tt), lit≤ tt)
    operands-good (PrimUse r ds q) h = (h.2, let k = h.1 in omega (arith, k))
    operands-good (NewCell a) h = ((h, tt), lit≤ tt)
    operands-good (CellGet a q) h = ((h, tt), lit≤ tt)
    operands-good (CellSet a b) h = ((h.0, (h.1, tt)), lit≤ tt)
    operands-good (Close k) h = (tt, lit≤ tt)
    operands-good (Call f ds q) h = ((h.1, h.2), let k = h.0 in omega (arith, k))
    operands-good (Direct k ds) h = (h.1, let e = h.0 in omega (arith, e))
    operands-good (Apply f a q) h = ((h.0, (h.1, tt)), lit≤ tt)
    operands-good (Branch a b d) h = absurd h

    op-loads : (op : Op) (pt : Point) (es : List Entry) → OpGood op → AllGood (loads c pt (first_register op) (operands op) es)
    op-loads op pt es h = let o = operands-good op h in loads-good pt (first_register op) (operands op) es o.0 o.1

    -- captured words are written
    fills-good : (m : ℕ) (js : Waiting) (j : ℕ) (xs : List ℕ) → ((x : ℕ) → IsIn x xs → home x < size) → j + length xs ≤ 1000 → AllGood (fills c m js j xs)
    fills-good m js j [] h le = tt
    fills-good m js j (x ∷ xs) h le = (
      load-good 1 (Var x) _ (lit≤ tt) (h x (inl refl)) few_slots,
      (
        record { field_ok = (lit≤ tt, lit≤ tt, omega (arith, le)); map_ok = few_slots; place_ok = refl; small = omega arith; spares_first = tt },
        fills-good m js (suc j) xs (λ y i. h y (inr i)) (omega (arith, le)),
      ),
    )

    unspecified-good : (js : Waiting) → AllGood (unspecified_result c js)
    unspecified-good js = (special-good 16 (imm_bits unspecified) _ (lit≤ tt) refl few_slots, tt)

    behind-good : (js : Waiting) (op : Op) → OpGood op → AllGood (behind c js op)
    behind-good js (SetGlobal g a q) h = unspecified-good js
    behind-good js (DefGlobal g a) h = unspecified-good js
    behind-good js (CellSet a b) h = unspecified-good js
    behind-good js (Close m) h = fills-good m js 0 (captured_in p m) h.slots (let f = h.few in omega (arith, f, narrow))
    behind-good js (Atom a) h = tt
    behind-good js (Global g q) h = tt
    behind-good js (PrimUse r ds q) h = tt
    behind-good js (NewCell a) h = tt
    behind-good js (CellGet a q) h = tt
    behind-good js (Call f ds q) h = tt
    behind-good js (Direct m ds) h = tt
    behind-good js (Apply f a q) h = tt
    behind-good js (Branch a b d) h = tt

    simple-good : (op : Op) (pt : Point) (js : Waiting) (es : List Entry) → OpGood op → AllGood (simple c op pt js es)
    simple-good op pt js es h =
        good-append (loads c pt (first_register op) (operands op) es) _ (op-loads op pt es h)
        (act-good op 0 _ h few_slots, behind-good js op h)

    returning-good : (op : Op) (pt : Point) (js : Waiting) (l : ℕ) (es : List Entry) → OpGood op → AllGood (returning c op pt js l es)
    returning-good op pt js l es h =
        good-append (loads c pt (first_register op) (operands op) es) _ (op-loads op pt es h)
        (record { field_ok = lit< tt; map_ok = few_slots; place_ok = refl; small = omega arith; spares_first = tt }, (act-good op l _ h few_slots, tt))

    pop-good : (n : Note) → SmallNote n → Good (I.Pop size) n None
    pop-good n m = record { field_ok = tt; map_ok = m; place_ok = refl; small = omega arith; spares_first = tt }

    leaving-good : (op : Op) (pt : Point) (es : List Entry) → OpGood op → AllGood (leaving c op pt es)
    leaving-good op pt es h =
        good-append (loads c pt (first_register op) (operands op) es) _ (op-loads op pt es h)
        (pop-good _ few_slots, (act-good op 0 _ h tt, tt))

    evaluated-good : (op : Op) (pt : Point) (js : Waiting) (l : ℕ) (es : List Entry) → OpGood op → AllGood (evaluated c op pt js l es)
    evaluated-good op pt js l es h = by (is_call op)
      where
        by : (b : Bool) → AllGood (cond b (returning c op pt js l es) (simple c op pt js es))
        by true = returning-good op pt js l es h
        by false = simple-good op pt js es h

    -- what waits has a slot for its variable
    abbrev WaitGood : Waiting → Type 0
    WaitGood ToCaller = Unit {0}
    WaitGood (ToTop k) = Unit {0}
    WaitGood (Then x b l js) = home x < size

    keep-good : (x : ℕ) (js : Waiting) → home x < size → AllGood (keep c x js)
    keep-good x js h = (store-good 16 x _ (lit≤ tt) (lit≤ tt) h few_slots, tt)

    jump-good : (l : ℕ) (n : Note) → SmallNote n → Good (I.Jump l) n None
    jump-good l n m = record { field_ok = lit< tt; map_ok = m; place_ok = refl; small = omega arith; spares_first = tt }

    given-good : (js : Waiting) → WaitGood js → AllGood (given c js)
    given-good ToCaller h =
        (pop-good _ few_slots, (record { field_ok = tt; map_ok = tt; place_ok = refl; small = omega arith; spares_first = tt }, tt))
    given-good (ToTop k) h = (pop-good _ few_slots, tt)
    given-good (Then x b l js) h =
        good-append (keep c x (Then x b l js)) (Does (I.Jump l) (block_note c b js) None ∷ []) (keep-good x (Then x b l js) h) (jump-good l _ few_slots, tt)

    last-good : (op : Op) (js : Waiting) (l : ℕ) → OpGood op → WaitGood js → AllGood (last c op js l)
    last-good op ToCaller l h g = by (is_call op)
      where
        by : (b : Bool) → AllGood (cond b (leaving c op (AtBlock (Tail op) ToCaller) (block_map c (Tail op) ToCaller))
            (evaluated c op (AtBlock (Tail op) ToCaller) ToCaller l (block_map c (Tail op) ToCaller) ++ given c ToCaller))
        by true = leaving-good op _ _ h
        by false = good-append (evaluated c op (AtBlock (Tail op) ToCaller) ToCaller l (block_map c (Tail op) ToCaller)) _ (evaluated-good op _ _ l _ h) (given-good ToCaller tt)
    last-good op (ToTop k) l h g =
        good-append (evaluated c op (AtBlock (Tail op) (ToTop k)) (ToTop k) l (block_map c (Tail op) (ToTop k))) _ (evaluated-good op _ _ l _ h) (given-good (ToTop k) g)
    last-good op (Then x b m js) l h g =
        good-append (evaluated c op (AtBlock (Tail op) (Then x b m js)) (Then x b m js) l (block_map c (Tail op) (Then x b m js))) _
        (evaluated-good op _ _ l _ h) (given-good (Then x b m js) g)

    -- procedures that are made together
    abbrev pub LambdasGood : List ℕ → Type 0
    LambdasGood [] = Unit {0}
    LambdasGood (m ∷ ms) = LambdaGood m × LambdasGood ms

    makes-good : (xs ls : List ℕ) (b : Block) (js : Waiting) (done ys ms : List ℕ) → ((y : ℕ) → IsIn y ys → home y < size) → LambdasGood ms →
        AllGood (makes c xs ls b js done ys ms)
    makes-good xs ls b js done (y ∷ ys) (m ∷ ms) h g = (
      clo-good m _ g.0 (making-small done),
      (store-good 16 y _ (lit≤ tt) (lit≤ tt) (h y (inl refl)) few_slots, makes-good xs ls b js (done ++ y ∷ []) ys ms (λ z i. h z (inr i)) g.1),
    )
      where
        making-small : (zs : List ℕ) → SmallNote (making_note c xs ls b js zs)
        making-small [] = few_slots
        making-small (z ∷ zs) = few_slots
    makes-good xs ls b js done [] [] h g = tt
    makes-good xs ls b js done (y ∷ ys) [] h g = tt
    makes-good xs ls b js done [] (m ∷ ms) h g = tt

    words-good : (y : ℕ) (pt : ℕ → Point) (es : List Entry) (j : ℕ) (xs : List ℕ) → ((x : ℕ) → IsIn x xs → home x < size) → j + length xs ≤ 1000 →
        AllGood (words c y pt es j xs)
    words-good y pt es j [] h le = tt
    words-good y pt es j (x ∷ xs) h le = (
      load-good 1 (Var x) _ (lit≤ tt) (h x (inl refl)) few_slots,
      (
        record { field_ok = (lit≤ tt, lit≤ tt, omega (arith, le)); map_ok = few_slots; place_ok = refl; small = omega arith; spares_first = tt },
        words-good y pt es (suc j) xs (λ z i. h z (inr i)) (omega (arith, le)),
      ),
    )

    all-words-good : (y : ℕ) (pt : ℕ → Point) (es : List Entry) (xs : List ℕ) → home y < size → ((x : ℕ) → IsIn x xs → home x < size) → length xs ≤ 1000 →
        AllGood (all_words c y pt es xs)
    all-words-good y pt es [] hy h le = tt
    all-words-good y pt es (x ∷ xs) hy h le = (load-good 16 (Var y) _ (lit≤ tt) hy few_slots, words-good y pt es 0 (x ∷ xs) h (omega (arith, le)))

    writes-good : (xs ls : List ℕ) (b : Block) (js : Waiting) (done ys ms : List ℕ) → ((y : ℕ) → IsIn y ys → home y < size) → LambdasGood ms →
        AllGood (writes c xs ls b js done ys ms)
    writes-good xs ls b js done (y ∷ ys) (m ∷ ms) h g =
        let pt : ℕ → Point = λ j. AtAll (length xs) (counts c done ++ (j ∷ zeros ms)) xs ls b js in
        good-append (all_words c y pt (group_map c xs ls b js xs) (captured_in p m)) _
        (all-words-good y pt (group_map c xs ls b js xs) (captured_in p m) (h y (inl refl)) g.0.slots (let f = g.0.few in omega (arith, f, narrow)))
        (writes-good xs ls b js (done ++ m ∷ []) ys ms (λ z i. h z (inr i)) g.1)
    writes-good xs ls b js done [] [] h g = tt
    writes-good xs ls b js done (y ∷ ys) [] h g = tt
    writes-good xs ls b js done [] (m ∷ ms) h g = tt

    -- a block whose variables have slots and whose operations keep their limits
    abbrev mutual
      pub BlockGood : Block → Type 0
      BlockGood (Bind x op k) = (home x < size) × ArmsGood op × BlockGood k
      BlockGood (CloseAll xs ls k) = ((x : ℕ) → IsIn x xs → home x < size) × LambdasGood ls × BlockGood k
      BlockGood (Tail op) = ArmsGood op

      pub ArmsGood : Op → Type 0
      ArmsGood (Branch a b d) = AtomGood a × BlockGood b × BlockGood d
      ArmsGood op = OpGood op

    other-good : (op : Op) → is_branch op ≡ false → ArmsGood op → OpGood op
    other-good (Branch a b d) e h = absurd (true≢false e)
    other-good (Atom a) e h = h
    other-good (Global g q) e h = h
    other-good (SetGlobal g a q) e h = h
    other-good (DefGlobal g a) e h = h
    other-good (PrimUse r ds q) e h = h
    other-good (NewCell a) e h = h
    other-good (CellGet a q) e h = h
    other-good (CellSet a b) e h = h
    other-good (Close m) e h = h
    other-good (Call f ds q) e h = h
    other-good (Direct m ds) e h = h
    other-good (Apply f a q) e h = h

    bound-good : (op : Op) (x : ℕ) (k : Block) (js : Waiting) (l : ℕ) → is_branch op ≡ false → home x < size → ArmsGood op → AllGood (code_bound c op x k js l)
    bound-good op x k js l e hx h =
        subst AllGood (sym (bound-plain p [] home size op x k js l e))
        (good-append (evaluated c op (AtBlock (Bind x op k) js) (Then x k l js) l (block_map c (Bind x op k) js)) _
        (evaluated-good op _ _ l _ (other-good op e h)) (keep-good x (Then x k l js) hx))

    tail-good : (op : Op) (js : Waiting) (l : ℕ) → is_branch op ≡ false → WaitGood js → ArmsGood op → AllGood (code_last c op js l)
    tail-good op js l e g h = subst AllGood (sym (last-plain p [] home size op js l e)) (last-good op js l (other-good op e h) g)

    test-good : (a : Operand) (pt : Point) (l : ℕ) (es : List Entry) (is : List Noted) → AtomGood a → AllGood is →
        AllGood (loads c pt 1 (a ∷ []) es ++ (Does (I.Brf 1 (suc l)) (here c pt (loaded 1 (a ∷ []) es)) None ∷ is))
    test-good a pt l es is h g =
        (load-good 1 a _ (lit≤ tt) h few_slots, (record { field_ok = (lit≤ tt, lit< tt); map_ok = few_slots; place_ok = refl; small = omega arith; spares_first = tt }, g))

    passing-good : (js : Waiting) (l : ℕ) → AllGood (passing js l)
    passing-good ToCaller l = tt
    passing-good (ToTop k) l = (jump-good l _ tt, tt)
    passing-good (Then x b m js) l = tt

    passed-good : (js : Waiting) (l : ℕ) → AllGood (passed js l)
    passed-good ToCaller l = tt
    passed-good (ToTop k) l = tt
    passed-good (Then x b m js) l = tt

    mutual
      unfolding code_block code_bound code_last

      pub block-good : (b : Block) (js : Waiting) (l : ℕ) → BlockGood b → WaitGood js → AllGood (code_block c b js l)
      block-good (Bind x op k) js l h g =
          good-append (code_bound c op x k js l) _ (arms-good op x k js l h.0 h.1) (block-good k js (l + labels_of op) h.2 g)
      block-good (CloseAll xs ls k) js l h g =
          good-append (group c xs ls k js) _
          (good-append (makes c xs ls k js [] xs ls) _ (makes-good xs ls k js [] xs ls h.0 h.1) (writes-good xs ls k js [] xs ls h.0 h.1))
          (block-good k js l h.2 g)
      block-good (Tail op) js l h g = ends-good op js l h g

      arms-good : (op : Op) (x : ℕ) (k : Block) (js : Waiting) (l : ℕ) → home x < size → ArmsGood op → AllGood (code_bound c op x k js l)
      arms-good (Branch a b d) x k js l hx h =
          let arm = Then x k l js in
          let second = code_block c d arm (l + 2 + labels_in b) in
          let end = Mark l (block_note c k js) ∷ [] in
          test-good a (AtBlock (Bind x (Branch a b d) k) js) l (block_map c (Bind x (Branch a b d) k) js)
          (code_block c b arm (l + 2) ++ (Mark (suc l) (block_note c d arm) ∷ (second ++ end))) h.0
          (good-append (code_block c b arm (l + 2)) (Mark (suc l) (block_note c d arm) ∷ (second ++ end)) (block-good b arm (l + 2) h.1 hx)
          (good-append second end (block-good d arm (l + 2 + labels_in b) h.2 hx) tt))
      arms-good op x k js l hx h = bound-good op x k js l refl hx h

      ends-good : (op : Op) (js : Waiting) (l : ℕ) → ArmsGood op → WaitGood js → AllGood (code_last c op js l)
      ends-good (Branch a b d) js l h g =
          let second = code_block c d js (l + 2 + labels_in b) in
          let behind_first = Mark (suc l) (block_note c d js) ∷ (second ++ passed js l) in
          test-good a (AtBlock (Tail (Branch a b d)) js) l (block_map c (Tail (Branch a b d)) js)
          (code_block c b js (l + 2) ++ (passing js l ++ behind_first)) h.0
          (good-append (code_block c b js (l + 2)) (passing js l ++ behind_first) (block-good b js (l + 2) h.1 g)
          (good-append (passing js l) behind_first (passing-good js l)
          (good-append second (passed js l) (block-good d js (l + 2 + labels_in b) h.2 g) (passed-good js l))))
      ends-good op js l h g = tail-good op js l refl g h
