-- The items by lists of bits are those of the notes.
use Rattle.std.proofs.Common.{◌≡◌, refl, sym, ap, ◌∙◌, ℕ, zero, suc, ◌+◌, ◌*◌, ◌^◌, ◌<◌, ◌==◌, ◌||◌, Bool, true, false, cond, arith, List, [], ◌∷◌, ◌++◌, length, map, set, Option, Some, None, eq-eqb, ne_eqb}
use Rattle.std.proofs.Math.Nat.{pow-suc}
use Rattle.tb_prim.specs.declared.place.Place.{Place}
use Rattle.tb_ir.specs.AnfTree.{Operand, Block, Bind, CloseAll, Tail}
use Rattle.tb_mac.specs.declared.code.Instr.{Instr}
use Rattle.tb_mac.specs.declared.item.Item.{Item}
use Rattle.tb_mac.specs.declared.item.Item.TheVariants.{Ins}
use Rattle.tb_codegen.specs.Notes.{Reg, Slot, Symbol, Variable, Capture, Entry, Stands, Waiting, ToCaller, ToTop, Then, Point, AtValue, AtUnspecified, AtFill, AtBlock, AtAll, Away, Inside, Noted, Mark, Does, any, is_register, is_slot, register_bits, slot_bits, item_of, symbol_of}
use Rattle.tb_core.specs.FreeVariables.{without}
use Rattle.tb_ir.specs.AnfTree.{Op, Atom, Global, SetGlobal, DefGlobal, PrimUse, NewCell, CellGet, CellSet, Close, Call, Direct, Apply, Branch}
use Rattle.tb_ir.specs.AnfMachine.{free_block}
use Rattle.tb_mac.specs.declared.code.Instr.TheVariants as I
use Rattle.tb_mac.specs.Words.{imm_bits, unspecified}
use Rattle.tb_codegen.specs.Generate.{settled, keep, given, last, block_note, labels_in, labels_of, zeros, counts, group_map, making_note, makes, words, all_words, writes, group, passing, passed, code_block, code_bound, code_last}
use Rattle.tb_codegen.specs.Operations.{Body, result, variables, waiting_map, block_map, value_map, here, load, loads, loaded, operands, first_register, act, place, is_call, captures, fill_map, fills, unspecified_result, behind, simple, returning, leaving, evaluated}
use Rattle.tb_generate.specs.calls.Bits.{number_from, no_registers, one_register, with_bit, is_home, with_slots, here_item, away_item}
use Rattle.tb_generate.specs.calls.Items.{loads_items, loaded_bits, operand_items, operand_bits, fill_items, unspecified_items, behind_items, simple_items, returning_items, leaving_items, evaluated_items, keep_items, given_items, last_items, block_slots, bound_slots, arm_ending, plain_items, test_items, make_items, word_items, all_word_items, write_items, group_items, passing_items, passed_items, block_items, bound_items, tail_items}
use Rattle.tb_generate.specs.declared.waiting.Ending.{Ending}
use Rattle.tb_generate.specs.declared.waiting.Ending.TheVariants as ending

-- whether a word stands in each of so many registers from one on
abbrev pub reg_bits : List Entry → ℕ → ℕ → List Bool
reg_bits es x zero = []
reg_bits es x (suc n) = any (is_register x) es ∷ reg_bits es (suc x) n

number_bits : (es : List Entry) (x n : ℕ) → number_from (2 ^ x) (reg_bits es x n) + register_bits es x ≡ register_bits es (x + n)
number_bits es x zero =
    let e : x ≡ x + 0 = omega arith in
    let h : register_bits es x ≡ register_bits es (x + 0) = ap (register_bits es) e in
    omega (arith, h)
number_bits es x (suc n) =
    let t : 2 * 2 ^ x ≡ 2 ^ suc x = omega (arith, pow-suc 2 x) in
    let r = number_bits es (suc x) n in
    let e : suc x + n ≡ x + suc n = omega arith in
    let s : number_from (2 * 2 ^ x) (reg_bits es (suc x) n) ≡ number_from (2 ^ suc x) (reg_bits es (suc x) n) = ap (λ w. number_from w (reg_bits es (suc x) n)) t in
    let z : register_bits es (suc x + n) ≡ register_bits es (x + suc n) = ap (register_bits es) e in
    omega (arith, r, s, z)

pub number-is : (es : List Entry) → number_from 1 (reg_bits es 0 17) ≡ register_bits es 17
number-is es = let h = number_bits es 0 17 in omega (arith, h)

-- entries that hold the same registers, or the same slots
abbrev pub SameRegisters : List Entry → List Entry → Type 0
SameRegisters es fs = (a : ℕ) → any (is_register a) es ≡ any (is_register a) fs

abbrev pub SameSlots : List Entry → List Entry → Type 0
SameSlots es fs = (a : ℕ) → any (is_slot a) es ≡ any (is_slot a) fs

pub same-registers : (es fs : List Entry) (x n : ℕ) → SameRegisters es fs → reg_bits es x n ≡ reg_bits fs x n
same-registers es fs x zero h = refl
same-registers es fs x (suc n) h = rw (h x, same-registers es fs (suc x) n h) refl

pub no-registers-are : (es : List Entry) → SameRegisters es [] → no_registers ≡ reg_bits es 0 17
no-registers-are es h = sym (same-registers es [] 0 17 h)

pub same-marks : (es fs : List Entry) (x n : ℕ) → SameSlots es fs → slot_bits es x n ≡ slot_bits fs x n
same-marks es fs x zero h = refl
same-marks es fs x (suc n) h = rw (h x, same-marks es fs (suc x) n h) refl

none_here : (s : Symbol) (b x : ℕ) (es : List Entry) (n : ℕ) → b < x → reg_bits (Stands (Reg b) s ∷ es) x n ≡ reg_bits es x n
none_here s b x es zero lt = refl
none_here s b x es (suc n) lt =
    let e : (x == b) ≡ false = ne_eqb x b (λ q. omega (arith, lt, q)) in
    rw (e, none_here s b (suc x) es n (omega arith)) refl

one_bit : (s : Symbol) (b x k : ℕ) (es : List Entry) (n : ℕ) → b ≡ x + k → set (reg_bits es x n) k true ≡ reg_bits (Stands (Reg b) s ∷ es) x n
one_bit s b x zero es zero e = refl
one_bit s b x (suc k) es zero e = refl
one_bit s b x zero es (suc n) e =
    let q : (x == b) ≡ true = eq-eqb x b (omega (arith, e)) in
    rw (q, none_here s b (suc x) es n (omega (arith, e))) refl
one_bit s b x (suc k) es (suc n) e =
    let q : (x == b) ≡ false = ne_eqb x b (λ r. omega (arith, e, r)) in
    rw (q, one_bit s b (suc x) k es n (omega (arith, e))) refl

pub with-register : (s : Symbol) (a : ℕ) (es : List Entry) → with_bit (reg_bits es 0 17) a ≡ reg_bits (Stands (Reg a) s ∷ es) 0 17
with-register s a es = one_bit s a 0 a es 17 (omega arith)

pub map-both : (xs ys : List Noted) → map item_of (xs ++ ys) ≡ map item_of xs ++ map item_of ys
map-both [] ys = refl
map-both (x ∷ xs) ys = ap (λ k. item_of x ∷ k) (map-both xs ys)

pub both-are : (us vs : List Item) (xs ys : List Noted) → us ≡ map item_of xs → vs ≡ map item_of ys → us ++ vs ≡ map item_of (xs ++ ys)
both-are us vs xs ys e f = ap (λ k. k ++ vs) e ∙ ap (λ k. map item_of xs ++ k) f ∙ sym (map-both xs ys)

pub next-is : (u : Item) (us : List Item) (v : Item) (vs : List Item) → u ≡ v → us ≡ vs → u ∷ us ≡ v ∷ vs
next-is u us v vs e f = ap (λ k. k ∷ us) e ∙ ap (λ k. v ∷ k) f

module _ (c : Body) where
  abbrev pub marks : List Entry → List Bool
  marks es = slot_bits es 0 c.size

  pub here-is : (i : Instr) (pt : Point) (es : List Entry) (p : Option Place) (rs ss : List Bool) → rs ≡ reg_bits es 0 17 → ss ≡ marks es →
      here_item i rs ss p ≡ item_of (Does i (here c pt es) p)
  here-is i pt es p rs ss e f =
      ap (λ us. here_item i us ss p) e ∙ ap (λ us. here_item i (reg_bits es 0 17) us p) f
      ∙ ap (λ n. Ins i (record { regs = n; slots = Some (marks es) }) p) (number-is es)

  pub away-is : (i : Instr) (pt : Point) (es : List Entry) (p : Option Place) (rs : List Bool) → rs ≡ reg_bits es 0 17 →
      away_item i rs p ≡ item_of (Does i (Inside pt Away es) p)
  away-is i pt es p rs e = ap (λ us. away_item i us p) e ∙ ap (λ n. Ins i (record { regs = n; slots = None }) p) (number-is es)

  pub loads-are : (pt : Point) (a : ℕ) (ds : List Operand) (es : List Entry) (rs ss : List Bool) → rs ≡ reg_bits es 0 17 → ss ≡ marks es →
      loads_items c ss rs a ds ≡ map item_of (loads c pt a ds es)
  loads-are pt a [] es rs ss e f = refl
  loads-are pt a (d ∷ ds) es rs ss e f =
      ap (λ i. i ∷ loads_items c ss (with_bit rs a) (suc a) ds) (here-is (load c a d) pt es None rs ss e f)
      ∙ ap (λ is. item_of (Does (load c a d) (here c pt es) None) ∷ is)
      (loads-are pt (suc a) ds (Stands (Reg a) (symbol_of d) ∷ es) (with_bit rs a) ss
      (ap (λ us. with_bit us a) e ∙ with-register (symbol_of d) a es) (f ∙ same-marks es (Stands (Reg a) (symbol_of d) ∷ es) 0 c.size (λ x. refl)))

  pub loaded-are : (a : ℕ) (ds : List Operand) (es : List Entry) (rs : List Bool) → rs ≡ reg_bits es 0 17 → loaded_bits rs a ds ≡ reg_bits (loaded a ds es) 0 17
  loaded-are a [] es rs e = e
  loaded-are a (d ∷ ds) es rs e =
      loaded-are (suc a) ds (Stands (Reg a) (symbol_of d) ∷ es) (with_bit rs a) (ap (λ us. with_bit us a) e ∙ with-register (symbol_of d) a es)

  pub loaded-marks : (a : ℕ) (ds : List Operand) (es : List Entry) → SameSlots (loaded a ds es) es
  loaded-marks a [] es x = refl
  loaded-marks a (d ∷ ds) es x = loaded-marks (suc a) ds (Stands (Reg a) (symbol_of d) ∷ es) x

  -- variables in their slots
  any_variables : (d : ℕ) (xs : List ℕ) (es : List Entry) (h : ℕ) → any (is_slot h) (variables c d xs ++ es) ≡ (is_home c.home xs h || any (is_slot h) es)
  any_variables d [] es h = refl
  any_variables d (x ∷ xs) es h = ap (λ b. (h == c.home x) || b) (any_variables d xs es h) ∙ assoc_or (h == c.home x) (is_home c.home xs h) (any (is_slot h) es)
    where
      assoc_or : (p q r : Bool) → (p || (q || r)) ≡ ((p || q) || r)
      assoc_or true q r = refl
      assoc_or false q r = refl

  no_registers_here : (d : ℕ) (xs : List ℕ) (es : List Entry) → SameRegisters (variables c d xs ++ es) es
  no_registers_here d [] es a = refl
  no_registers_here d (x ∷ xs) es a = no_registers_here d xs es a

  slots_from : (d : ℕ) (xs : List ℕ) (es : List Entry) (h n : ℕ) → with_slots c.home xs h (slot_bits es h n) ≡ slot_bits (variables c d xs ++ es) h n
  slots_from d xs es h zero = refl
  slots_from d xs es h (suc n) = rw (any_variables d xs es h, slots_from d xs es (suc h) n) refl

  pub slots-are : (d : ℕ) (xs : List ℕ) (es : List Entry) (ss : List Bool) → ss ≡ marks es → with_slots c.home xs 0 ss ≡ marks (variables c d xs ++ es)
  slots-are d xs es ss e = ap (with_slots c.home xs 0) e ∙ slots_from d xs es 0 c.size

  waiting_depth : (d e : ℕ) (js : Waiting) → SameSlots (waiting_map c d js) (waiting_map c e js)
  waiting_depth d e ToCaller h = refl
  waiting_depth d e (ToTop k) h = refl
  waiting_depth d e (Then x b l js) h =
      let xs = without (x ∷ []) (free_block c.captured b) in
      any_variables d xs (waiting_map c (suc d) js) h ∙ ap (λ r. is_home c.home xs h || r) (waiting_depth (suc d) (suc e) js h)
      ∙ sym (any_variables e xs (waiting_map c (suc e) js) h)

  waiting_registers : (d : ℕ) (js : Waiting) → SameRegisters (waiting_map c d js) []
  waiting_registers d ToCaller a = refl
  waiting_registers d (ToTop k) a = refl
  waiting_registers d (Then x b l js) a =
      no_registers_here d (without (x ∷ []) (free_block c.captured b)) (waiting_map c (suc d) js) a ∙ waiting_registers (suc d) js a

  pub block-registers : (b : Block) (js : Waiting) → SameRegisters (block_map c b js) []
  block-registers b js a = no_registers_here 0 (free_block c.captured b) (waiting_map c 1 js) a ∙ waiting_registers 1 js a

  -- the slots that are live where a value comes
  abbrev pub Waits : Waiting → List Bool → Type 0
  Waits js ws = ws ≡ marks (waiting_map c 1 js)

  pub block-slots-are : (b : Block) (js : Waiting) (ws : List Bool) → Waits js ws → block_slots c ws b ≡ marks (block_map c b js)
  block-slots-are b js ws e = slots-are 0 (free_block c.captured b) (waiting_map c 1 js) ws e

  pub bound-slots-are : (x : ℕ) (k : Block) (l : ℕ) (js : Waiting) (ws : List Bool) → Waits js ws → Waits (Then x k l js) (bound_slots c ws x k)
  bound-slots-are x k l js ws e =
      let xs = without (x ∷ []) (free_block c.captured k) in
      slots-are 1 xs (waiting_map c 1 js) ws e
      ∙ same-marks (variables c 1 xs ++ waiting_map c 1 js) (variables c 1 xs ++ waiting_map c 2 js) 0 c.size
      (λ h. any_variables 1 xs (waiting_map c 1 js) h ∙ ap (λ r. is_home c.home xs h || r) (waiting_depth 1 2 js h) ∙ sym (any_variables 1 xs (waiting_map c 2 js) h))

  value_registers : (js : Waiting) → one_register result ≡ reg_bits (value_map c js) 0 17
  value_registers js =
      ap (λ us. with_bit us result) (no-registers-are (waiting_map c 1 js) (waiting_registers 1 js)) ∙ with-register (Variable 0 0) result (waiting_map c 1 js)

  value_marks : (js : Waiting) (ws : List Bool) → Waits js ws → ws ≡ marks (value_map c js)
  value_marks js ws e = e ∙ same-marks (waiting_map c 1 js) (value_map c js) 0 c.size (λ h. refl)

  -- captured variables in their slots
  any_captures : (j : ℕ) (xs : List ℕ) (es : List Entry) (h : ℕ) → any (is_slot h) (captures c j xs ++ es) ≡ any (is_slot h) (variables c 0 xs ++ es)
  any_captures j [] es h = refl
  any_captures j (x ∷ xs) es h = ap (λ b. (h == c.home x) || b) (any_captures (suc j) xs es h)

  captures_registers : (j : ℕ) (xs : List ℕ) (es : List Entry) → SameRegisters (captures c j xs ++ es) es
  captures_registers j [] es a = refl
  captures_registers j (x ∷ xs) es a = captures_registers (suc j) xs es a

  pub fills-are : (m : ℕ) (js : Waiting) (ws : List Bool) → Waits js ws → (j : ℕ) (xs : List ℕ) → fill_items c ws j xs ≡ map item_of (fills c m js j xs)
  fills-are m js ws w j [] = refl
  fills-are m js ws w j (x ∷ xs) =
      let es = captures c j (x ∷ xs) ++ waiting_map c 1 js in
      let ss = with_slots c.home (x ∷ xs) 0 ws in
      let marked : ss ≡ marks es =
      slots-are 0 (x ∷ xs) (waiting_map c 1 js) ws w
      ∙ same-marks (variables c 0 (x ∷ xs) ++ waiting_map c 1 js) es 0 c.size (λ h. sym (any_captures j (x ∷ xs) (waiting_map c 1 js) h)) in
      let none : no_registers ≡ reg_bits es 0 17 = no-registers-are es (λ a. captures_registers j (x ∷ xs) (waiting_map c 1 js) a ∙ waiting_registers 1 js a) in
      let one : one_register result ≡ reg_bits (fill_map c j (x ∷ xs) js) 0 17 = ap (λ us. with_bit us result) none ∙ with-register (Variable 0 0) result es in
      let two : with_bit (one_register result) 1 ≡ reg_bits (Stands (Reg 1) (Capture j) ∷ fill_map c j (x ∷ xs) js) 0 17 =
      ap (λ us. with_bit us 1) one ∙ with-register (Capture j) 1 (fill_map c j (x ∷ xs) js) in
      next-is _ _ _ _ (here-is (I.Load 1 (c.home x)) (AtFill m j js) (fill_map c j (x ∷ xs) js) None (one_register result) ss one (marked ∙ same-marks es (fill_map c j (x ∷ xs) js) 0 c.size (λ h. refl)))
      (next-is _ _ _ _ (here-is (I.CaptSet result 1 j) (AtFill m j js) (Stands (Reg 1) (Capture j) ∷ fill_map c j (x ∷ xs) js) None (with_bit (one_register result) 1) ss two
      (marked ∙ same-marks es (Stands (Reg 1) (Capture j) ∷ fill_map c j (x ∷ xs) js) 0 c.size (λ h. refl))) (fills-are m js ws w (suc j) xs))

  unspecified_is : (js : Waiting) (ws : List Bool) → Waits js ws → unspecified_items ws ≡ map item_of (unspecified_result c js)
  unspecified_is js ws w =
      next-is _ [] _ [] (here-is (I.Imm result (imm_bits unspecified)) (AtUnspecified js) (waiting_map c 1 js) None no_registers ws (no-registers-are (waiting_map c 1 js) (waiting_registers 1 js)) w) refl

  pub behind-is : (op : Op) (js : Waiting) (ws : List Bool) → Waits js ws → behind_items c ws op ≡ map item_of (behind c js op)
  behind-is (Atom a) js ws w = refl
  behind-is (Global g p) js ws w = refl
  behind-is (SetGlobal g a p) js ws w = unspecified_is js ws w
  behind-is (DefGlobal g a) js ws w = unspecified_is js ws w
  behind-is (PrimUse q ds p) js ws w = refl
  behind-is (NewCell a) js ws w = refl
  behind-is (CellGet a p) js ws w = refl
  behind-is (CellSet a b) js ws w = unspecified_is js ws w
  behind-is (Close m) js ws w = fills-are m js ws w 0 (c.captured m)
  behind-is (Call f ds p) js ws w = refl
  behind-is (Direct m ds) js ws w = refl
  behind-is (Apply f a p) js ws w = refl
  behind-is (Branch a b d) js ws w = refl

  -- an operation at a note without registers
  module _ (op : Op) (pt : Point) (es : List Entry) (ss : List Bool) (none : SameRegisters es []) (f : ss ≡ marks es) where
    now : List Entry
    now = loaded (first_register op) (operands op) es

    operands_are : operand_items c ss op ≡ map item_of (loads c pt (first_register op) (operands op) es)
    operands_are = loads-are pt (first_register op) (operands op) es no_registers ss (no-registers-are es none) f

    now_registers : operand_bits op ≡ reg_bits (loaded (first_register op) (operands op) es) 0 17
    now_registers = loaded-are (first_register op) (operands op) es no_registers (no-registers-are es none)

    now_marks : ss ≡ marks (loaded (first_register op) (operands op) es)
    now_marks = f ∙ sym (same-marks (loaded (first_register op) (operands op) es) es 0 c.size (loaded-marks (first_register op) (operands op) es))

    pub simple-is : (js : Waiting) (ws : List Bool) → Waits js ws → simple_items c op ws ss ≡ map item_of (simple c op pt js es)
    simple-is js ws w =
        both-are _ _ _ _ operands_are
        (next-is _ _ _ _ (here-is (act c 0 op) pt (loaded (first_register op) (operands op) es) (place op) (operand_bits op) ss now_registers now_marks) (behind-is op js ws w))

    pub returning-is : (js : Waiting) (l : ℕ) → returning_items c op l ss ≡ map item_of (returning c op pt js l es)
    returning-is js l =
        both-are _ _ _ _ operands_are
        (next-is _ _ _ _ (here-is (I.SetRtn l) pt (loaded (first_register op) (operands op) es) None (operand_bits op) ss now_registers now_marks)
        (next-is _ _ _ _ (here-is (act c l op) pt (loaded (first_register op) (operands op) es) (place op) (operand_bits op) ss now_registers now_marks) refl))

    pub leaving-is : leaving_items c op ss ≡ map item_of (leaving c op pt es)
    leaving-is =
        both-are _ _ _ _ operands_are
        (next-is _ _ _ _ (here-is (I.Pop c.size) pt (loaded (first_register op) (operands op) es) None (operand_bits op) ss now_registers now_marks)
        (next-is _ _ _ _ (away-is (act c 0 op) pt (loaded (first_register op) (operands op) []) (place op) (operand_bits op) (loaded-are (first_register op) (operands op) [] no_registers refl)) refl))

    pub evaluated-is : (js : Waiting) (ws : List Bool) (l : ℕ) → Waits js ws → evaluated_items c op ws l ss ≡ map item_of (evaluated c op pt js l es)
    evaluated-is js ws l w = by_test (is_call op)
      where
        by_test : (b : Bool) → cond b (returning_items c op l ss) (simple_items c op ws ss) ≡ map item_of (cond b (returning c op pt js l es) (simple c op pt js es))
        by_test true = returning-is js l
        by_test false = simple-is js ws w

  -- what waits for a value, as code knows it
  abbrev pub EndsAs : Waiting → Ending → Type 0
  EndsAs ToCaller e = e ≡ ending.ToCaller
  EndsAs (ToTop k) e = e ≡ ending.ToTop
  EndsAs (Then x b l js) e = e ≡ ending.Then (c.home x) l (marks (block_map c (settled b) js))

  pub keep-is : (x : ℕ) (js : Waiting) (ws : List Bool) → Waits js ws → keep_items (c.home x) ws ≡ map item_of (keep c x js)
  keep-is x js ws w = next-is _ [] _ [] (here-is (I.Store result (c.home x)) (AtValue js) (value_map c js) None (one_register result) ws (value_registers js) (value_marks js ws w)) refl

  pub given-is : (js : Waiting) (ws : List Bool) (e : Ending) → Waits js ws → EndsAs js e → given_items c ws e ≡ map item_of (given c js)
  given-is ToCaller ws e w q =
      ap (given_items c ws) q
      ∙ next-is _ _ _ _ (here-is (I.Pop c.size) (AtValue ToCaller) (value_map c ToCaller) None (one_register result) ws (value_registers ToCaller) (value_marks ToCaller ws w))
      (next-is _ [] _ [] (away-is I.Return (AtValue ToCaller) (value_map c ToCaller) None (one_register result) (value_registers ToCaller)) refl)
  given-is (ToTop k) ws e w q =
      ap (given_items c ws) q
      ∙ next-is _ [] _ [] (here-is (I.Pop c.size) (AtValue (ToTop k)) (value_map c (ToTop k)) None (one_register result) ws (value_registers (ToTop k)) (value_marks (ToTop k) ws w)) refl
  given-is (Then x b l js) ws e w q =
      ap (given_items c ws) q
      ∙ both-are _ _ (keep c x (Then x b l js)) (Does (I.Jump l) (here c (AtBlock (settled b) js) (block_map c (settled b) js)) None ∷ []) (keep-is x (Then x b l js) ws w)
      (next-is _ [] _ [] (here-is (I.Jump l) (AtBlock (settled b) js) (block_map c (settled b) js) None no_registers (marks (block_map c (settled b) js))
      (no-registers-are (block_map c (settled b) js) (block-registers (settled b) js)) refl) refl)

  -- an operation in tail position that is no branch
  pub last-is : (op : Op) (js : Waiting) (ws ss : List Bool) (e : Ending) (l : ℕ) → Waits js ws → EndsAs js e → ss ≡ marks (block_map c (Tail op) js) →
      last_items c op ws e l ss ≡ map item_of (last c op js l)
  last-is op ToCaller ws ss e l w q f = ap (λ z. last_items c op ws z l ss) q ∙ by_test (is_call op)
    where
      pt : Point
      pt = AtBlock (Tail op) ToCaller

      by_test : (b : Bool) → cond b (leaving_items c op ss) (evaluated_items c op ws l ss ++ given_items c ws ending.ToCaller)
          ≡ map item_of (cond b (leaving c op (AtBlock (Tail op) ToCaller) (block_map c (Tail op) ToCaller))
          (evaluated c op (AtBlock (Tail op) ToCaller) ToCaller l (block_map c (Tail op) ToCaller) ++ given c ToCaller))
      by_test true = leaving-is op (AtBlock (Tail op) ToCaller) (block_map c (Tail op) ToCaller) ss (block-registers (Tail op) ToCaller) f
      by_test false =
          both-are _ _ (evaluated c op (AtBlock (Tail op) ToCaller) ToCaller l (block_map c (Tail op) ToCaller)) (given c ToCaller)
          (evaluated-is op (AtBlock (Tail op) ToCaller) (block_map c (Tail op) ToCaller) ss (block-registers (Tail op) ToCaller) f ToCaller ws l w)
          (given-is ToCaller ws ending.ToCaller w refl)
  last-is op (ToTop k) ws ss e l w q f =
      ap (λ z. last_items c op ws z l ss) q
      ∙ both-are _ _ (evaluated c op (AtBlock (Tail op) (ToTop k)) (ToTop k) l (block_map c (Tail op) (ToTop k))) (given c (ToTop k))
      (evaluated-is op (AtBlock (Tail op) (ToTop k)) (block_map c (Tail op) (ToTop k)) ss (block-registers (Tail op) (ToTop k)) f (ToTop k) ws l w)
      (given-is (ToTop k) ws ending.ToTop w refl)
  last-is op (Then x b m js) ws ss e l w q f =
      ap (λ z. last_items c op ws z l ss) q
      ∙ both-are _ _ (evaluated c op (AtBlock (Tail op) (Then x b m js)) (Then x b m js) l (block_map c (Tail op) (Then x b m js))) (given c (Then x b m js))
      (evaluated-is op (AtBlock (Tail op) (Then x b m js)) (block_map c (Tail op) (Then x b m js)) ss (block-registers (Tail op) (Then x b m js)) f (Then x b m js) ws l w)
      (given-is (Then x b m js) ws (ending.Then (c.home x) m (marks (block_map c (settled b) js))) w refl)

  pub plain-is : (op : Op) (x : ℕ) (k : Block) (js : Waiting) (ws ss : List Bool) (l : ℕ) → Waits js ws → ss ≡ marks (block_map c (Bind x op k) js) →
      plain_items c op x (bound_slots c ws x k) l ss
      ≡ map item_of (evaluated c op (AtBlock (Bind x op k) js) (Then x k l js) l (block_map c (Bind x op k) js) ++ keep c x (Then x k l js))
  plain-is op x k js ws ss l w f =
      both-are _ _ (evaluated c op (AtBlock (Bind x op k) js) (Then x k l js) l (block_map c (Bind x op k) js)) (keep c x (Then x k l js))
      (evaluated-is op (AtBlock (Bind x op k) js) (block_map c (Bind x op k) js) ss (block-registers (Bind x op k) js) f (Then x k l js) (bound_slots c ws x k) l (bound-slots-are x k l js ws w))
      (keep-is x (Then x k l js) (bound_slots c ws x k) (bound-slots-are x k l js ws w))

  test-is : (pt : Point) (a : Operand) (l : ℕ) (es : List Entry) (ss : List Bool) (rest : List Item) (qs : List Noted) → SameRegisters es [] → ss ≡ marks es → rest ≡ map item_of qs →
      test_items c ss a l ++ rest ≡ map item_of (loads c pt 1 (a ∷ []) es ++ (Does (I.Brf 1 l) (here c pt (loaded 1 (a ∷ []) es)) None ∷ qs))
  test-is pt a l es ss rest qs none f r =
      let rs = no-registers-are es none in
      next-is _ _ _ _ (here-is (load c 1 a) pt es None no_registers ss rs f)
      (next-is _ _ _ _ (here-is (I.Brf 1 l) pt (loaded 1 (a ∷ []) es) None (loaded_bits no_registers 1 (a ∷ [])) ss (loaded-are 1 (a ∷ []) es no_registers rs)
      (f ∙ sym (same-marks (loaded 1 (a ∷ []) es) es 0 c.size (loaded-marks 1 (a ∷ []) es)))) r)

  -- procedures that are made together
  home_append : (xs ys : List ℕ) (h : ℕ) → is_home c.home (xs ++ ys) h ≡ (is_home c.home xs h || is_home c.home ys h)
  home_append [] ys h = refl
  home_append (x ∷ xs) ys h = ap (λ b. (h == c.home x) || b) (home_append xs ys h) ∙ assoc_or (h == c.home x) (is_home c.home xs h) (is_home c.home ys h)
    where
      assoc_or : (p q r : Bool) → (p || (q || r)) ≡ ((p || q) || r)
      assoc_or true q r = refl
      assoc_or false q r = refl

  module _ (xs ls : List ℕ) (b : Block) (js : Waiting) where
    group_registers : (done : List ℕ) → SameRegisters (group_map c xs ls b js done) []
    group_registers done a = no_registers_here 0 (done ++ free_block c.captured (CloseAll xs ls b)) (waiting_map c 1 js) a ∙ waiting_registers 1 js a

    one_more : (done : List ℕ) (y : ℕ) → SameSlots (Stands (Slot (c.home y)) (Variable 0 y) ∷ group_map c xs ls b js done) (group_map c xs ls b js (done ++ y ∷ []))
    one_more done y h =
        let free = free_block c.captured (CloseAll xs ls b) in
        let ws = waiting_map c 1 js in
        ap (λ r. (h == c.home y) || r) (any_variables 0 (done ++ free) ws h ∙ ap (λ r. r || any (is_slot h) ws) (home_append done free h))
        ∙ by_test (h == c.home y) (is_home c.home done h)
        ∙ ap (λ r. (r || is_home c.home free h) || any (is_slot h) ws) (sym (home_append done (y ∷ []) h))
        ∙ ap (λ r. r || any (is_slot h) ws) (sym (home_append (done ++ y ∷ []) free h)) ∙ sym (any_variables 0 ((done ++ y ∷ []) ++ free) ws h)
      where
        by_test : (p q : Bool) → (p || ((q || is_home c.home (free_block c.captured (CloseAll xs ls b)) h) || any (is_slot h) (waiting_map c 1 js)))
            ≡ (((q || (p || false)) || is_home c.home (free_block c.captured (CloseAll xs ls b)) h) || any (is_slot h) (waiting_map c 1 js))
        by_test true true = refl
        by_test true false = refl
        by_test false true = refl
        by_test false false = refl

    making_is : (i : Instr) (done : List ℕ) (ss : List Bool) → ss ≡ marks (group_map c xs ls b js done) →
        here_item i no_registers ss None ≡ item_of (Does i (making_note c xs ls b js done) None)
    making_is i [] ss f = here-is i (AtBlock (CloseAll xs ls b) js) (group_map c xs ls b js []) None no_registers ss (no-registers-are (group_map c xs ls b js []) (group_registers [])) f
    making_is i (z ∷ done) ss f =
        here-is i (AtAll (length (z ∷ done)) (zeros ls) xs ls b js) (group_map c xs ls b js (z ∷ done)) None no_registers ss (no-registers-are (group_map c xs ls b js (z ∷ done)) (group_registers (z ∷ done))) f

    makes-are : (done ys ms : List ℕ) (ss : List Bool) → ss ≡ marks (group_map c xs ls b js done) → make_items c ss ys ms ≡ map item_of (makes c xs ls b js done ys ms)
    makes-are done [] [] ss f = refl
    makes-are done [] (m ∷ ms) ss f = refl
    makes-are done (y ∷ ys) [] ss f = refl
    makes-are done (y ∷ ys) (m ∷ ms) ss f =
        let es = group_map c xs ls b js done in
        next-is _ _ _ _ (making_is (I.Clo result (length (c.captured m)) m) done ss f)
        (next-is _ _ _ _ (here-is (I.Store result (c.home y)) (AtAll (suc (length done)) (zeros ls) xs ls b js) (Stands (Reg result) (Variable 0 y) ∷ es) None (one_register result) ss
        (ap (λ us. with_bit us result) (no-registers-are es (group_registers done)) ∙ with-register (Variable 0 y) result es)
        (f ∙ same-marks es (Stands (Reg result) (Variable 0 y) ∷ es) 0 c.size (λ h. refl)))
        (makes-are (done ++ y ∷ []) ys ms (with_slots c.home (y ∷ []) 0 ss)
        (slots-are 0 (y ∷ []) es ss f ∙ same-marks (Stands (Slot (c.home y)) (Variable 0 y) ∷ es) (group_map c xs ls b js (done ++ y ∷ [])) 0 c.size (one_more done y))))

  words-are : (y : ℕ) (pt : ℕ → Point) (es : List Entry) (ss : List Bool) → SameRegisters es [] → ss ≡ marks es → (j : ℕ) (xs : List ℕ) →
      word_items c ss j xs ≡ map item_of (words c y pt es j xs)
  words-are y pt es ss none f j [] = refl
  words-are y pt es ss none f j (x ∷ xs) =
      let one : one_register result ≡ reg_bits (Stands (Reg result) (Variable 0 y) ∷ es) 0 17 =
      ap (λ us. with_bit us result) (no-registers-are es none) ∙ with-register (Variable 0 y) result es in
      let two : with_bit (one_register result) 1 ≡ reg_bits (Stands (Reg 1) (Variable 0 x) ∷ Stands (Reg result) (Variable 0 y) ∷ es) 0 17 =
      ap (λ us. with_bit us 1) one ∙ with-register (Variable 0 x) 1 (Stands (Reg result) (Variable 0 y) ∷ es) in
      next-is _ _ _ _ (here-is (I.Load 1 (c.home x)) (pt j) (Stands (Reg result) (Variable 0 y) ∷ es) None (one_register result) ss one (f ∙ same-marks es (Stands (Reg result) (Variable 0 y) ∷ es) 0 c.size (λ h. refl)))
      (next-is _ _ _ _ (here-is (I.CaptSet result 1 j) (pt j) (Stands (Reg 1) (Variable 0 x) ∷ Stands (Reg result) (Variable 0 y) ∷ es) None (with_bit (one_register result) 1) ss two
      (f ∙ same-marks es (Stands (Reg 1) (Variable 0 x) ∷ Stands (Reg result) (Variable 0 y) ∷ es) 0 c.size (λ h. refl))) (words-are y pt es ss none f (suc j) xs))

  all_words_are : (y : ℕ) (pt : ℕ → Point) (es : List Entry) (ss : List Bool) → SameRegisters es [] → ss ≡ marks es → (xs : List ℕ) →
      all_word_items c y ss xs ≡ map item_of (all_words c y pt es xs)
  all_words_are y pt es ss none f [] = refl
  all_words_are y pt es ss none f (x ∷ xs) =
      next-is _ _ _ _ (here-is (I.Load result (c.home y)) (pt 0) es None no_registers ss (no-registers-are es none) f) (words-are y pt es ss none f 0 (x ∷ xs))

  writes-are : (xs ls : List ℕ) (b : Block) (js : Waiting) (ss : List Bool) → ss ≡ marks (group_map c xs ls b js xs) → (done ys ms : List ℕ) →
      write_items c ss ys ms ≡ map item_of (writes c xs ls b js done ys ms)
  writes-are xs ls b js ss f done [] [] = refl
  writes-are xs ls b js ss f done [] (m ∷ ms) = refl
  writes-are xs ls b js ss f done (y ∷ ys) [] = refl
  writes-are xs ls b js ss f done (y ∷ ys) (m ∷ ms) =
      let pt = λ (j : ℕ). AtAll (length xs) (counts c done ++ (j ∷ zeros ms)) xs ls b js in
      both-are _ _ (all_words c y pt (group_map c xs ls b js xs) (c.captured m)) (writes c xs ls b js (done ++ m ∷ []) ys ms)
      (all_words_are y pt (group_map c xs ls b js xs) ss (group_registers xs ls b js xs) f (c.captured m)) (writes-are xs ls b js ss f (done ++ m ∷ []) ys ms)

  pub group-is : (xs ls : List ℕ) (b : Block) (js : Waiting) (ws : List Bool) → Waits js ws →
      group_items c xs ls (block_slots c ws (CloseAll xs ls b)) ≡ map item_of (group c xs ls b js)
  group-is xs ls b js ws w =
      let free = free_block c.captured (CloseAll xs ls b) in
      let ss = block_slots c ws (CloseAll xs ls b) in
      let f = block-slots-are (CloseAll xs ls b) js ws w in
      both-are _ _ (makes c xs ls b js [] xs ls) (writes c xs ls b js [] xs ls) (makes-are xs ls b js [] xs ls ss f)
      (writes-are xs ls b js (with_slots c.home xs 0 ss)
      (slots-are 0 xs (block_map c (CloseAll xs ls b) js) ss f
      ∙ same-marks (variables c 0 xs ++ block_map c (CloseAll xs ls b) js) (group_map c xs ls b js xs) 0 c.size
      (λ h. any_variables 0 xs (block_map c (CloseAll xs ls b) js) h ∙ ap (λ r. is_home c.home xs h || r) (any_variables 0 free (waiting_map c 1 js) h)
      ∙ assoc_or (is_home c.home xs h) (is_home c.home free h) (any (is_slot h) (waiting_map c 1 js))
      ∙ ap (λ r. r || any (is_slot h) (waiting_map c 1 js)) (sym (home_append xs free h)) ∙ sym (any_variables 0 (xs ++ free) (waiting_map c 1 js) h)))
      [] xs ls)
    where
      assoc_or : (p q r : Bool) → (p || (q || r)) ≡ ((p || q) || r)
      assoc_or true q r = refl
      assoc_or false q r = refl

  passing-is : (js : Waiting) (e : Ending) (l : ℕ) → EndsAs js e → passing_items e l ≡ map item_of (passing js l)
  passing-is ToCaller e l q = ap (λ z. passing_items z l) q
  passing-is (ToTop k) e l q = ap (λ z. passing_items z l) q ∙ next-is _ _ _ _ (away-is (I.Jump l) (AtValue (ToTop k)) [] None no_registers refl) refl
  passing-is (Then x b m js) e l q = ap (λ z. passing_items z l) q

  passed-is : (js : Waiting) (e : Ending) (l : ℕ) → EndsAs js e → passed_items e l ≡ map item_of (passed js l)
  passed-is ToCaller e l q = ap (λ z. passed_items z l) q
  passed-is (ToTop k) e l q = ap (λ z. passed_items z l) q
  passed-is (Then x b m js) e l q = ap (λ z. passed_items z l) q

  mutual
    unfolding code_block code_bound code_last block_items bound_items tail_items

    -- the code of a block
    pub block-is : (b : Block) (js : Waiting) (ws : List Bool) (e : Ending) (l : ℕ) → Waits js ws → EndsAs js e → block_items c b ws e l ≡ map item_of (code_block c b js l)
    block-is (Bind x op b) js ws e l w q =
        both-are _ _ (code_bound c op x b js l) (code_block c b js (l + labels_of op)) (bound-is op x b js ws l w) (block-is b js ws e (l + labels_of op) w q)
    block-is (CloseAll xs ls b) js ws e l w q = both-are _ _ (group c xs ls b js) (code_block c b js l) (group-is xs ls b js ws w) (block-is b js ws e l w q)
    block-is (Tail op) js ws e l w q = tail-is op js ws e l w q

    bound-is : (op : Op) (x : ℕ) (k : Block) (js : Waiting) (ws : List Bool) (l : ℕ) → Waits js ws →
        bound_items c op x k ws (block_slots c ws (Bind x op k)) l ≡ map item_of (code_bound c op x k js l)
    bound-is (Branch a b d) x k js ws l w =
        let arm = Then x k l js in
        let vs = bound-slots-are x k l js ws w in
        let ends = ap (λ us. ending.Then (c.home x) l us) (block-slots-are (settled k) js ws w) in
        let es = block_map c (Bind x (Branch a b d) k) js in
        test-is (AtBlock (Bind x (Branch a b d) k) js) a (suc l) es (block_slots c ws (Bind x (Branch a b d) k)) _
        (code_block c b arm (l + 2) ++ (Mark (suc l) (block_note c d arm) ∷ (code_block c d arm (l + 2 + labels_in b) ++ (Mark l (block_note c k js) ∷ []))))
        (block-registers (Bind x (Branch a b d) k) js) (block-slots-are (Bind x (Branch a b d) k) js ws w)
        (both-are _ _ (code_block c b arm (l + 2)) (Mark (suc l) (block_note c d arm) ∷ (code_block c d arm (l + 2 + labels_in b) ++ (Mark l (block_note c k js) ∷ [])))
        (block-is b arm (bound_slots c ws x k) (arm_ending c ws x k l) (l + 2) vs ends)
        (next-is _ _ _ _ refl
        (both-are _ _ (code_block c d arm (l + 2 + labels_in b)) (Mark l (block_note c k js) ∷ [])
        (block-is d arm (bound_slots c ws x k) (arm_ending c ws x k l) (l + 2 + labels_in b) vs ends) refl)))
    bound-is (Atom a) x k js ws l w = plain-is (Atom a) x k js ws (block_slots c ws (Bind x (Atom a) k)) l w (block-slots-are (Bind x (Atom a) k) js ws w)
    bound-is (Global g p) x k js ws l w = plain-is (Global g p) x k js ws (block_slots c ws (Bind x (Global g p) k)) l w (block-slots-are (Bind x (Global g p) k) js ws w)
    bound-is (SetGlobal g a p) x k js ws l w = plain-is (SetGlobal g a p) x k js ws (block_slots c ws (Bind x (SetGlobal g a p) k)) l w (block-slots-are (Bind x (SetGlobal g a p) k) js ws w)
    bound-is (DefGlobal g a) x k js ws l w = plain-is (DefGlobal g a) x k js ws (block_slots c ws (Bind x (DefGlobal g a) k)) l w (block-slots-are (Bind x (DefGlobal g a) k) js ws w)
    bound-is (PrimUse o ds p) x k js ws l w = plain-is (PrimUse o ds p) x k js ws (block_slots c ws (Bind x (PrimUse o ds p) k)) l w (block-slots-are (Bind x (PrimUse o ds p) k) js ws w)
    bound-is (NewCell a) x k js ws l w = plain-is (NewCell a) x k js ws (block_slots c ws (Bind x (NewCell a) k)) l w (block-slots-are (Bind x (NewCell a) k) js ws w)
    bound-is (CellGet a p) x k js ws l w = plain-is (CellGet a p) x k js ws (block_slots c ws (Bind x (CellGet a p) k)) l w (block-slots-are (Bind x (CellGet a p) k) js ws w)
    bound-is (CellSet a z) x k js ws l w = plain-is (CellSet a z) x k js ws (block_slots c ws (Bind x (CellSet a z) k)) l w (block-slots-are (Bind x (CellSet a z) k) js ws w)
    bound-is (Close m) x k js ws l w = plain-is (Close m) x k js ws (block_slots c ws (Bind x (Close m) k)) l w (block-slots-are (Bind x (Close m) k) js ws w)
    bound-is (Call f ds p) x k js ws l w = plain-is (Call f ds p) x k js ws (block_slots c ws (Bind x (Call f ds p) k)) l w (block-slots-are (Bind x (Call f ds p) k) js ws w)
    bound-is (Direct m ds) x k js ws l w = plain-is (Direct m ds) x k js ws (block_slots c ws (Bind x (Direct m ds) k)) l w (block-slots-are (Bind x (Direct m ds) k) js ws w)
    bound-is (Apply f a p) x k js ws l w = plain-is (Apply f a p) x k js ws (block_slots c ws (Bind x (Apply f a p) k)) l w (block-slots-are (Bind x (Apply f a p) k) js ws w)

    tail-is : (op : Op) (js : Waiting) (ws : List Bool) (e : Ending) (l : ℕ) → Waits js ws → EndsAs js e →
        tail_items c op ws (block_slots c ws (Tail op)) e l ≡ map item_of (code_last c op js l)
    tail-is (Branch a b d) js ws e l w q =
        let es = block_map c (Tail (Branch a b d)) js in
        test-is (AtBlock (Tail (Branch a b d)) js) a (suc l) es (block_slots c ws (Tail (Branch a b d))) _
        (code_block c b js (l + 2) ++ (passing js l ++ (Mark (suc l) (block_note c d js) ∷ (code_block c d js (l + 2 + labels_in b) ++ passed js l))))
        (block-registers (Tail (Branch a b d)) js) (block-slots-are (Tail (Branch a b d)) js ws w)
        (both-are _ _ (code_block c b js (l + 2)) (passing js l ++ (Mark (suc l) (block_note c d js) ∷ (code_block c d js (l + 2 + labels_in b) ++ passed js l)))
        (block-is b js ws e (l + 2) w q)
        (both-are _ _ (passing js l) (Mark (suc l) (block_note c d js) ∷ (code_block c d js (l + 2 + labels_in b) ++ passed js l)) (passing-is js e l q)
        (next-is _ _ _ _ refl
        (both-are _ _ (code_block c d js (l + 2 + labels_in b)) (passed js l) (block-is d js ws e (l + 2 + labels_in b) w q) (passed-is js e l q)))))
    tail-is (Atom a) js ws e l w q = last-is (Atom a) js ws (block_slots c ws (Tail (Atom a))) e l w q (block-slots-are (Tail (Atom a)) js ws w)
    tail-is (Global g p) js ws e l w q = last-is (Global g p) js ws (block_slots c ws (Tail (Global g p))) e l w q (block-slots-are (Tail (Global g p)) js ws w)
    tail-is (SetGlobal g a p) js ws e l w q = last-is (SetGlobal g a p) js ws (block_slots c ws (Tail (SetGlobal g a p))) e l w q (block-slots-are (Tail (SetGlobal g a p)) js ws w)
    tail-is (DefGlobal g a) js ws e l w q = last-is (DefGlobal g a) js ws (block_slots c ws (Tail (DefGlobal g a))) e l w q (block-slots-are (Tail (DefGlobal g a)) js ws w)
    tail-is (PrimUse o ds p) js ws e l w q = last-is (PrimUse o ds p) js ws (block_slots c ws (Tail (PrimUse o ds p))) e l w q (block-slots-are (Tail (PrimUse o ds p)) js ws w)
    tail-is (NewCell a) js ws e l w q = last-is (NewCell a) js ws (block_slots c ws (Tail (NewCell a))) e l w q (block-slots-are (Tail (NewCell a)) js ws w)
    tail-is (CellGet a p) js ws e l w q = last-is (CellGet a p) js ws (block_slots c ws (Tail (CellGet a p))) e l w q (block-slots-are (Tail (CellGet a p)) js ws w)
    tail-is (CellSet a z) js ws e l w q = last-is (CellSet a z) js ws (block_slots c ws (Tail (CellSet a z))) e l w q (block-slots-are (Tail (CellSet a z)) js ws w)
    tail-is (Close m) js ws e l w q = last-is (Close m) js ws (block_slots c ws (Tail (Close m))) e l w q (block-slots-are (Tail (Close m)) js ws w)
    tail-is (Call f ds p) js ws e l w q = last-is (Call f ds p) js ws (block_slots c ws (Tail (Call f ds p))) e l w q (block-slots-are (Tail (Call f ds p)) js ws w)
    tail-is (Direct m ds) js ws e l w q = last-is (Direct m ds) js ws (block_slots c ws (Tail (Direct m ds))) e l w q (block-slots-are (Tail (Direct m ds)) js ws w)
    tail-is (Apply f a p) js ws e l w q = last-is (Apply f a p) js ws (block_slots c ws (Tail (Apply f a p))) e l w q (block-slots-are (Tail (Apply f a p)) js ws w)
