-- The constants that notes name are written by instructions, or are static objects that are there; and only register 0
-- holds the procedure that was entered.
use Rattle.std.proofs.Common.{◌≡◌, ℕ, zero, suc, ◌+◌, Bool, true, false, cond, List, [], ◌∷◌, ◌++◌, length, Option, Some, None, ◌≤◌, arith, slice_get, refl, sym, ap, ◌∙◌, subst, inl, inr, ⊎_elim}
use Rattle.tb_prim.specs.declared.place.Place.{Place}
use Rattle.tb_prim.specs.declared.constant.Const.{Const}
use Rattle.tb_semantics.specs.Graph.{IsIn}
use Rattle.tb_semantics.proofs.ListLemmas.{in-cases}
use Rattle.tb_ir.specs.AnfTree.{Operand, Block, Bind, CloseAll, Tail, Op, Branch, ProcTree, AnfTree}
use Rattle.tb_ir.specs.AnfMachine.{free_block}
use Rattle.tb_ir.specs.AnfRules.{KeepsRules, forms_of, lambdas_of}
use Rattle.tb_mac.specs.declared.code.Instr.{Instr}
use Rattle.tb_mac.specs.declared.code.Instr.TheVariants as I
use Rattle.tb_codegen.specs.Fits.{Fits}
use Rattle.tb_codegen.specs.Homes.{frame_size, slot_of}
use Rattle.tb_codegen.specs.Notes.{Spot, Reg, Slot, Symbol, Constant, Variable, Itself, Capture, Entry, Stands, Waiting, ToCaller, ToTop, Then, Point, AtBlock, AtValue, Own, Away, Ready, Note, Inside, AtProc, AtArgs, AtLifted, Noted, Mark, Does}
use Rattle.tb_codegen.specs.Operations.{Body, act, place, block_map, evaluated, first_register, here, is_call, leaving, loaded, loads, operands, returning, simple, value_map, variables, waiting_map}
use Rattle.tb_codegen.specs.Generate.{block_note, body_of, captured_in, code_block, code_bound, code_form, code_forms, code_lambda, code_lambdas, code_last, entry, frame_made, given, group, keep, labels_in, labels_of, labels_within, last, noted_items, operands_map, passed, passing, settled}
use Rattle.tb_codegen.proofs.Changes.{Same, same, Under, u_const, u_own, u_waits, u_deep, Given, g_const, g_new, g_var, g_deep, Kept, k_const, k_var, k_deep, Opens, o_under, o_capture, IsFirst, is_first, IsNew, is_new, IsThat, is_that, StandsAt, stands_at, From, Into, Starts}
use Rattle.tb_codegen.proofs.Ok.{IsWritten, Onward, not_yet, all_done, Ok, ok_load, ok_store, ok_const, ok_save, ok_setrtn, ok_pop, ok_jump, ok_form, ok_end, ok_act, ok_read, ok_write, ok_unspecified, ok_given, ok_branch, ok_return, ok_invoke, ok_apply, ok_direct, ok_proc, ok_lifted, ok_args, ok_args_ge, ok_capt, ok_close, ok_open, ok_fill, ok_filled, ok_first, ok_next, ok_stored, ok_word, HasNote}
use Rattle.tb_codegen.proofs.Chains.{Chain, c_end, c_does, c_mark, c_dead, Target}
use Rattle.tb_codegen.proofs.Maps.{entry-symbol, reg-same, variables-in, waiting-in}
use Rattle.tb_codegen.proofs.OperationChains.{body}
use Rattle.tb_mac.specs.Assemble.{number_of}
use Rattle.tb_codegen.proofs.Assembling.{items_of, note_at, notes_of}
use Rattle.tb_codegen.proofs.CodeChains.{bound-plain, is_branch, last-plain}
use Rattle.tb_codegen.proofs.Labels.{entry-none, frame-none, given-none, group-none, leaving-none, loads-none, marks, simple-none}
use Rattle.tb_codegen.proofs.Programs.{program-ok}
use Rattle.tb_codegen.proofs.WholeChains.{program-chain}
use Rattle.tb_codegen.proofs.Whole.{AllConstants}
use Rattle.tb_codegen.proofs.Keeping.{OnlyFirst}
use Rattle.tb_codegen.proofs.AllFields.{all-good}
use Rattle.tb_codegen.proofs.Ranges.{AllGood, SparesFirst}
use Rattle.tb_ir.specs.AnfWidth.{width_of}

-- what may stand at a spot
abbrev Fine : AnfTree → Spot → Symbol → Type 0
Fine p q (Constant c) = IsWritten p.statics c
Fine p q (Itself m) = q ≡ Reg 0
Fine p q (Variable d y) = Unit {0}
Fine p q (Capture j) = Unit {0}

abbrev AreFine : AnfTree → List Entry → Type 0
AreFine p es = (q : Spot) (s : Symbol) → IsIn (Stands q s) es → Fine p q s

abbrev FineNote : AnfTree → Note → Type 0
FineNote p (Inside pt own es) = AreFine p es
FineNote p n = Unit {0}

abbrev FineBehind : AnfTree → Option Note → Type 0
FineBehind p None = Unit {0}
FineBehind p (Some n) = FineNote p n

-- what changes names leaves them fine
abbrev Leaves : AnfTree → (Symbol → Symbol → Type 0) → Type 0
Leaves p C = (q : Spot) (z s : Symbol) → C z s → Fine p q z → Fine p q s

leaves-same : (p : AnfTree) → Leaves p Same
leaves-same p q z s (same t) h = h

leaves-under : (p : AnfTree) (o : Option (List ℕ)) (xs : List ℕ) → Leaves p (Under o xs)
leaves-under p o xs q z s (u_const k) h = h
leaves-under p o xs q z s (u_own y i) h = tt
leaves-under p o xs q z s (u_waits y ys e i) h = tt
leaves-under p o xs q z s (u_deep d y) h = tt

leaves-given : (p : AnfTree) (x : ℕ) (xs : List ℕ) → Leaves p (Given x xs)
leaves-given p x xs q z s (g_const k) h = h
leaves-given p x xs q z s (g_new i) h = tt
leaves-given p x xs q z s (g_var y ne i) h = tt
leaves-given p x xs q z s (g_deep d y) h = tt

leaves-kept : (p : AnfTree) (ys us : List ℕ) → Leaves p (Kept ys us)
leaves-kept p ys us q z s (k_const k) h = h
leaves-kept p ys us q z s (k_var y ne i) h = tt
leaves-kept p ys us q z s (k_deep d y) h = tt

leaves-opens : (p : AnfTree) (o : Option (List ℕ)) (xs : List ℕ) → Leaves p (Opens o xs)
leaves-opens p o xs q z s (o_under u) h = leaves-under p o [] q z s u h
leaves-opens p o xs q z s (o_capture j y e) h = tt

from-fine : (p : AnfTree) (C : Symbol → Symbol → Type 0) (new old : List Entry) → Leaves p C → From C new old → AreFine p old → AreFine p new
from-fine p C new old l f w q s i = let r = f.from q s i in l q r.0 s r.2 (w q r.0 r.1)

into-fine : (p : AnfTree) (r : Spot) (V : Symbol → Type 0) (C : Symbol → Symbol → Type 0) (new old : List Entry) → Leaves p C →
    ((s : Symbol) → V s → Fine p r s) → Into r V C new old → AreFine p old → AreFine p new
into-fine p r V C new old l v f w q s i =
    ⊎_elim (λ a. subst (λ t. Fine p t s) (sym a.0) (v s a.1)) (λ b. let o = b.1 in l q o.0 s o.2 (w q o.0 o.1)) (f.into q s i)

first-fine : (p : AnfTree) (r : Spot) (s : Symbol) → IsFirst s → Fine p r s
first-fine p r s is_first = tt

new-fine : (p : AnfTree) (r : Spot) (x : ℕ) (xs : List ℕ) (s : Symbol) → IsNew x xs s → Fine p r s
new-fine p r x xs s (is_new i) = tt

that-fine : (p : AnfTree) (r : Spot) (y : ℕ) (s : Symbol) → IsThat (Variable 0 y) s → Fine p r s
that-fine p r y s is_that = tt

that-constant : (p : AnfTree) (r : Spot) (k : Const) (s : Symbol) → IsWritten p.statics k → IsThat (Constant k) s → Fine p r s
that-constant p r k s w is_that = w

-- what stands elsewhere than in register 0 is fine anywhere
stands-fine : (p : AnfTree) (q r : Spot) (old : List Entry) → AreFine p old → (q ≡ Reg 0 → ⊥) → (s : Symbol) → StandsAt q old s → Fine p r s
stands-fine p q r old w ne s (stands_at i) = by s (w q s i)
  where
    by : (t : Symbol) → Fine p q t → Fine p r t
    by (Constant c) h = h
    by (Itself m) h = absurd (ne h)
    by (Variable d y) h = tt
    by (Capture j) h = tt

slot-first : (s : ℕ) → Slot s ≡ Reg 0 → ⊥
slot-first s e = cc

register-first : (a : ℕ) → 1 ≤ a → Reg a ≡ Reg 0 → ⊥
register-first a some e = let z = reg-same a 0 e in omega (arith, some, z)

variable-fine : (p : AnfTree) (q : Spot) (s : Symbol) (d y : ℕ) → s ≡ Variable d y → Fine p q s
variable-fine p q s d y e = subst (Fine p q) (sym e) tt

begins-fine : (p : AnfTree) (m : ℕ) (ps us : List ℕ) (new : List Entry) → Starts m ps us new → AreFine p new
begins-fine p m ps us new st q s i =
    ⊎_elim (λ b. subst (Fine p q) (sym b.1) b.0) (λ b. variable-fine p q s 0 b.0 b.3) (st.begins q s i)

does-note : {i j : Instr} {n m : Note} {q r : Option Place} → Does i n q ≡ Does j m r → n ≡ m
does-note e = cc

does-instr : {i j : Instr} {n m : Note} {q r : Option Place} → Does i n q ≡ Does j m r → i ≡ j
does-instr e = cc

does-mark : {i : Instr} {n m : Note} {q : Option Place} {l : ℕ} → Mark l m ≡ Does i n q → ⊥
does-mark e = cc

module _ (p : AnfTree) where
  onward-fine : (own : Own) (mid : List Entry) (made : ℕ) (ns xs ls : List ℕ) (k : Block) (js : Waiting) (n : Note) → AreFine p mid →
      Onward p own mid made ns xs ls k js n → FineNote p n
  onward-fine own mid made ns xs ls k js n w not_yet = w
  onward-fine own mid made ns xs ls k js n w (all_done {new = new} s e fu f) = from-fine p (Under None _) new mid (leaves-under p None _) f w

  -- an instruction whose note is fine has such a note behind it
  ok-fine : (T F : ℕ → Note → Type 0) (i : Instr) (q : Option Place) (n : Note) (o : Option Note) → Ok p T F i q n o → SparesFirst i → FineNote p n → FineBehind p o
  ok-fine T F i q n o (ok_load {s = s} {old = old} {new = new} z lt st into) sf w =
      into-fine p (Reg _) (StandsAt (Slot s) old) Same new old (leaves-same p) (stands-fine p (Slot s) _ old w (slot-first s)) into w
  ok-fine T F i q n o (ok_store {a = a} {old = old} {new = new} z lt st into) sf w =
      into-fine p (Slot _) (StandsAt (Reg a) old) Same new old (leaves-same p) (stands-fine p (Reg a) _ old w (register-first a sf)) into w
  ok-fine T F i q n o (ok_const j k {old = old} {new = new} e wr lt into) sf w =
      into-fine p (Reg _) (IsThat (Constant k)) Same new old (leaves-same p) (λ s v. that-constant p _ k s wr v) into w
  ok-fine T F i q n o (ok_save {old = old} {new = new} f) sf w = from-fine p Same new old (leaves-same p) f w
  ok-fine T F i q n o (ok_setrtn {old = old} {new = new} f) sf w = from-fine p Same new old (leaves-same p) f w
  ok-fine T F i q n o (ok_pop {old = old} {new = new} ns f) sf w = from-fine p Same new old (leaves-same p) f w
  ok-fine T F i q n o (ok_jump t f) sf w = tt
  ok-fine T F i q n o (ok_form b s e) sf w = λ r c j. absurd j
  ok-fine T F i q n o (ok_end e) sf w = tt
  ok-fine T F i q n o (ok_act op rs {o = under} {old = old} {new = new} a at lt args into) sf w =
      into-fine p (Reg _) IsFirst (Under under []) new old (leaves-under p under []) (first-fine p _) into w
  ok-fine T F i q n o (ok_read {o = under} {old = old} {new = new} at lt st into) sf w =
      into-fine p (Reg _) IsFirst (Under under []) new old (leaves-under p under []) (first-fine p _) into w
  ok-fine T F i q n o (ok_write op rs {o = under} {old = old} {new = new} a at args f) sf w = from-fine p (Under under []) new old (leaves-under p under []) f w
  ok-fine T F i q n o (ok_unspecified {old = old} {new = new} lt into) sf w = into-fine p (Reg _) IsFirst Same new old (leaves-same p) (first-fine p _) into w
  ok-fine T F i q n o (ok_given x k {old = old} {new = new} s lt st into) sf w =
      into-fine p (Slot _) (IsNew x _) (Given x _) new old (leaves-given p x _) (new-fine p _ x _) into w
  ok-fine T F i q n o (ok_branch {o = under} {old = old} {new1 = new} s1 s2 at st f1 t f2) sf w = from-fine p (Under under _) new old (leaves-under p under _) f1 w
  ok-fine T F i q n o (ok_return st) sf w = tt
  ok-fine T F i q n o (ok_invoke at e le args k) sf w = tt
  ok-fine T F i q n o (ok_apply at args k) sf w = tt
  ok-fine T F i q n o (ok_direct m r at lf e le args t s k) sf w = tt
  ok-fine T F i q n o (ok_proc m r en) sf w = tt
  ok-fine T F i q n o (ok_lifted m r s lf st f) sf w = λ sp t j. let b = st.begins_lifted sp t j in variable-fine p sp t 0 b.0 b.3
  ok-fine T F i q n o (ok_args m r {new = new} s en e e2 ap_c ca st) sf w = begins-fine p m r.params _ new st
  ok-fine T F i q n o (ok_args_ge m r {new = new} s en e e2 le ap_c ca st) sf w = begins-fine p m r.params _ new st
  ok-fine T F i q n o (ok_capt m x r {old = old} {new = new} lt en e st into) sf w =
      into-fine p (Reg _) (IsThat (Variable 0 x)) Same new old (leaves-same p) (that-fine p _ x) into w
  ok-fine T F i q n o (ok_close m r {o = under} {old = old} {new = new} at lt en e t into) sf w =
      into-fine p (Reg _) IsFirst (Under under []) new old (leaves-under p under []) (first-fine p _) into w
  ok-fine T F i q n o (ok_open m r {o = under} {old = old} {new = new} at lt en e le st t into) sf w =
      into-fine p (Reg _) IsFirst (Opens under r.captured) new old (leaves-opens p under r.captured) (first-fine p _) into w
  ok-fine T F i q n o (ok_fill {old = old} {new = new} lt s1 s2 f) sf w = from-fine p Same new old (leaves-same p) f w
  ok-fine T F i q n o (ok_filled {old = old} {new = new} e s1 s2 f) sf w = from-fine p Same new old (leaves-same p) f w
  ok-fine T F i q n o (ok_first {x = x} {old = old} {mid = mid} lt en e t ap_x long st into on) sf w =
      onward-fine _ mid _ _ _ _ _ _ _ (into-fine p (Reg _) (IsThat (Variable 0 x)) (Kept _ _) mid old (leaves-kept p _ _) (that-fine p _ x) into w) on
  ok-fine T F i q n o (ok_next {x = x} {old = old} {mid = mid} lt en e t g1 g2 g3 long into on) sf w =
      onward-fine _ mid _ _ _ _ _ _ _ (into-fine p (Reg _) (IsThat (Variable 0 x)) Same mid old (leaves-same p) (that-fine p _ x) into w) on
  ok-fine T F i q n o (ok_stored z {a = a} {old = old} {mid = mid} lt st into long on) sf w =
      onward-fine _ mid _ _ _ _ _ _ _ (into-fine p (Slot _) (StandsAt (Reg a) old) Same mid old (leaves-same p) (stands-fine p (Reg a) _ old w (register-first a sf)) into w) on
  ok-fine T F i q n o (ok_word j x y m {old = old} {mid = mid} g1 g2 g3 g4 long s1 s2 f on) sf w =
      onward-fine _ mid _ _ _ _ _ _ _ (from-fine p Same mid old (leaves-same p) f w) on

  -- so along all items, where the notes of labels are such notes
  record MarksFine (is : List Noted) : Type 0 where
    each : (l : ℕ) (n : Note) → IsIn (Mark l n) is → FineNote p n

  abbrev Spares : List Noted → Type 0
  Spares is = (i : Instr) (n : Note) (q : Option Place) → IsIn (Does i n q) is → SparesFirst i

  chain-fine : (all rest : List Noted) (o e : Option Note) (is : List Noted) → Chain p all rest o is e → Spares is → FineBehind p o → MarksFine is →
      (i : Instr) (n : Note) (q : Option Place) → IsIn (Does i n q) is → FineNote p n
  chain-fine all rest o e is c_end sp w m i n q k = absurd k
  chain-fine all rest o e is (c_does {n = k} {o = o2} {is = js} ok h) sp w m i n q (inl g) = subst (FineNote p) (does-note g) w
  chain-fine all rest o e is (c_does {i = i2} {q = q2} {n = k} {o = o2} {is = js} ok h) sp w m i n q (inr g) =
      chain-fine all rest o2 e js h (λ j n2 q3 g2. sp j n2 q3 (inr g2)) (ok-fine (Target all) (Target (js ++ rest)) i2 q2 k o2 ok (sp i2 k q2 (inl refl)) w) (record { each = λ l n2 j. m.each l n2 (inr j) }) i n q g
  chain-fine all rest o e is (c_mark {n = k} {is = js} h) sp w m i n q (inl g) = absurd (does-mark g)
  chain-fine all rest o e is (c_mark {n = k} {is = js} h) sp w m i n q (inr g) = chain-fine all rest (Some k) e js h (λ j n2 q3 g2. sp j n2 q3 (inr g2)) w (record { each = λ l n2 j. m.each l n2 (inr j) }) i n q g
  chain-fine all rest o e is (c_dead {n = k} {is = js} h) sp w m i n q (inl g) = absurd (does-mark g)
  chain-fine all rest o e is (c_dead {l = l2} {n = k} {is = js} h) sp w m i n q (inr g) =
      chain-fine all rest (Some k) e js h (λ j n2 q3 g2. sp j n2 q3 (inr g2)) (m.each l2 k (inl refl)) (record { each = λ l n2 j. m.each l n2 (inr j) }) i n q g

in-marks : (is : List Noted) (l : ℕ) (n : Note) → IsIn (Mark l n) is → IsIn l (marks is)
in-marks [] l n i = absurd i
in-marks (Mark m k ∷ is) l n (inl e) = inl (mark-label e)
  where
    mark-label : {a b : ℕ} {x y : Note} → Mark a x ≡ Mark b y → a ≡ b
    mark-label f = cc
in-marks (Mark m k ∷ is) l n (inr i) = inr (in-marks is l n i)
in-marks (Does j k q ∷ is) l n (inl e) = absurd (does-mark (sym e))
in-marks (Does j k q ∷ is) l n (inr i) = in-marks is l n i

mark-note : {a b : ℕ} {x y : Note} → Mark a x ≡ Mark b y → x ≡ y
mark-note f = cc

module _ (p : AnfTree) (home : ℕ → ℕ) (size : ℕ) where
  abbrev c : Body
  c = body p [] home size

  variables-fine : (d : ℕ) (xs : List ℕ) → AreFine p (variables c d xs)
  variables-fine d xs q s i = let v = variables-in c d xs q s i in variable-fine p q s d v.0 v.2.symbol

  waiting-fine : (d : ℕ) (js : Waiting) → AreFine p (waiting_map c d js)
  waiting-fine d js q s i = let v = waiting-in c d js q s i in variable-fine p q s _ _ v.symbol

  block-fine : (b : Block) (js : Waiting) → AreFine p (block_map c b js)
  block-fine b js q k i =
      ⊎_elim (variables-fine 0 (free_block (captured_in p) b) q k) (waiting-fine 1 js q k) (in-cases (variables c 0 (free_block (captured_in p) b)) _ _ i)

  value-fine : (js : Waiting) → AreFine p (value_map c js)
  value-fine js q s (inl e) = variable-fine p q s 0 0 (entry-symbol _ q _ s e)
  value-fine js q s (inr i) = waiting-fine 1 js q s i

  marks-none : (is : List Noted) → marks is ≡ [] → MarksFine p is
  marks-none is e = record { each = λ l n i. absurd (subst (IsIn l) e (in-marks is l n i)) }

  marks-both : (is js : List Noted) → MarksFine p is → MarksFine p js → MarksFine p (is ++ js)
  marks-both is js f g = record { each = λ l n i. ⊎_elim (f.each l n) (g.each l n) (in-cases is js _ i) }

  one-mark : (m : ℕ) (k : Note) (is : List Noted) → FineNote p k → MarksFine p is → MarksFine p (Mark m k ∷ is)
  one-mark m k is w f = record { each = λ l n. ⊎_elim (λ e. subst (FineNote p) (mark-note e) w) (f.each l n) }

  no-marks : MarksFine p []
  no-marks = record { each = λ l n i. absurd i }

  does-more : (i : Instr) (k : Note) (q : Option Place) (is : List Noted) → MarksFine p is → MarksFine p (Does i k q ∷ is)
  does-more i k q is f = record { each = λ l n. ⊎_elim (λ e. absurd (does-mark (sym e))) (f.each l n) }

  evaluated-marks : (op : Op) (pt : Point) (js : Waiting) (l : ℕ) (es : List Entry) → MarksFine p (evaluated c op pt js l es)
  evaluated-marks op pt js l es = by (is_call op)
    where
      by : (b : Bool) → MarksFine p (cond b (returning c op pt js l es) (simple c op pt js es))
      by false = marks-none (simple c op pt js es) (simple-none c op pt js es)
      by true =
          let now = loaded (first_register op) (operands op) es in
          marks-both (loads c pt (first_register op) (operands op) es)
          (Does (I.SetRtn l) (here c pt now) None ∷ Does (act c l op) (Inside pt (Ready c.size l) now) (place op) ∷ Mark l (here c (AtValue js) (value_map c js)) ∷ [])
          (marks-none (loads c pt (first_register op) (operands op) es) (loads-none c pt (first_register op) (operands op) es))
          (does-more (I.SetRtn l) (here c pt now) None _ (does-more (act c l op) (Inside pt (Ready c.size l) now) (place op) _ (one-mark l (here c (AtValue js) (value_map c js)) [] (value-fine js) no-marks)))

  last-marks : (op : Op) (js : Waiting) (l : ℕ) → MarksFine p (last c op js l)
  last-marks op ToCaller l = by (is_call op)
    where
      by : (b : Bool) → MarksFine p (cond b (leaving c op (AtBlock (Tail op) ToCaller) (block_map c (Tail op) ToCaller))
          (evaluated c op (AtBlock (Tail op) ToCaller) ToCaller l (block_map c (Tail op) ToCaller) ++ given c ToCaller))
      by true = marks-none _ (leaving-none c op (AtBlock (Tail op) ToCaller) (block_map c (Tail op) ToCaller))
      by false = marks-both (evaluated c op (AtBlock (Tail op) ToCaller) ToCaller l (block_map c (Tail op) ToCaller)) (given c ToCaller)
          (evaluated-marks op (AtBlock (Tail op) ToCaller) ToCaller l (block_map c (Tail op) ToCaller)) (marks-none (given c ToCaller) (given-none c ToCaller))
  last-marks op (ToTop k) l =
      marks-both (evaluated c op (AtBlock (Tail op) (ToTop k)) (ToTop k) l (block_map c (Tail op) (ToTop k))) (given c (ToTop k))
      (evaluated-marks op (AtBlock (Tail op) (ToTop k)) (ToTop k) l (block_map c (Tail op) (ToTop k))) (marks-none (given c (ToTop k)) (given-none c (ToTop k)))
  last-marks op (Then x b m js) l =
      marks-both (evaluated c op (AtBlock (Tail op) (Then x b m js)) (Then x b m js) l (block_map c (Tail op) (Then x b m js))) (given c (Then x b m js))
      (evaluated-marks op (AtBlock (Tail op) (Then x b m js)) (Then x b m js) l (block_map c (Tail op) (Then x b m js)))
      (marks-none (given c (Then x b m js)) (given-none c (Then x b m js)))

  bound-marks : (op : Op) (x : ℕ) (k : Block) (js : Waiting) (l : ℕ) → is_branch op ≡ false → MarksFine p (code_bound c op x k js l)
  bound-marks op x k js l e =
      subst (MarksFine p) (sym (bound-plain p [] home size op x k js l e))
      (marks-both (evaluated c op (AtBlock (Bind x op k) js) (Then x k l js) l (block_map c (Bind x op k) js)) (keep c x (Then x k l js))
      (evaluated-marks op (AtBlock (Bind x op k) js) (Then x k l js) l (block_map c (Bind x op k) js)) (marks-none (keep c x (Then x k l js)) refl))

  tail-marks : (op : Op) (js : Waiting) (l : ℕ) → is_branch op ≡ false → MarksFine p (code_last c op js l)
  tail-marks op js l e = subst (MarksFine p) (sym (last-plain p [] home size op js l e)) (last-marks op js l)

  passed-marks : (js : Waiting) (l : ℕ) → MarksFine p (passed js l)
  passed-marks ToCaller l = no-marks
  passed-marks (ToTop k) l = one-mark l (Inside (AtValue (ToTop k)) Away []) [] (λ q c i. absurd i) no-marks
  passed-marks (Then x b j js) l = no-marks

  passing-marks : (js : Waiting) (l : ℕ) → MarksFine p (passing js l)
  passing-marks ToCaller l = no-marks
  passing-marks (ToTop k) l = does-more _ _ _ _ no-marks
  passing-marks (Then x b j js) l = no-marks

  test-marks : (pt : Point) (a : Operand) (l : ℕ) (es : List Entry) (is : List Noted) → MarksFine p is →
      MarksFine p (loads c pt 1 (a ∷ []) es ++ (Does (I.Brf 1 (suc l)) (here c pt (loaded 1 (a ∷ []) es)) None ∷ is))
  test-marks pt a l es is f = does-more _ _ _ _ (does-more _ _ _ _ f)

  mutual
    unfolding code_block code_bound code_last

    block-marks : (b : Block) (js : Waiting) (l : ℕ) → MarksFine p (code_block c b js l)
    block-marks (Bind x op k) js l = marks-both (code_bound c op x k js l) (code_block c k js (l + labels_of op)) (arms-marks op x k js l) (block-marks k js (l + labels_of op))
    block-marks (CloseAll xs ls k) js l =
        marks-both (group c xs ls k js) (code_block c k js l) (marks-none (group c xs ls k js) (group-none c xs ls k js)) (block-marks k js l)
    block-marks (Tail op) js l = ends-marks op js l

    arms-marks : (op : Op) (x : ℕ) (k : Block) (js : Waiting) (l : ℕ) → MarksFine p (code_bound c op x k js l)
    arms-marks (Branch a b d) x k js l =
        let arm = Then x k l js in
        let second = code_block c d arm (l + 2 + labels_in b) in
        let end = Mark l (block_note c k js) ∷ [] in
        test-marks (AtBlock (Bind x (Branch a b d) k) js) a l (block_map c (Bind x (Branch a b d) k) js)
        (code_block c b arm (l + 2) ++ (Mark (suc l) (block_note c d arm) ∷ (second ++ end)))
        (marks-both (code_block c b arm (l + 2)) (Mark (suc l) (block_note c d arm) ∷ (second ++ end)) (block-marks b arm (l + 2))
        (one-mark (suc l) (block_note c d arm) (second ++ end) (block-fine (settled d) arm)
        (marks-both second end (block-marks d arm (l + 2 + labels_in b)) (one-mark l (block_note c k js) [] (block-fine (settled k) js) no-marks))))
    arms-marks op x k js l = bound-marks op x k js l refl

    ends-marks : (op : Op) (js : Waiting) (l : ℕ) → MarksFine p (code_last c op js l)
    ends-marks (Branch a b d) js l =
        let second = code_block c d js (l + 2 + labels_in b) in
        let behind_first = Mark (suc l) (block_note c d js) ∷ (second ++ passed js l) in
        test-marks (AtBlock (Tail (Branch a b d)) js) a l (block_map c (Tail (Branch a b d)) js) (code_block c b js (l + 2) ++ (passing js l ++ behind_first))
        (marks-both (code_block c b js (l + 2)) (passing js l ++ behind_first) (block-marks b js (l + 2))
        (marks-both (passing js l) behind_first (passing-marks js l)
        (one-mark (suc l) (block_note c d js) (second ++ passed js l) (block-fine (settled d) js)
        (marks-both second (passed js l) (block-marks d js (l + 2 + labels_in b)) (passed-marks js l)))))
    ends-marks op js l = tail-marks op js l refl

module _ (p : AnfTree) where
  forms-marks : (k : ℕ) (qs : List ProcTree) (l : ℕ) → MarksFine p (code_forms p k qs l)
  forms-marks k [] l = record { each = λ m n i. absurd i }
  forms-marks k (q ∷ qs) l =
      marks-both p (slot_of q) (frame_size q) (code_form p k q l) (code_forms p (suc k) qs (l + labels_in q.body))
      (does-more p (slot_of q) (frame_size q) _ _ _ _ (block-marks p (slot_of q) (frame_size q) q.body (ToTop (suc k)) l))
      (forms-marks (suc k) qs (l + labels_in q.body))

  entry-fine : (n : ℕ) (q : ProcTree) → FineNote p (cond q.lifted (AtLifted n (operands_map (free_block (captured_in p) q.body) 1 q.params)) (AtProc n))
  entry-fine n q = by q.lifted
    where
      by : (b : Bool) → FineNote p (cond b (AtLifted n (operands_map (free_block (captured_in p) q.body) 1 q.params)) (AtProc n))
      by true = tt
      by false = tt

  lambdas-marks : (n : ℕ) (qs : List ProcTree) (l : ℕ) → MarksFine p (code_lambdas p n qs l)
  lambdas-marks n [] l = record { each = λ m k i. absurd i }
  lambdas-marks n (q ∷ qs) l =
      let block = code_block (body_of p q) q.body ToCaller l in
      let frame = frame_made (body_of p q) n q.body q.params q.captured in
      marks-both p (slot_of q) (frame_size q) (code_lambda p n q l) (code_lambdas p (suc n) qs (l + labels_in q.body))
      (one-mark p (slot_of q) (frame_size q) n _ (entry (body_of p q) n q ++ (frame ++ block)) (entry-fine n q)
      (marks-both p (slot_of q) (frame_size q) (entry (body_of p q) n q) (frame ++ block)
      (marks-none p (slot_of q) (frame_size q) (entry (body_of p q) n q) (entry-none p n q))
      (marks-both p (slot_of q) (frame_size q) frame block (marks-none p (slot_of q) (frame_size q) frame (frame-none p n q))
      (block-marks p (slot_of q) (frame_size q) q.body ToCaller l))))
      (lambdas-marks (suc n) qs (l + labels_in q.body))

  all-marks : MarksFine p (noted_items p)
  all-marks =
      let l = length (lambdas_of p) in
      let last = code_lambdas p 0 (lambdas_of p) (l + labels_within (forms_of p)) in
      marks-both p (λ x. x) 0 (code_forms p 0 (forms_of p) l) (Does I.End (Inside (AtValue (ToTop (length (forms_of p)))) Away []) None ∷ last)
      (forms-marks 0 (forms_of p) l) (does-more p (λ x. x) 0 _ _ _ last (lambdas-marks 0 (lambdas_of p) (l + labels_within (forms_of p))))

-- a note inside a body is that of an instruction
note-does : (a : ℕ → ℕ) (is : List Noted) (pc : ℕ) (pt : Point) (own : Own) (es : List Entry) → slice_get (notes_of a is) pc ≡ Some (Inside pt own es) →
    (i : Instr) × (q : Option Place) × (r : Own) × IsIn (Does i (Inside pt r es) q) is
note-does a [] pc pt own es e = absurd (none-some e)
  where
    none-some : {X : Type 0} {x : X} → None ≡ Some x → ⊥
    none-some f = cc
note-does a (Mark l n ∷ is) pc pt own es e = let r = note-does a is pc pt own es e in (r.0, r.1, r.2, inr r.3)
note-does a (Does i n q ∷ is) zero pt own es e = by n e
  where
    some-same : {X : Type 0} {x y : X} → Some x ≡ Some y → x ≡ y
    some-same f = cc

    inside-same : {t s : Point} {r u : Own} {fs gs : List Entry} → Inside t r fs ≡ Inside s u gs → (t ≡ s) × (fs ≡ gs)
    inside-same f = (cc, cc)

    not-proc : {m : ℕ} {t : Point} {r : Own} {fs : List Entry} → AtProc m ≡ Inside t r fs → ⊥
    not-proc f = cc

    not-args : {m : ℕ} {t : Point} {r : Own} {fs : List Entry} → AtArgs m ≡ Inside t r fs → ⊥
    not-args f = cc

    not-lifted : {m : ℕ} {t : Point} {r : Own} {fs gs : List Entry} → AtLifted m gs ≡ Inside t r fs → ⊥
    not-lifted f = cc

    by : (k : Note) → Some (note_at a k) ≡ Some (Inside pt own es) → (j : Instr) × (s : Option Place) × (r : Own) × IsIn (Does j (Inside pt r es) s) (Does i k q ∷ is)
    by (Inside t r fs) f =
        let same = inside-same (some-same f) in
        (i, q, r, inl (ap (λ z. Does i (Inside z r fs) q) same.0 ∙ ap (λ z. Does i (Inside pt r z) q) same.1))
    by (AtProc m) f = absurd (not-proc (some-same f))
    by (AtArgs m) f = absurd (not-args (some-same f))
    by (AtLifted m gs) f = absurd (not-lifted (some-same f))
note-does a (Does i n q ∷ is) (suc pc) pt own es e = let r = note-does a is pc pt own es e in (r.0, r.1, r.2, inr r.3)

-- no item stores register 0
good-spares : (p : AnfTree) (w : ℕ) (narrow : w ≤ 1000) (is : List Noted) → AllGood p w narrow is → Spares p is
good-spares p w narrow [] h i n q k = absurd k
good-spares p w narrow (Mark l m ∷ is) h i n q (inl e) = absurd (does-mark e)
good-spares p w narrow (Mark l m ∷ is) h i n q (inr k) = good-spares p w narrow is h i n q k
good-spares p w narrow (Does j m r ∷ is) h i n q (inl e) = subst SparesFirst (does-instr e) h.0.spares_first
good-spares p w narrow (Does j m r ∷ is) h i n q (inr k) = good-spares p w narrow is h.1 i n q k

-- the notes of a program's items
notes-fine : (p : AnfTree) → KeepsRules p → Fits p → (pc : ℕ) (pt : Point) (own : Own) (es : List Entry) →
    HasNote p (notes_of (number_of (items_of (noted_items p))) (noted_items p)) pc (Inside pt own es) → AreFine p es
notes-fine p rules fits pc pt own es g =
    let r = note-does (number_of (items_of (noted_items p))) (noted_items p) pc pt own es g in
    chain-fine p (noted_items p) [] (Some (Inside (AtValue (ToTop 0)) Away [])) None (noted_items p) (program-chain p (program-ok p rules fits))
    (good-spares p (width_of p) fits.narrow (noted_items p) (all-good p rules fits fits.narrow))
    (λ q s i. absurd i) (all-marks p) r.0 (Inside pt r.2 es) r.1 r.3

pub constants-written : (p : AnfTree) → KeepsRules p → Fits p → AllConstants p (notes_of (number_of (items_of (noted_items p))) (noted_items p))
constants-written p rules fits = record { all = λ pc pt own es g. record { constants = λ q c. notes-fine p rules fits pc pt own es g q (Constant c) } }

pub only-first : (p : AnfTree) → KeepsRules p → Fits p → OnlyFirst p (notes_of (number_of (items_of (noted_items p))) (noted_items p))
only-first p rules fits = record { only = λ pc pt own es g q m. notes-fine p rules fits pc pt own es g q (Itself m) }
