-- Scrubbing leaves what a note names as it is.
use Rattle.std.proofs.Common.{◌≡◌, refl, sym, ◌∙◌, subst, ap, ℕ, zero, suc, ◌+◌, ◌<◌, ◌≤◌, ◌==◌, ◌&&◌, ◌||◌, ◌⊎◌, Bool, true, false, cond, inl, inr, ⊎_elim, arith, List, [], ◌∷◌, length, Option, Some, None, slice_get, eq-eqb, le-ltb}
use Rattle.std.specs.Prelude.{pos, nat_le, nat_lt, not}
use Rattle.std.proofs.lemmas.Bool.{cases_eq}
use Rattle.tb_prim.specs.declared.constant.Const.{Const}
use Rattle.tb_prim.specs.declared.constant.Static.{Static}
use Rattle.tb_prim.specs.declared.place.Place.{Place}
use Rattle.tb_semantics.specs.Graph.{IsIn}
use Rattle.tb_ir.specs.AnfTree.{AnfTree, Op}
use Rattle.tb_mac.specs.declared.code.Instr.{Instr}
use Rattle.tb_mac.specs.declared.code.LambdaEntry.{LambdaEntry}
use Rattle.tb_mac.specs.declared.word.Word.{Word}
use Rattle.tb_mac.specs.declared.word.Word.TheVariants as W
use Rattle.tb_mac.specs.Assembled.{Assembled}
use Rattle.tb_mac.specs.Frames.{Frame as MacFrame, Framed}
use Rattle.tb_mac.specs.LiveWords.{counts_now, is_beyond, is_bit_set, is_counted, is_live_register, map_at, operand_count, slots_at, slots_of}
use Rattle.tb_mac.specs.Scrubbed.{are_waiting, is_walkable, poison, scrub, scrub_frames, scrub_registers, scrub_slots, scrub_waiting}
use Rattle.tb_codegen.specs.Notes.{Spot, Reg, Slot, Symbol, Entry, Stands, Own, Away, Here, Ready, Note, Point, Inside, AtProc, AtArgs, AtLifted, any, entry_bits, is_register, is_slot, note_map, own_slots, register_bits, slot_bits}
use Rattle.tb_codegen.specs.Operations.{constant}
use Rattle.tb_codegen.proofs.Bits.{digit}
use Rattle.tb_codegen.proofs.Envs.{get-within}
use Rattle.tb_codegen.proofs.Ok.{Acts, a_quote, a_global, a_use0, a_use1, a_use2, a_use3, a_cell, a_get, Follows, Further, HasNote, Ok, Writes, w_set, w_define, w_cell, ok_load, ok_store, ok_const, ok_save, ok_setrtn, ok_pop, ok_jump, ok_form, ok_end, ok_act, ok_read, ok_write, ok_unspecified, ok_given, ok_branch, ok_return, ok_invoke, ok_apply, ok_direct, ok_proc, ok_lifted, ok_args, ok_args_ge, ok_capt, ok_close, ok_open, ok_fill, ok_filled, ok_first, ok_next, ok_stored, ok_word}
use Rattle.tb_codegen.proofs.Rel.{read}
use Rattle.tb_scrubbed.proofs.Alike.{Agree, AgreeBack, LockAt, LockEntry, LockIn, Owns, own_away, own_here, own_ready, own_words, Pair, right, top_slots, Waits, w_none, w_more}

-- registers and slots that are live stay
registers_long : (live : ℕ → Bool) (k : ℕ) (ws : List Word) → length (scrub_registers live k ws) ≡ length ws
registers_long live k [] = refl
registers_long live k (w ∷ ws) = ap suc (registers_long live (k + 1) ws)

register_stays : (live : ℕ → Bool) (k : ℕ) (ws : List Word) (a : ℕ) → live (k + a) ≡ true → slice_get (scrub_registers live k ws) a ≡ slice_get ws a
register_stays live k [] a e = refl
register_stays live k (w ∷ ws) zero e =
    let z : k + 0 ≡ k = omega arith in
    let f : live k ≡ true = subst (λ n. live n ≡ true) z e in
    rw f refl
register_stays live k (w ∷ ws) (suc a) e =
    let z : k + suc a ≡ k + 1 + a = omega arith in
    register_stays live (k + 1) ws a (subst (λ n. live n ≡ true) z e)

slots_long : (bits : List Bool) (ws : List Word) → length (scrub_slots bits ws) ≡ length ws
slots_long [] [] = refl
slots_long (b ∷ bits) [] = refl
slots_long [] (w ∷ ws) = ap suc (slots_long [] ws)
slots_long (b ∷ bits) (w ∷ ws) = ap suc (slots_long bits ws)

slot_stays : (es : List Entry) (x : ℕ) (ws : List Word) (i : ℕ) → any (is_slot (x + i)) es ≡ true → slice_get (scrub_slots (slot_bits es x (length ws)) ws) i ≡ slice_get ws i
slot_stays es x [] i e = refl
slot_stays es x (w ∷ ws) zero e =
    let z : x + 0 ≡ x = omega arith in
    let f : any (is_slot x) es ≡ true = subst (λ n. any (is_slot n) es ≡ true) z e in
    rw f refl
slot_stays es x (w ∷ ws) (suc i) e =
    let z : x + suc i ≡ suc x + i = omega arith in
    slot_stays es (suc x) ws i (subst (λ n. any (is_slot n) es ≡ true) z e)

slot_keeps : (es : List Entry) (ws : List Word) (i : ℕ) → any (is_slot i) es ≡ true → slice_get (scrub_slots (slot_bits es 0 (length ws)) ws) i ≡ slice_get ws i
slot_keeps es ws i e = let z : i ≡ 0 + i = omega arith in slot_stays es 0 ws i (subst (λ n. any (is_slot n) es ≡ true) z e)

-- a spot with an entry has its bit set
any_register : (es : List Entry) (a : ℕ) (s : Symbol) → IsIn (Stands (Reg a) s) es → any (is_register a) es ≡ true
any_register [] a s i = absurd i
any_register (e ∷ es) a s (inl q) = let t : is_register a (Stands (Reg a) s) ≡ true = eq-eqb a a refl in rw (q, t) refl
any_register (e ∷ es) a s (inr i) = let t = any_register es a s i in rw t (or_true (is_register a e))
  where
    or_true : (b : Bool) → (b || true) ≡ true
    or_true true = refl
    or_true false = refl

any_slot : (es : List Entry) (a : ℕ) (s : Symbol) → IsIn (Stands (Slot a) s) es → any (is_slot a) es ≡ true
any_slot [] a s i = absurd i
any_slot (e ∷ es) a s (inl q) = let t : is_slot a (Stands (Slot a) s) ≡ true = eq-eqb a a refl in rw (q, t) refl
any_slot (e ∷ es) a s (inr i) = let t = any_slot es a s i in rw t (or_true (is_slot a e))
  where
    or_true : (b : Bool) → (b || true) ≡ true
    or_true true = refl
    or_true false = refl

-- operands are counted at entries through a procedure alone
constant_uncounted : (lambdas : List LambdaEntry) (statics : List Static) (d : ℕ) (k : Const) → is_counted lambdas (constant statics d k) ≡ false
constant_uncounted lambdas statics d (Const.Fix n) = refl
constant_uncounted lambdas statics d (Const.Char n) = refl
constant_uncounted lambdas statics d (Const.Bool b) = refl
constant_uncounted lambdas statics d Const.Nil = refl
constant_uncounted lambdas statics d Const.Unspecified = refl
constant_uncounted lambdas statics d Const.Undefined = refl
constant_uncounted lambdas statics d (Const.Stat n) = refl

module _ (p : AnfTree) where
  act_uncounted : (lambdas : List LambdaEntry) (op : Op) (i : Instr) (rs : List ℕ) (d : ℕ) → Acts p op i rs d → is_counted lambdas i ≡ false
  act_uncounted lambdas op i rs d (a_quote c j f e wr) = rw e (constant_uncounted lambdas p.statics f c)
  act_uncounted lambdas op i rs d (a_global g q f lt) = refl
  act_uncounted lambdas op i rs d (a_use0 r q f) = refl
  act_uncounted lambdas op i rs d (a_use1 r x q f a) = refl
  act_uncounted lambdas op i rs d (a_use2 r x y q f a b) = refl
  act_uncounted lambdas op i rs d (a_use3 r x y z q a b e) = refl
  act_uncounted lambdas op i rs d (a_cell x f a) = refl
  act_uncounted lambdas op i rs d (a_get x q f a) = refl

  write_uncounted : (lambdas : List LambdaEntry) (op : Op) (i : Instr) (rs : List ℕ) → Writes p op i rs → is_counted lambdas i ≡ false
  write_uncounted lambdas op i rs (w_set g x q a lt) = refl
  write_uncounted lambdas op i rs (w_define g x a lt) = refl
  write_uncounted lambdas op i rs (w_cell x y a b) = refl

  uncounted : (T F : ℕ → Note → Type 0) (lambdas : List LambdaEntry) (i : Instr) (pl : Option Place) (pt : Point) (own : Own) (map : List Entry) (o : Option Note) →
      Ok p T F i pl (Inside pt own map) o → is_counted lambdas i ≡ false
  uncounted T F lambdas i pl pt own map o (ok_load z lt k n) = refl
  uncounted T F lambdas i pl pt own map o (ok_store z lt k n) = refl
  uncounted T F lambdas i pl pt own map o (ok_const j c {d = d} e wr lt n) = rw e (constant_uncounted lambdas p.statics d c)
  uncounted T F lambdas i pl pt own map o (ok_save n) = refl
  uncounted T F lambdas i pl pt own map o (ok_setrtn n) = refl
  uncounted T F lambdas i pl pt own map o (ok_pop ns n) = refl
  uncounted T F lambdas i pl pt own map o (ok_jump f n) = refl
  uncounted T F lambdas i pl pt own map o (ok_form b se e) = refl
  uncounted T F lambdas i pl pt own map o (ok_end e) = refl
  uncounted T F lambdas i pl pt own map o (ok_act op rs ac at lt args n) = act_uncounted lambdas op i rs _ ac
  uncounted T F lambdas i pl pt own map o (ok_read at lt k n) = refl
  uncounted T F lambdas i pl pt own map o (ok_write op rs wr at args n) = write_uncounted lambdas op i rs wr
  uncounted T F lambdas i pl pt own map o (ok_unspecified lt n) = refl
  uncounted T F lambdas i pl pt own map o (ok_given x k se lt j n) = refl
  uncounted T F lambdas i pl pt own map o (ok_branch sb sc at k n t n2) = refl
  uncounted T F lambdas i pl pt own map o (ok_return k) = refl
  uncounted T F lambdas i pl pt own map o (ok_invoke at e le args cs) = refl
  uncounted T F lambdas i pl pt own map o (ok_apply at args cs) = refl
  uncounted T F lambdas i pl pt own map o (ok_direct m q at lf len le args t st cs) = refl
  uncounted T F lambdas i pl pt own map o (ok_capt m x q lt en e k n) = refl
  uncounted T F lambdas i pl pt own map o (ok_close m q at lt en e t n) = refl
  uncounted T F lambdas i pl pt own map o (ok_open m q at lt en e le st t n) = refl
  uncounted T F lambdas i pl pt own map o (ok_fill lt a b n) = refl
  uncounted T F lambdas i pl pt own map o (ok_filled e a b n) = refl
  uncounted T F lambdas i pl pt own map o (ok_first lt en e t ap' len st n on) = refl
  uncounted T F lambdas i pl pt own map o (ok_next lt en e t g h k len n on) = refl
  uncounted T F lambdas i pl pt own map o (ok_stored z lt k n len on) = refl
  uncounted T F lambdas i pl pt own map o (ok_word a x y m g h k l len ia ib n on) = refl

-- the second state of a pair, scrubbed
abbrev pub cleaned : Assembled → Pair → List MacFrame → Pair
cleaned c y top = record y { regs2 = scrub_registers (is_live_register c (right y top)) 0 y.regs2 }

abbrev pub cleaned_frames : Assembled → Pair → List MacFrame → List MacFrame
cleaned_frames c y top = scrub_frames c (slots_of (map_at c y.pc)) top

-- a register of a map is live, where operands are not counted
live_there : (b : Bool) (n : ℕ) (a : ℕ) (k : Bool) → b ≡ true → k ≡ false → (b && not (k && is_beyond n a)) ≡ true
live_there b n a k e f = rw (e, f) refl

-- and where they are, one that is no operand beyond the number
beyond_not : (n i : ℕ) → i ≤ n → is_beyond n i ≡ false
beyond_not n i le = let e : nat_lt n i ≡ false = le-ltb n i le in rw e (and_false (nat_le 1 i) (nat_le i 12))
  where
    and_false : (a b : Bool) → (a && (b && false)) ≡ false
    and_false true true = refl
    and_false true false = refl
    and_false false b = refl

not_counted : (k b : Bool) → b ≡ false → not (k && b) ≡ true
not_counted true b e = rw e refl
not_counted false b e = refl

bits_long : (es : List Entry) (x n : ℕ) → length (slot_bits es x n) ≡ n
bits_long es x zero = refl
bits_long es x (suc n) = ap suc (bits_long es (suc x) n)

-- registers 0 to 12 are in the map of an entry
entry_bit : (i : ℕ) → i ≤ 12 → is_bit_set entry_bits i ≡ true
entry_bit zero le = refl
entry_bit (suc zero) le = refl
entry_bit (suc (suc zero)) le = refl
entry_bit (suc (suc (suc zero))) le = refl
entry_bit (suc (suc (suc (suc zero)))) le = refl
entry_bit (suc (suc (suc (suc (suc zero))))) le = refl
entry_bit (suc (suc (suc (suc (suc (suc zero)))))) le = refl
entry_bit (suc (suc (suc (suc (suc (suc (suc zero))))))) le = refl
entry_bit (suc (suc (suc (suc (suc (suc (suc (suc zero)))))))) le = refl
entry_bit (suc (suc (suc (suc (suc (suc (suc (suc (suc zero))))))))) le = refl
entry_bit (suc (suc (suc (suc (suc (suc (suc (suc (suc (suc zero)))))))))) le = refl
entry_bit (suc (suc (suc (suc (suc (suc (suc (suc (suc (suc (suc zero))))))))))) le = refl
entry_bit (suc (suc (suc (suc (suc (suc (suc (suc (suc (suc (suc (suc zero)))))))))))) le = refl
entry_bit (suc (suc (suc (suc (suc (suc (suc (suc (suc (suc (suc (suc (suc i))))))))))))) le = absurd (omega arith)

module _ (p : AnfTree) (notes : List Note) (c : Assembled) (fo : Follows p notes c) where
  slots_there : (e : ℕ) (n : Note) → HasNote p notes e n → slots_of (map_at c e) ≡ slots_of (Some (note_map n))
  slots_there e n h = ap slots_of (fo.maps e n h)

  back_stays : (map : List Entry) (slots slots2 : List Word) → AgreeBack map slots slots2 → AgreeBack map slots (scrub_slots (slot_bits map 0 (length slots2)) slots2)
  back_stays map slots slots2 b = record {
    back = λ q s i. ⊎_elim inl
        (λ k.
        let j : IsIn (Stands (Slot k.0) s) map = subst (λ q. IsIn (Stands q s) map) k.1 i in
        inr (k.0, k.1, k.2 ∙ sym (slot_keeps map slots2 k.0 (any_slot map k.0 s j))))
        (b.back q s i);
  }

  -- frames that wait
  pub waits_cleaned : (fs gs : List MacFrame) → Waits p notes fs gs → (are_waiting c gs ≡ true) × Waits p notes fs (scrub_waiting c gs)
  waits_cleaned fs gs w_none = (refl, w_none)
  waits_cleaned fs gs (w_more {e = e} {size = size} {map = map} {slots = slots} {slots2 = slots2} n l l2 b w) =
      let t = waits_cleaned _ _ w in
      let m : slots_of (map_at c e) ≡ Some (slot_bits map 0 (length slots2)) = slots_there e _ n ∙ ap (λ k. Some (slot_bits map 0 k)) (sym l2) in
      let q = eq-eqb (length (slot_bits map 0 (length slots2))) (length slots2) (bits_long map 0 (length slots2)) in
      let r = t.0 in
      (rw (m, q, r) refl, rw m (w_more n l (slots_long (slot_bits map 0 (length slots2)) slots2 ∙ l2) (back_stays map slots slots2 b) t.1))

  -- the own frame as well, and the words of its slots that a map names
  pub record OwnCleaned (own : Own) (map : List Entry) (top top2 : List MacFrame) : Type 0 where
    pub walkable : is_walkable c (own_slots own map) top2 ≡ true
    pub owns : Owns p notes own top (scrub_frames c (own_slots own map) top2)
    pub stays : (i : ℕ) (s : Symbol) → IsIn (Stands (Slot i) s) map → slice_get (own_words own (scrub_frames c (own_slots own map) top2)) i ≡ slice_get (own_words own top2) i

  own_cleaned : (own : Own) (map : List Entry) (top top2 : List MacFrame) → Owns p notes own top top2 → OwnCleaned own map top top2
  own_cleaned own map top top2 (own_away w) = let t = waits_cleaned _ _ w in record { walkable = t.0; owns = own_away t.1; stays = λ i s j. refl }
  own_cleaned own map top top2 (own_here {size = size} {slots2 = slots2} l l2 w) =
      let t = waits_cleaned _ _ w in
      let b : slot_bits map 0 size ≡ slot_bits map 0 (length slots2) = ap (slot_bits map 0) (sym l2) in
      let q = eq-eqb (length (slot_bits map 0 (length slots2))) (length slots2) (bits_long map 0 (length slots2)) in
      let r = t.0 in
      record {
        walkable = rw (b, q, r) refl;
        owns = own_here l (slots_long (slot_bits map 0 size) slots2 ∙ l2) t.1;
        stays = λ i s j. rw b (slot_keeps map slots2 i (any_slot map i s j));
      }
  own_cleaned own map top top2 (own_ready {size = size} {slots2 = slots2} l l2 w) =
      let t = waits_cleaned _ _ w in
      let b : slot_bits map 0 size ≡ slot_bits map 0 (length slots2) = ap (slot_bits map 0) (sym l2) in
      let q = eq-eqb (length (slot_bits map 0 (length slots2))) (length slots2) (bits_long map 0 (length slots2)) in
      let r = t.0 in
      record {
        walkable = rw (b, q, r) refl;
        owns = own_ready l (slots_long (slot_bits map 0 size) slots2 ∙ l2) t.1;
        stays = λ i s j. rw b (slot_keeps map slots2 i (any_slot map i s j));
      }

  -- all words that are named stay
  pub record Cleaned (n : Note) (y : Pair) (top top2 : List MacFrame) : Type 0 where
    pub is : scrub c (right y top2) ≡ right (cleaned c y top2) (cleaned_frames c y top2)
    pub at : LockAt p notes n (cleaned c y top2) top (cleaned_frames c y top2)

  -- words that a map names stand somewhere
  pub record Stands' (map : List Entry) (regs slots : List Word) : Type 0 where
    pub stand : (q : Spot) (s : Symbol) → IsIn (Stands q s) map → (u : Word) × (read q regs slots ≡ Some u)

  live_register : (y : Pair) (top2 : List MacFrame) (n : Note) (a : ℕ) → HasNote p notes y.pc n → is_bit_set (note_map n).regs a ≡ true →
      (counts_now c (right y top2) ≡ false) ⊎ (is_beyond (operand_count (slice_get y.regs2 16)) a ≡ false) → is_live_register c (right y top2) a ≡ true
  live_register y top2 n a h bit (inl e) = let m = fo.maps y.pc n h in rw (m, bit, e) refl
  live_register y top2 n a h bit (inr e) = let m = fo.maps y.pc n h in rw (m, bit) (not_counted (counts_now c (right y top2)) (is_beyond (operand_count (slice_get y.regs2 16)) a) e)

  -- inside a body, and at the `proc` of a lifted lambda
  in_cleaned : (n : Note) (own : Own) (map : List Entry) (y : Pair) (top top2 : List MacFrame) → HasNote p notes y.pc n → (note_map n).regs ≡ register_bits map 17 → (note_map n).slots ≡ own_slots own map →
      counts_now c (right y top2) ≡ false → Stands' map y.regs (own_words own top) → LockIn p notes own map y top top2 →
      (scrub c (right y top2) ≡ right (cleaned c y top2) (cleaned_frames c y top2)) × LockIn p notes own map (cleaned c y top2) top (cleaned_frames c y top2)
  in_cleaned n own map y top top2 h regs slots none st l =
      let m : slots_of (map_at c y.pc) ≡ own_slots own map = slots_there y.pc n h ∙ slots in
      let o = own_cleaned own map top top2 l.owns in
      let live = is_live_register c (right y top2) in
      let w = o.walkable in
      let rl = registers_long live 0 y.regs2 in (
        rw (m, w) refl,
        record {
          gaps = l.gaps;
          long = l.long;
          long2 = rl ∙ l.long2;
          same = record { agree = λ q s i. l.same.agree q s i ∙ sym (kept q s i m o) };
          owns = subst (λ b. Owns p notes own top (scrub_frames c b top2)) (sym m) o.owns;
        },
      )
    where
      kept : (q : Spot) (s : Symbol) → IsIn (Stands q s) map → slots_of (map_at c y.pc) ≡ own_slots own map → OwnCleaned own map top top2 →
          read q (scrub_registers (is_live_register c (right y top2)) 0 y.regs2) (own_words own (cleaned_frames c y top2)) ≡ read q y.regs2 (own_words own top2)
      kept (Reg a) s i m o =
          let t = st.stand (Reg a) s i in
          let lt = get-within y.regs a t.0 t.1 in
          let len = l.long in
          let few : a < 17 = omega arith in
          let bit : is_bit_set (note_map n).regs a ≡ true = ap (λ b. is_bit_set b a) regs ∙ digit map 17 a few ∙ any_register map a s i in
          let z : a ≡ 0 + a = omega arith in
          register_stays (is_live_register c (right y top2)) 0 y.regs2 a (subst (λ k. is_live_register c (right y top2) k ≡ true) z (live_register y top2 n a h bit (inl none)))
      kept (Slot a) s i m o = subst (λ b. slice_get (own_words own (scrub_frames c b top2)) a ≡ slice_get (own_words own top2) a) (sym m) (o.stays a s i)

  -- at an entry through a procedure
  entry_cleaned : (n : Note) (y : Pair) (top top2 : List MacFrame) → HasNote p notes y.pc n → (note_map n).regs ≡ entry_bits → (note_map n).slots ≡ None → LockEntry p notes y top top2 →
      (scrub c (right y top2) ≡ right (cleaned c y top2) (cleaned_frames c y top2)) × LockEntry p notes (cleaned c y top2) top (cleaned_frames c y top2)
  entry_cleaned n y top top2 h regs slots l =
      let m : slots_of (map_at c y.pc) ≡ None = slots_there y.pc n h ∙ slots in
      let t = waits_cleaned top top2 l.waits in
      let w = t.0 in
      let rl = registers_long (is_live_register c (right y top2)) 0 y.regs2 in
      let number = stays_at 16 (ap (λ b. is_bit_set b 16) regs) refl in (
        rw (m, w) refl,
        record {
          gaps = l.gaps;
          long = l.long;
          long2 = rl ∙ l.long2;
          count = l.count;
          number = l.number;
          number2 = number ∙ l.number2;
          few = l.few;
          same = λ i le. let few : i ≤ 12 = (let f = l.few in omega arith) in l.same i le ∙ sym (stays_at i (ap (λ b. is_bit_set b i) regs ∙ entry_bit i few) (beyond_not l.count i le));
          waits = subst (λ b. Waits p notes top (scrub_frames c b top2)) (sym m) t.1;
        },
      )
    where
      stays_at : (i : ℕ) → is_bit_set (note_map n).regs i ≡ true → is_beyond l.count i ≡ false →
          slice_get (scrub_registers (is_live_register c (right y top2)) 0 y.regs2) i ≡ slice_get y.regs2 i
      stays_at i bit e =
          let k : is_beyond (operand_count (slice_get y.regs2 16)) i ≡ false = ap (λ o. is_beyond (operand_count o) i) l.number2 ∙ e in
          let z : i ≡ 0 + i = omega arith in
          register_stays (is_live_register c (right y top2)) 0 y.regs2 i (subst (λ k. is_live_register c (right y top2) k ≡ true) z (live_register y top2 n i h bit (inr k)))

  not_there : (pc : ℕ) (i : Instr) → slice_get c.code pc ≡ Some i → is_counted c.parts.lambdas i ≡ false → (m : Framed) → m.pc ≡ pc → counts_now c m ≡ false
  not_there pc i e k m q = rw (q, e, k) refl

  lifted_uncounted : (i : Instr) (pc m : ℕ) (pl : Option Place) (map : List Entry) (o : Option Note) → Ok p (HasNote p notes) (Further p notes pc) i pl (AtLifted m map) o →
      is_counted c.parts.lambdas i ≡ false
  lifted_uncounted i pc m pl map o (ok_lifted k q se lf st n) = let e = fo.lambdas k q lf.there in let k = lf.lifted in rw (e, k) refl

  -- what has to stand somewhere
  abbrev pub Standing : Note → Pair → List MacFrame → Type 0
  Standing (Inside pt own map) y top = Stands' map y.regs (own_words own top)
  Standing (AtProc m) y top = Unit {0}
  Standing (AtArgs m) y top = Unit {0}
  Standing (AtLifted m map) y top = Stands' map y.regs []

  pub clean_lock : (n : Note) (y : Pair) (top top2 : List MacFrame) → HasNote p notes y.pc n → Standing n y top → LockAt p notes n y top top2 → Cleaned n y top top2
  clean_lock (Inside pt own map) y top top2 h st l =
      let k = fo.each y.pc _ h in
      let t = in_cleaned (Inside pt own map) own map y top top2 h refl refl
      (not_there y.pc k.0 k.1 (uncounted p (HasNote p notes) (Further p notes y.pc) c.parts.lambdas k.0 _ pt own map k.2.0 k.2.1) (right y top2) refl) st l in
      record { is = t.0; at = t.1 }
  clean_lock (AtProc m) y top top2 h st l = let t = entry_cleaned (AtProc m) y top top2 h refl refl l in record { is = t.0; at = t.1 }
  clean_lock (AtArgs m) y top top2 h st l = let t = entry_cleaned (AtArgs m) y top top2 h refl refl l in record { is = t.0; at = t.1 }
  clean_lock (AtLifted m map) y top top2 h st l =
      let k = fo.each y.pc _ h in
      let t = in_cleaned (AtLifted m map) Away map y top top2 h refl refl
      (not_there y.pc k.0 k.1 (lifted_uncounted k.0 y.pc m _ map k.2.0 k.2.1) (right y top2) refl) st l in
      record { is = t.0; at = t.1 }
