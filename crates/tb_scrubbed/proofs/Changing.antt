-- What an instruction leaves in both states alike: a register or a slot is written, or names alone change.
use Rattle.std.proofs.Common.{◌≡◌, refl, sym, ◌∙◌, subst, ap, ℕ, zero, suc, ◌+◌, ◌-◌, ◌<◌, ◌≤◌, ◌⊎◌, Bool, true, false, cond, inl, inr, ⊎_elim, arith, List, [], ◌∷◌, ◌++◌, length, Option, Some, None, slice_get, slice_set, length-set, lt-ltb, le-ltb}
use Rattle.std.specs.Prelude.{nat_lt}
use Rattle.std.proofs.lemmas.Bool.{cases_lt}
use Rattle.tb_prim.specs.declared.event.Cause.{Cause}
use Rattle.tb_prim.specs.declared.event.Stop.{Stop}
use Rattle.tb_prim.specs.declared.event.Taken.{Taken}
use Rattle.tb_semantics.specs.Graph.{IsIn}
use Rattle.tb_semantics.proofs.ListLemmas.{set-other}
use Rattle.tb_ir.specs.AnfTree.{AnfTree, Block}
use Rattle.tb_mac.specs.declared.word.Word.{Word}
use Rattle.tb_mac.specs.Assembled.{Assembled}
use Rattle.tb_mac.specs.Effects.{Effect, Gives, Makes, Changes, Puts, Takes, Peeks, Fails, NoNextStep}
use Rattle.tb_mac.specs.Frames.{Frame as MacFrame, Framed, FramedOutcome, Continues, Ends, carries_out, fails, halts, requests}
use Rattle.tb_mac.specs.MacStep.{place_of}
use Rattle.tb_mac.specs.Objects.{pair_tag}
use Rattle.tb_mac.specs.Words.{on_some, unspecified}
use Rattle.tb_codegen.specs.Notes.{Spot, Reg, Slot, Symbol, Entry, Stands, Own, Away, Here, Ready, Note, Point, Inside, AtProc, AtArgs, AtLifted, Waiting}
use Rattle.tb_codegen.proofs.Changes.{From, Into}
use Rattle.tb_codegen.proofs.Envs.{get-set}
use Rattle.tb_codegen.proofs.Ok.{HasNote}
use Rattle.tb_codegen.proofs.Rel.{read}
use Rattle.tb_scrubbed.proofs.Alike.{Agree, Both, b_asks, b_asks_ahead, b_continues, b_ends, b_shows, frame, given, left, Lock, LockAt, LockIn, Owns, own_here, own_words, Pair, right, Waits}

read_other : (q : Spot) (regs slots : List Word) (d : ℕ) (u : Word) → (Reg d ≡ q → ⊥) → read q (slice_set regs d u) slots ≡ read q regs slots
read_other (Reg a) regs slots d u ne = set-other regs d a u (λ e. ne (ap Reg e))
read_other (Slot i) regs slots d u ne = refl

read_slot : (q : Spot) (regs slots : List Word) (d : ℕ) (u : Word) → (Slot d ≡ q → ⊥) → read q regs (slice_set slots d u) ≡ read q regs slots
read_slot (Reg a) regs slots d u ne = refl
read_slot (Slot i) regs slots d u ne = set-other slots d i u (λ e. ne (ap Slot e))

pub agree_into : (d : ℕ) (V : Symbol → Type 0) (C : Symbol → Symbol → Type 0) (new old : List Entry) (regs slots regs2 slots2 : List Word) (u : Word) → d < length regs → d < length regs2 →
    Into (Reg d) V C new old → Agree old regs slots regs2 slots2 → Agree new (slice_set regs d u) slots (slice_set regs2 d u) slots2
agree_into d V C new old regs slots regs2 slots2 u lt lt2 n a = record {
  agree = λ q s i. ⊎_elim
      (λ k. subst (λ q. read q (slice_set regs d u) slots ≡ read q (slice_set regs2 d u) slots2) (sym k.0) (get-set regs d u lt ∙ sym (get-set regs2 d u lt2)))
      (λ k. read_other q regs slots d u k.0 ∙ a.agree q k.1.0 k.1.1 ∙ sym (read_other q regs2 slots2 d u k.0))
      (n.into q s i);
}

pub agree_slot : (d : ℕ) (V : Symbol → Type 0) (C : Symbol → Symbol → Type 0) (new old : List Entry) (regs slots regs2 slots2 : List Word) (u : Word) → d < length slots → d < length slots2 →
    Into (Slot d) V C new old → Agree old regs slots regs2 slots2 → Agree new regs (slice_set slots d u) regs2 (slice_set slots2 d u)
agree_slot d V C new old regs slots regs2 slots2 u lt lt2 n a = record {
  agree = λ q s i. ⊎_elim
      (λ k. subst (λ q. read q regs (slice_set slots d u) ≡ read q regs2 (slice_set slots2 d u)) (sym k.0) (get-set slots d u lt ∙ sym (get-set slots2 d u lt2)))
      (λ k. read_slot q regs slots d u k.0 ∙ a.agree q k.1.0 k.1.1 ∙ sym (read_slot q regs2 slots2 d u k.0))
      (n.into q s i);
}

pub agree_from : (C : Symbol → Symbol → Type 0) (new old : List Entry) (regs slots regs2 slots2 : List Word) → From C new old → Agree old regs slots regs2 slots2 → Agree new regs slots regs2 slots2
agree_from C new old regs slots regs2 slots2 n a = record { agree = λ q s i. let k = n.from q s i in a.agree q k.0 k.1 }

module _ (p : AnfTree) (notes : List Note) where
  -- a register is written
  pub lock_into : (own : Own) (old new : List Entry) (V : Symbol → Type 0) (C : Symbol → Symbol → Type 0) (x : Pair) (top top2 : List MacFrame) (d : ℕ) (u : Word) → d < 17 → Into (Reg d) V C new old →
      LockIn p notes own old x top top2 → (heap gap gap2 : List Word) (ahead : Option Taken) → length gap ≡ length gap2 →
      LockIn p notes own new (record x { pc = x.pc + 1; regs = slice_set x.regs d u; regs2 = slice_set x.regs2 d u; heap = heap; gap = gap; gap2 = gap2; ahead = ahead }) top top2
  lock_into own old new V C x top top2 d u lt n l heap gap gap2 ahead e =
      let a = l.long in let b = l.long2 in
      record {
        gaps = e;
        long = length-set x.regs d u ∙ l.long;
        long2 = length-set x.regs2 d u ∙ l.long2;
        same = agree_into d V C new old x.regs (own_words own top) x.regs2 (own_words own top2) u (omega arith) (omega arith) n l.same;
        owns = l.owns;
      }

  -- names change, at any instruction and with any heap
  pub lock_from : (own : Own) (old new : List Entry) (C : Symbol → Symbol → Type 0) (x : Pair) (top top2 : List MacFrame) → From C new old →
      LockIn p notes own old x top top2 → (pc : ℕ) (heap : List Word) → LockIn p notes own new (record x { pc = pc; heap = heap }) top top2
  lock_from own old new C x top top2 n l pc heap = record {
    gaps = l.gaps;
    long = l.long;
    long2 = l.long2;
    same = agree_from C new old x.regs (own_words own top) x.regs2 (own_words own top2) n l.same;
    owns = l.owns;
  }

  -- a slot of the own frame is written
  pub lock_slot : (size : ℕ) (old new : List Entry) (V : Symbol → Type 0) (C : Symbol → Symbol → Type 0) (x : Pair) (w : Word) (slots slots2 : List Word) (fs gs : List MacFrame) (d : ℕ) (u : Word) → d < size →
      length slots ≡ size → length slots2 ≡ size → Waits p notes fs gs → Into (Slot d) V C new old →
      LockIn p notes (Here size) old x (frame w slots ∷ fs) (frame w slots2 ∷ gs) →
      LockIn p notes (Here size) new (record x { pc = x.pc + 1 }) (frame w (slice_set slots d u) ∷ fs) (frame w (slice_set slots2 d u) ∷ gs)
  lock_slot size old new V C x w slots slots2 fs gs d u lt e e2 ws n l = record {
    gaps = l.gaps;
    long = l.long;
    long2 = l.long2;
    same = agree_slot d V C new old x.regs slots x.regs2 slots2 u (omega arith) (omega arith) n l.same;
    owns = own_here (length-set slots d u ∙ e) (length-set slots2 d u ∙ e2) ws;
  }

  -- a request for words
  pub requested : (y x z : Pair) (top top2 fs gs hs ks : List MacFrame) (need : ℕ) → length x.gap ≡ length x.gap2 → (need ≤ length x.gap → Lock p notes z hs ks) →
      Both p notes y top top2 (requests need (left x fs) (left z hs)) (requests need (right x gs) (right z ks))
  requested y x z top top2 fs gs hs ks need e l =
      ⊎_elim
      (λ less.
      let a = lt-ltb (length x.gap) need less in
      let less2 : length x.gap2 < need = subst (λ n. n < need) e less in
      let b = lt-ltb (length x.gap2) need less2 in
      rw (a, b, e) (b_ends (Stop.Full (length x.heap) (length x.heap + length x.gap2) need)))
      (λ ge.
      let a = le-ltb (length x.gap) need ge in
      let ge2 : need ≤ length x.gap2 = subst (λ n. need ≤ n) e ge in
      let b = le-ltb (length x.gap2) need ge2 in
      rw (a, b) (b_continues z (l ge)))
      (cases_lt (length x.gap) need)

  module _ (c : Assembled) where
    -- a failure has its place, or there is no next step
    pub failed : (y x : Pair) (top top2 fs gs : List MacFrame) (cause : Cause) → Both p notes y top top2 (fails c (left x fs) cause) (fails c (right x gs) cause)
    failed y x top top2 fs gs cause =
        elim (place_of c.places x.pc) as (λ o. Both p notes y top top2 (on_some o (Ends (Stop.Stuck x.pc)) (λ q. Ends (Stop.Fail cause q))) (on_some o (Ends (Stop.Stuck x.pc)) (λ q. Ends (Stop.Fail cause q)))) [
          | None ↦ b_ends (Stop.Stuck x.pc)
          | (Some q) ↦ b_ends (Stop.Fail cause q)
        ]

  -- both go by the same word, or have no next step
  pub either : {A : Type 0} (y : Pair) (top top2 : List MacFrame) (o : Option A) (s : Stop) (f g : A → FramedOutcome) → ((a : A) → o ≡ Some a → Both p notes y top top2 (f a) (g a)) →
      Both p notes y top top2 (on_some o (Ends s) f) (on_some o (Ends s) g)
  either y top top2 None s f g h = b_ends s
  either y top top2 (Some a) s f g h = h a refl

  pub both_ways : (y : Pair) (top top2 : List MacFrame) (b : Bool) (f g f2 g2 : FramedOutcome) → Both p notes y top top2 f f2 → Both p notes y top top2 g g2 →
      Both p notes y top top2 (cond b f g) (cond b f2 g2)
  both_ways y top top2 true f g f2 g2 h k = h
  both_ways y top top2 false f g f2 g2 h k = k
