-- One step inside a body: it reads no mark, and comes to the same in both states.
use Rattle.std.proofs.Common.{◌≡◌, refl, sym, ◌∙◌, subst, ap, ℕ, zero, suc, ◌+◌, ◌-◌, ◌<◌, ◌≤◌, ◌⊎◌, ◌==◌, Bool, true, false, cond, inl, inr, ⊎_elim, arith, List, [], ◌∷◌, ◌++◌, length, Option, Some, None, slice_get, slice_set, length-set, length-drop, eq-eqb, lt-ltb}
use Rattle.std.specs.Prelude.{pos, take, drop}
use Rattle.std.proofs.lemmas.List.{length-append}
use Rattle.tb_prim.specs.declared.constant.Const.{Const}
use Rattle.tb_prim.specs.declared.event.Cause.{Cause}
use Rattle.tb_prim.specs.declared.event.Event.{Event}
use Rattle.tb_prim.specs.declared.event.Stop.{Stop}
use Rattle.tb_prim.specs.declared.event.Taken.{Taken}
use Rattle.tb_prim.specs.declared.place.Place.{Place}
use Rattle.tb_semantics.specs.Graph.{IsIn}
use Rattle.tb_ir.specs.AnfTree.{AnfTree, Operand, Block, Op}
use Rattle.tb_mac.specs.declared.code.Instr.{Instr}
use Rattle.tb_mac.specs.declared.code.Instr.TheVariants as I
use Rattle.tb_mac.specs.declared.word.Word.{Word}
use Rattle.tb_mac.specs.declared.word.Word.TheVariants as W
use Rattle.tb_mac.specs.Assembled.{Assembled}
use Rattle.tb_mac.specs.Effects.{Effect, Gives, Makes, Changes, Puts, Takes, Peeks, Fails, NoNextStep}
use Rattle.tb_mac.specs.Frames.{Frame as MacFrame, Framed, FramedOutcome, Continues, Ends, carries_out, framed_perform, gets}
use Rattle.tb_mac.specs.MacStep.{place_of}
use Rattle.tb_mac.specs.Scrubbed.{any_poison, is_poison, reads}
use Rattle.tb_mac.specs.Words.{imm_word, is_undefined, unspecified}
use Rattle.tb_codegen.specs.Notes.{Spot, Reg, Slot, Symbol, Entry, Stands, Own, Away, Here, Ready, Note, Point, Inside, AtBlock, AtValue, AtUnspecified, Waiting, symbol_of}
use Rattle.tb_codegen.specs.Operations.{constant, operands, place}
use Rattle.tb_codegen.proofs.Changes.{Args, no_args, an_arg, From, Into, NoSlots}
use Rattle.tb_codegen.proofs.Ok.{Acts, a_quote, a_global, a_use0, a_use1, a_use2, a_use3, a_cell, a_get, HasNote, Onward, not_yet, all_done, Writes, w_set, w_define, w_cell}
use Rattle.tb_codegen.proofs.Rel.{read}
use Rattle.tb_scrubbed.proofs.Alike.{Agree, Both, b_asks, b_asks_ahead, b_continues, b_ends, b_shows, frame, given, left, Lock, LockAt, LockIn, Owns, own_away, own_here, own_ready, own_words, Pair, right, Waits, w_none, w_more}
use Rattle.tb_scrubbed.proofs.Changing.{both_ways, either, failed, lock_from, lock_into, lock_slot, requested}
use Rattle.tb_scrubbed.proofs.Facts.{Good, Sees}

module _ (p : AnfTree) (notes : List Note) (c : Assembled) where
  -- the second state scrubbed
  abbrev pub after_scrub : Pair → List Word → Pair
  after_scrub y regs3 = record y { regs2 = regs3 }

  -- both pairs hold the same at a map, and what it names stands there
  pub record Inside2 (own : Own) (old : List Entry) (y : Pair) (regs3 : List Word) (top top2 top3 : List MacFrame) : Type 0 where
    pub before : LockIn p notes own old y top top2
    pub now : LockIn p notes own old (after_scrub y regs3) top top3
    pub sees : Sees p notes old y.regs (own_words own top) y.heap

  -- no mark is read, and both do the same
  abbrev pub Steps : Pair → List Word → List MacFrame → List MacFrame → List MacFrame → Instr → Type 0
  Steps y regs3 top top2 top3 i = (any_poison (reads (right (after_scrub y regs3) top3) i) ≡ false) ×
      Both p notes y top top2 (framed_perform c (left (after_scrub y regs3) top) i) (framed_perform c (right (after_scrub y regs3) top3) i)

  -- a word that a map names, in both
  pub record Found (q : Spot) (own : Own) (y : Pair) (regs3 : List Word) (top top3 : List MacFrame) : Type 0 where
    pub word : Word
    pub one : read q y.regs (own_words own top) ≡ Some word
    pub two : read q regs3 (own_words own top3) ≡ Some word
    pub good : Good p notes y.heap word

  pub found : {own : Own} {old : List Entry} {y : Pair} {regs3 : List Word} {top top2 top3 : List MacFrame} → Inside2 own old y regs3 top top2 top3 → (q : Spot) (s : Symbol) → IsIn (Stands q s) old → Found q own y regs3 top top3
  found g q s i = let k = g.sees.sees q s i in record { word = k.0; one = k.1; two = sym (g.now.same.agree q s i) ∙ k.1; good = k.2 }

  -- a register gets a word
  pub gets_both : {own : Own} {old new : List Entry} {V : Symbol → Type 0} {C : Symbol → Symbol → Type 0} {y : Pair} {regs3 : List Word} {top top2 top3 : List MacFrame} {pt : Point} → Inside2 own old y regs3 top top2 top3 →
      (d : ℕ) (u : Word) → d < 17 → Into (Reg d) V C new old → HasNote p notes (y.pc + 1) (Inside pt own new) →
      Both p notes y top top2 (Continues (gets d u (left (after_scrub y regs3) top))) (Continues (gets d u (right (after_scrub y regs3) top3)))
  gets_both {own = own} {old = old} {new = new} {V = V} {C = C} {y = y} {regs3 = regs3} {top = top} {top3 = top3} g d u lt n note =
      let x = after_scrub y regs3 in
      b_continues (record x { pc = x.pc + 1; regs = slice_set x.regs d u; regs2 = slice_set x.regs2 d u })
      (record { note = _; there = note; at = lock_into p notes own old new V C x top top3 d u lt n g.now x.heap x.gap x.gap2 x.ahead g.now.gaps })

  -- an object is made
  pub makes_both : {own : Own} {old new : List Entry} {V : Symbol → Type 0} {C : Symbol → Symbol → Type 0} {y : Pair} {regs3 : List Word} {top top2 top3 : List MacFrame} {pt : Point} → Inside2 own old y regs3 top top2 top3 →
      (d : ℕ) (tag : ℕ) (ws : List Word) → d < 17 → Into (Reg d) V C new old → HasNote p notes (y.pc + 1) (Inside pt own new) →
      Both p notes y top top2 (carries_out c d (left (after_scrub y regs3) top) (Makes tag ws)) (carries_out c d (right (after_scrub y regs3) top3) (Makes tag ws))
  makes_both {own = own} {old = old} {new = new} {V = V} {C = C} {y = y} {regs3 = regs3} {top = top} {top2 = top2} {top3 = top3} g d tag ws lt n note =
      let x = after_scrub y regs3 in
      let u = W.Pointer tag (length x.heap) in
      let n2 = length ws in
      let e : length (drop n2 x.gap) ≡ length (drop n2 x.gap2) = length-drop n2 x.gap ∙ ap (λ k. k - n2) g.now.gaps ∙ sym (length-drop n2 x.gap2) in
      requested p notes y x (record x { pc = x.pc + 1; regs = slice_set x.regs d u; regs2 = slice_set x.regs2 d u; heap = x.heap ++ ws; gap = drop n2 x.gap; gap2 = drop n2 x.gap2 }) top top2 top top3 top top3 n2 g.now.gaps
      (λ le. record { note = _; there = note; at = lock_into p notes own old new V C x top top3 d u lt n g.now (x.heap ++ ws) (drop n2 x.gap) (drop n2 x.gap2) x.ahead e })

  -- what the input has next comes to a register of the states before
  asks_lock : {own : Own} {old new : List Entry} {V : Symbol → Type 0} {C : Symbol → Symbol → Type 0} {y : Pair} {regs3 : List Word} {top top2 top3 : List MacFrame} {pt : Point} → Inside2 own old y regs3 top top2 top3 →
      (d : ℕ) → d < 17 → Into (Reg d) V C new old → HasNote p notes (y.pc + 1) (Inside pt own new) → (u : Word) (ahead : Option Taken) → Lock p notes (given p notes d u ahead y) top top2
  asks_lock {own = own} {old = old} {new = new} {V = V} {C = C} {y = y} {top = top} {top2 = top2} g d lt n note u ahead =
      record { note = _; there = note; at = lock_into p notes own old new V C y top top2 d u lt n g.before y.heap y.gap y.gap2 ahead g.before.gaps }

  -- the effect of a primitive
  pub carried : {own : Own} {old new : List Entry} {V : Symbol → Type 0} {C : Symbol → Symbol → Type 0} {y : Pair} {regs3 : List Word} {top top2 top3 : List MacFrame} {pt : Point} → Inside2 own old y regs3 top top2 top3 →
      (d : ℕ) (eff : Effect) → d < 17 → Into (Reg d) V C new old → HasNote p notes (y.pc + 1) (Inside pt own new) →
      Both p notes y top top2 (carries_out c d (left (after_scrub y regs3) top) eff) (carries_out c d (right (after_scrub y regs3) top3) eff)
  carried g d (Gives w) lt n note = gets_both g d w lt n note
  carried g d (Makes tag ws) lt n note = makes_both g d tag ws lt n note
  carried {own = own} {old = old} {new = new} {V = V} {C = C} {y = y} {regs3 = regs3} {top = top} {top2 = top2} {top3 = top3} g d (Changes at w) lt n note =
      let x = after_scrub y regs3 in
      either p notes y top top2 (slice_get x.heap at) _ _ _
      (λ z e. b_continues (record x { pc = x.pc + 1; regs = slice_set x.regs d unspecified; regs2 = slice_set x.regs2 d unspecified; heap = slice_set x.heap at w })
      (record { note = _; there = note; at = lock_into p notes own old new V C x top top3 d unspecified lt n g.now (slice_set x.heap at w) x.gap x.gap2 x.ahead g.now.gaps }))
  carried {own = own} {old = old} {new = new} {V = V} {C = C} {y = y} {regs3 = regs3} {top = top} {top3 = top3} g d (Puts b) lt n note =
      let x = after_scrub y regs3 in
      b_shows (Event.Put b) (record x { pc = x.pc + 1; regs = slice_set x.regs d unspecified; regs2 = slice_set x.regs2 d unspecified })
      (record { note = _; there = note; at = lock_into p notes own old new V C x top top3 d unspecified lt n g.now x.heap x.gap x.gap2 x.ahead g.now.gaps })
  carried g d Takes lt n note = b_asks d (asks_lock g d lt n note)
  carried g d Peeks lt n note = b_asks_ahead d (asks_lock g d lt n note)
  carried {y = y} {regs3 = regs3} {top = top} {top2 = top2} {top3 = top3} g d (Fails cause) lt n note = failed p notes c y (after_scrub y regs3) top top2 top top3 cause
  carried {y = y} g d NoNextStep lt n note = b_ends (Stop.Stuck y.pc)
