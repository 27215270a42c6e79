-- A state of a run and one of its scrubbed run that have the same words at all spots that the note at their instruction
-- names.
use Rattle.std.proofs.Common.{◌≡◌, refl, sym, ◌∙◌, subst, ap, ℕ, suc, ◌+◌, ◌≤◌, ◌⊎◌, inl, inr, ⊎_elim, arith, List, [], ◌∷◌, length, Option, Some, None, slice_get, slice_set}
use Rattle.std.specs.Prelude.{pos}
use Rattle.tb_prim.specs.declared.event.Event.{Event}
use Rattle.tb_prim.specs.declared.event.Stop.{Stop}
use Rattle.tb_prim.specs.declared.event.Taken.{Taken}
use Rattle.tb_semantics.specs.Graph.{IsIn}
use Rattle.tb_ir.specs.AnfTree.{AnfTree}
use Rattle.tb_mac.specs.declared.word.Word.{Word}
use Rattle.tb_mac.specs.declared.word.Word.TheVariants as W
use Rattle.tb_mac.specs.Frames.{Frame as MacFrame, Framed, FramedOutcome, Continues, Shows, AsksNext, AsksAhead, Ends}
use Rattle.tb_mac.specs.FramedRuns.{FramedState, Runs, Stays, framed_after}
use Rattle.tb_codegen.specs.Notes.{Spot, Reg, Slot, Symbol, Entry, Stands, Own, Away, Here, Ready, Note, Point, Inside, AtProc, AtArgs, AtLifted}
use Rattle.tb_codegen.proofs.Ok.{HasNote}
use Rattle.tb_codegen.proofs.Rel.{read}
use Rattle.tb_scrubbed.specs.SameRun.{DoSame, StandsSame, both_run, both_stay}

-- two states that differ in registers, in the words of the gap and in slots alone, without their frames
pub record Pair : Type 0 where
  pub pc : ℕ
  pub heap : List Word
  pub ahead : Option Taken
  pub regs : List Word
  pub regs2 : List Word
  pub gap : List Word
  pub gap2 : List Word

abbrev pub left : Pair → List MacFrame → Framed
left x top = record { pc = x.pc; registers = x.regs; heap = x.heap; gap = x.gap; frames = top; ahead = x.ahead }

abbrev pub right : Pair → List MacFrame → Framed
right x top = record { pc = x.pc; registers = x.regs2; heap = x.heap; gap = x.gap2; frames = top; ahead = x.ahead }

abbrev pub frame : Word → List Word → MacFrame
frame u slots = record { back = u; slots = slots }

-- the slots of a procedure's own frame
abbrev pub top_slots : List MacFrame → List Word
top_slots [] = []
top_slots (f ∷ fs) = f.slots

abbrev pub own_words : Own → List MacFrame → List Word
own_words Away fs = []
own_words (Here size) fs = top_slots fs
own_words (Ready size l) fs = top_slots fs

-- the same words stand where a map names some
pub record Agree (map : List Entry) (regs slots regs2 slots2 : List Word) : Type 0 where
  pub agree : (q : Spot) (s : Symbol) → IsIn (Stands q s) map → read q regs slots ≡ read q regs2 slots2

-- the map at a return point names RESULT and slots
pub record AgreeBack (map : List Entry) (slots slots2 : List Word) : Type 0 where
  pub back : (q : Spot) (s : Symbol) → IsIn (Stands q s) map →
      (q ≡ Reg 16) ⊎ ((i : ℕ) × (q ≡ Slot i) × (slice_get slots i ≡ slice_get slots2 i))

module _ (p : AnfTree) (notes : List Note) where
  -- frames that wait, at the same return words
  pub data Waits : List MacFrame → List MacFrame → Type 0 where
    w_none : Waits [] []
    w_more : {e size : ℕ} {pt : Point} {map : List Entry} {slots slots2 : List Word} {fs gs : List MacFrame} →
        HasNote p notes e (Inside pt (Here size) map) → length slots ≡ size → length slots2 ≡ size → AgreeBack map slots slots2 →
        Waits fs gs → Waits (frame (W.Code e) slots ∷ fs) (frame (W.Code e) slots2 ∷ gs)

  -- the own frame, and those below
  pub data Owns : Own → List MacFrame → List MacFrame → Type 0 where
    own_away : {fs gs : List MacFrame} → Waits fs gs → Owns Away fs gs
    own_here : {u : Word} {size : ℕ} {slots slots2 : List Word} {fs gs : List MacFrame} → length slots ≡ size → length slots2 ≡ size →
        Waits fs gs → Owns (Here size) (frame u slots ∷ fs) (frame u slots2 ∷ gs)
    own_ready : {l size : ℕ} {slots slots2 : List Word} {fs gs : List MacFrame} → length slots ≡ size → length slots2 ≡ size →
        Waits fs gs → Owns (Ready size l) (frame (W.Code l) slots ∷ fs) (frame (W.Code l) slots2 ∷ gs)

  -- at a note inside a body, or at the `proc` of a lifted lambda
  pub record LockIn (own : Own) (map : List Entry) (x : Pair) (top top2 : List MacFrame) : Type 0 where
    pub gaps : length x.gap ≡ length x.gap2
    pub long : length x.regs ≡ 17
    pub long2 : length x.regs2 ≡ 17
    pub same : Agree map x.regs (own_words own top) x.regs2 (own_words own top2)
    pub owns : Owns own top top2

  -- at an entry through a procedure: as many operands as RESULT says
  pub record LockEntry (x : Pair) (top top2 : List MacFrame) : Type 0 where
    pub gaps : length x.gap ≡ length x.gap2
    pub long : length x.regs ≡ 17
    pub long2 : length x.regs2 ≡ 17
    pub count : ℕ
    pub number : slice_get x.regs 16 ≡ Some (W.Fix (pos count))
    pub number2 : slice_get x.regs2 16 ≡ Some (W.Fix (pos count))
    pub few : count ≤ 12
    pub same : (i : ℕ) → i ≤ count → slice_get x.regs i ≡ slice_get x.regs2 i
    pub waits : Waits top top2

  abbrev pub LockAt : Note → Pair → List MacFrame → List MacFrame → Type 0
  LockAt (Inside pt own map) x top top2 = LockIn own map x top top2
  LockAt (AtProc l) x top top2 = LockEntry x top top2
  LockAt (AtArgs l) x top top2 = LockEntry x top top2
  LockAt (AtLifted l map) x top top2 = LockIn Away map x top top2

  -- the two are at an instruction with a note
  pub record Lock (x : Pair) (top top2 : List MacFrame) : Type 0 where
    pub note : Note
    pub there : HasNote p notes x.pc note
    pub at : LockAt note x top top2

  pub data Locked : FramedState → FramedState → Type 0 where
    both_go : (x : Pair) {top top2 : List MacFrame} {input : List ℕ} {es : List Event} → Lock x top top2 →
        Locked (Runs (left x top) input es) (Runs (right x top2) input es)
    both_stand : (x : Pair) {top top2 : List MacFrame} {s : Stop} {input : List ℕ} {es : List Event} → Lock x top top2 →
        Locked (Stays (left x top) s input es) (Stays (right x top2) s input es)

  -- a register of both gets a word, and the next instruction follows
  abbrev pub given : ℕ → Word → Option Taken → Pair → Pair
  given a u ahead x = record x { pc = x.pc + 1; regs = slice_set x.regs a u; regs2 = slice_set x.regs2 a u; ahead = ahead }

  -- what an instruction comes to in both, where y are the states before they were scrubbed
  pub data Both (y : Pair) (top top2 : List MacFrame) : FramedOutcome → FramedOutcome → Type 0 where
    b_continues : (x : Pair) {fs gs : List MacFrame} → Lock x fs gs → Both y top top2 (Continues (left x fs)) (Continues (right x gs))
    b_shows : (e : Event) (x : Pair) {fs gs : List MacFrame} → Lock x fs gs → Both y top top2 (Shows e (left x fs)) (Shows e (right x gs))
    b_asks : (a : ℕ) → ((u : Word) (ahead : Option Taken) → Lock (given a u ahead y) top top2) → Both y top top2 (AsksNext a) (AsksNext a)
    b_asks_ahead : (a : ℕ) → ((u : Word) (ahead : Option Taken) → Lock (given a u ahead y) top top2) →
        Both y top top2 (AsksAhead a) (AsksAhead a)
    b_ends : (s : Stop) → Both y top top2 (Ends s) (Ends s)

  pub locked_after : (y : Pair) (top top2 : List MacFrame) (input : List ℕ) (es : List Event) (a b : FramedOutcome) → Lock y top top2 → Both y top top2 a b →
      Locked (framed_after (left y top) input es a) (framed_after (right y top2) input es b)
  locked_after y top top2 input es a b l (b_continues x k) = both_go x k
  locked_after y top top2 input es a b l (b_shows e x k) = both_go x k
  locked_after y top top2 input es a b l (b_asks d f) = both_go _ (f _ _)
  locked_after y top top2 input es a b l (b_asks_ahead d f) = both_go _ (f _ _)
  locked_after y top top2 input es a b l (b_ends s) = both_stand y l

  waits_alike : (fs gs : List MacFrame) → Waits fs gs → length fs ≡ length gs
  waits_alike fs gs w_none = refl
  waits_alike fs gs (w_more n l l2 b w) = ap suc (waits_alike _ _ w)

  owns_alike : (own : Own) (fs gs : List MacFrame) → Owns own fs gs → length fs ≡ length gs
  owns_alike own fs gs (own_away w) = waits_alike fs gs w
  owns_alike own fs gs (own_here l l2 w) = ap suc (waits_alike _ _ w)
  owns_alike own fs gs (own_ready l l2 w) = ap suc (waits_alike _ _ w)

  stands_at : (n : Note) (x : Pair) (top top2 : List MacFrame) → LockAt n x top top2 → StandsSame (left x top) (right x top2)
  stands_at (Inside pt own map) x top top2 l = record { pc = refl; heap = refl; room = l.gaps; frames = owns_alike own top top2 l.owns; ahead = refl }
  stands_at (AtProc m) x top top2 l = record { pc = refl; heap = refl; room = l.gaps; frames = waits_alike top top2 l.waits; ahead = refl }
  stands_at (AtArgs m) x top top2 l = record { pc = refl; heap = refl; room = l.gaps; frames = waits_alike top top2 l.waits; ahead = refl }
  stands_at (AtLifted m map) x top top2 l = record { pc = refl; heap = refl; room = l.gaps; frames = owns_alike Away top top2 l.owns; ahead = refl }

  pub do_same : (t u : FramedState) → Locked t u → DoSame t u
  do_same t u (both_go x l) = both_run (stands_at l.note x _ _ l.at)
  do_same t u (both_stand x l) = both_stay (stands_at l.note x _ _ l.at)
