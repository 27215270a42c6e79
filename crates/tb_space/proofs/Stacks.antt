-- The live slots of whole frames, read one frame after the other.
use Rattle.std.proofs.Common.{◌≡◌, ℕ, zero, suc, ◌+◌, ◌-◌, ◌<◌, ◌≤◌, Bool, cond, List, [], ◌∷◌, ◌++◌, length, drop, slice_get, Option, Some, None, refl, sym, ap, ◌∙◌, subst, arith}
use Rattle.std.proofs.lemmas.List.{drop-drop, drop_at, length-drop, length-append}
use Rattle.tb_mac.specs.declared.word.Word.{Word}
use Rattle.tb_mac.specs.Assembled.{Assembled}
use Rattle.tb_mac.specs.Frames.{Frame, flat_frames}
use Rattle.tb_mac.specs.LiveWords.{AreWaiting, HasSlots, IsWalkableBy, all_targets, chosen, live_slots, slots_at, stack_slots, waiting_slots}
use Rattle.tb_space.specs.calls.Noting.{noted_all}
use Rattle.tb_space.proofs.Notings.{all_targets-append, noted_all-append}

chosen-front : (bits : List Bool) (ws us : List Word) → length bits ≡ length ws → chosen bits (ws ++ us) ≡ chosen bits ws
chosen-front [] [] us e = refl
chosen-front [] (w ∷ ws) us e = absurd (omega arith)
chosen-front (b ∷ bits) [] us e = absurd (omega arith)
chosen-front (b ∷ bits) (w ∷ ws) us e =
    let h = chosen-front bits ws us (omega arith) in ap (λ vs. cond b (w ∷ vs) vs) h

-- what stands where a frame stands
pub record AtFrame (memory : List Word) (at : ℕ) (bits : List Bool) (f : Frame) (fs : List Frame) : Type 0 where
  pub live : chosen bits (drop (at + 2) memory) ≡ chosen bits f.slots
  pub rest : drop (at + (length bits + 2)) memory ≡ flat_frames fs
  pub fits : at + (length bits + 2) ≤ length memory

pub at-frame : (memory : List Word) (at : ℕ) (bits : List Bool) (f : Frame) (fs : List Frame) → at < length memory →
    drop at memory ≡ flat_frames (f ∷ fs) → length bits ≡ length f.slots → AtFrame memory at bits f fs
at-frame memory at bits f fs lt e size =
    let inner = f.slots ++ flat_frames fs in
    let two : drop (at + 2) memory ≡ inner = sym (drop-drop 2 at memory) ∙ ap (drop 2) e in
    let three : drop (at + 2 + length bits) memory ≡ flat_frames fs = sym (drop-drop (length bits) (at + 2) memory) ∙ ap (drop (length bits)) two ∙ drop_at f.slots (flat_frames fs) (length bits) (sym size) in
    let n : at + 2 + length bits ≡ at + (length bits + 2) = omega arith in
    let l1 : length (drop at memory) ≡ length memory - at = length-drop at memory in
    let l2 : length (drop at memory) ≡ suc (suc (length inner)) = ap length e in
    let l3 : length inner ≡ length f.slots + length (flat_frames fs) = length-append f.slots (flat_frames fs) in
    record {
      live = ap (chosen bits) two ∙ chosen-front bits f.slots (flat_frames fs) size;
      rest = ap (λ k. drop k memory) (sym n) ∙ three;
      fits = omega (arith, l1, l2, l3, size, lt);
    }

-- frames are left of which the live slots are still to be noted
pub record Waiting (c : Assembled) (memory : List Word) (limit at : ℕ) (found goal : List ℕ) : Type 0 where
  pub frames : List Frame
  pub stand : drop at memory ≡ flat_frames frames
  pub waiting : AreWaiting c frames
  pub left : noted_all limit found (all_targets (waiting_slots c frames)) ≡ goal

-- the frame at a word
pub record NextFrame (c : Assembled) (memory : List Word) (limit at : ℕ) (w : Word) (found goal : List ℕ) : Type 0 where
  pub frame : Frame
  pub frames : List Frame
  pub stand : drop at memory ≡ flat_frames (frame ∷ frames)
  pub back : w ≡ frame.back
  pub slots : HasSlots (slots_at c w) frame
  pub waiting : AreWaiting c frames
  pub left : noted_all limit found (all_targets (live_slots (slots_at c w) frame ++ waiting_slots c frames)) ≡ goal

drop_some : (memory : List Word) (at : ℕ) → at < length memory → drop at memory ≡ [] → ⊥
drop_some memory at lt e = let l : length (drop at memory) ≡ 0 = ap length e in let m = length-drop at memory in absurd (omega arith)

drop-get : (xs : List Word) (at : ℕ) (x : Word) (y : Word) (ys : List Word) → slice_get xs at ≡ Some x → drop at xs ≡ y ∷ ys → x ≡ y
drop-get [] zero x y ys e h = cc
drop-get [] (suc at) x y ys e h = cc
drop-get (z ∷ xs) zero x y ys e h = cc
drop-get (z ∷ xs) (suc at) x y ys e h = drop-get xs at x y ys e h

next_of : (c : Assembled) (memory : List Word) (limit at : ℕ) (w : Word) (found goal : List ℕ) (fs : List Frame) → at < length memory →
    slice_get memory at ≡ Some w → drop at memory ≡ flat_frames fs → AreWaiting c fs →
    noted_all limit found (all_targets (waiting_slots c fs)) ≡ goal → NextFrame c memory limit at w found goal
next_of c memory limit at w found goal [] lt r e h q = absurd (drop_some memory at lt e)
next_of c memory limit at w found goal (f ∷ fs) lt r e h q =
    let b : w ≡ f.back = drop-get memory at w f.back _ r e in
    record {
      frame = f;
      frames = fs;
      stand = e;
      back = b;
      slots = subst (λ v. HasSlots (slots_at c v) f) (sym b) h.0;
      waiting = h.1;
      left = ap (λ v. noted_all limit found (all_targets (live_slots (slots_at c v) f ++ waiting_slots c fs))) b ∙ q;
    }

pub next-frame : (c : Assembled) (memory : List Word) (limit at : ℕ) (w : Word) (found goal : List ℕ) → at < length memory →
    slice_get memory at ≡ Some w → Waiting c memory limit at found goal → NextFrame c memory limit at w found goal
next-frame c memory limit at w found goal lt r h = next_of c memory limit at w found goal h.frames lt r h.stand h.waiting h.left

pub no-slots : (c : Assembled) (memory : List Word) (limit at : ℕ) (w : Word) (found goal : List ℕ) → slots_at c w ≡ None →
    NextFrame c memory limit at w found goal → ⊥
no-slots c memory limit at w found goal e n = subst (λ o. HasSlots o n.frame) e n.slots

pub some-slots : (c : Assembled) (memory : List Word) (limit at : ℕ) (w : Word) (found goal : List ℕ) (bits : List Bool) →
    slots_at c w ≡ Some bits → (n : NextFrame c memory limit at w found goal) → length bits ≡ length n.frame.slots
some-slots c memory limit at w found goal bits e n = subst (λ o. HasSlots o n.frame) e n.slots

-- a frame was noted
pub frames-after : (c : Assembled) (limit : ℕ) (bits : List Bool) (f : Frame) (fs : List Frame) (found found' goal : List ℕ) →
    found' ≡ noted_all limit found (all_targets (chosen bits f.slots)) →
    noted_all limit found (all_targets (chosen bits f.slots ++ waiting_slots c fs)) ≡ goal →
    noted_all limit found' (all_targets (waiting_slots c fs)) ≡ goal
frames-after c limit bits f fs found found' goal q left =
    ap (λ xs. noted_all limit xs (all_targets (waiting_slots c fs))) q
    ∙ sym (noted_all-append limit found (all_targets (chosen bits f.slots)) (all_targets (waiting_slots c fs)))
    ∙ ap (noted_all limit found) (sym (all_targets-append (chosen bits f.slots) (waiting_slots c fs)))
    ∙ left

pub waiting-step : (c : Assembled) (memory : List Word) (limit at at' : ℕ) (w : Word) (found found' goal : List ℕ) (bits : List Bool) →
    slots_at c w ≡ Some bits → (n : NextFrame c memory limit at w found goal) → drop at' memory ≡ flat_frames n.frames →
    found' ≡ noted_all limit found (all_targets (chosen bits n.frame.slots)) → Waiting c memory limit at' found' goal
waiting-step c memory limit at at' w found found' goal bits e n d q = record {
  frames = n.frames;
  stand = d;
  waiting = n.waiting;
  left = frames-after c limit bits n.frame n.frames found found' goal q
      (ap (λ o. noted_all limit found (all_targets (live_slots o n.frame ++ waiting_slots c n.frames))) (sym e) ∙ n.left);
}

no_frames : (memory : List Word) (at : ℕ) (fs : List Frame) → length memory ≤ at → drop at memory ≡ flat_frames fs → fs ≡ []
no_frames memory at [] le e = refl
no_frames memory at (f ∷ fs) le e =
    let l : length (drop at memory) ≡ suc (suc (length (f.slots ++ flat_frames fs))) = ap length e in
    let m = length-drop at memory in absurd (omega arith)

pub waiting-end : (c : Assembled) (memory : List Word) (limit at : ℕ) (found goal : List ℕ) → length memory ≤ at →
    Waiting c memory limit at found goal → found ≡ goal
waiting-end c memory limit at found goal le w =
    sym (ap (λ fs. noted_all limit found (all_targets (waiting_slots c fs))) (no_frames memory at w.frames le w.stand)) ∙ w.left

-- the frame on top of a stack, where it has the slots of the map
pub record TopFrame (c : Assembled) (o : Option (List Bool)) (bits : List Bool) (fs : List Frame) : Type 0 where
  pub frame : Frame
  pub frames : List Frame
  pub is : fs ≡ frame ∷ frames
  pub size : length bits ≡ length frame.slots
  pub waiting : AreWaiting c frames
  pub slots : stack_slots c o fs ≡ chosen bits frame.slots ++ waiting_slots c frames

top_by : (c : Assembled) (bits : List Bool) (fs : List Frame) → IsWalkableBy c (Some bits) fs → TopFrame c (Some bits) bits fs
top_by c bits [] h = absurd h
top_by c bits (f ∷ fs) h = record { frame = f; frames = fs; is = refl; size = h.0; waiting = h.1; slots = refl }

pub top-frame : (c : Assembled) (o : Option (List Bool)) (bits : List Bool) (fs : List Frame) → o ≡ Some bits → IsWalkableBy c o fs →
    TopFrame c o bits fs
top-frame c o bits fs e h =
    subst (λ v. TopFrame c v bits fs) (sym e) (top_by c bits fs (subst (λ v. IsWalkableBy c v fs) e h))

pub stack-noted : (c : Assembled) (limit : ℕ) (o : Option (List Bool)) (bits : List Bool) (fs : List Frame) (found found' found'' : List ℕ) →
    (t : TopFrame c o bits fs) → found' ≡ noted_all limit found (all_targets (chosen bits t.frame.slots)) →
    found'' ≡ noted_all limit found' (all_targets (waiting_slots c t.frames)) →
    found'' ≡ noted_all limit found (all_targets (stack_slots c o fs))
stack-noted c limit o bits fs found found' found'' t p q =
    q ∙ frames-after c limit bits t.frame t.frames found found' _ p refl
    ∙ ap (λ ws. noted_all limit found (all_targets ws)) (sym t.slots)
