-- A step of the framed machine is the step of the flat one.
use Rattle.std.proofs.Common.{◌≡◌, ℕ, zero, suc, ◌+◌, ◌-◌, ◌≤◌, ◌<◌, ◌==◌, Bool, true, false, cond, nat_lt, nat_le, List, [], ◌∷◌, ◌++◌, length, take, drop, Option, Some, None, slice_get, slice_set, refl, sym, ap, ◌∙◌, subst, arith, append_assoc, append-nil}
use Rattle.std.specs.Prelude.{ℤ, pos, negsuc}
use Rattle.std.proofs.Math.Path.{fun_ext}
use Rattle.std.proofs.lemmas.Bool.Decides.{nat_tests}
use Rattle.std.proofs.lemmas.List.{length-append, length-drop, length-take, length-set, set-append_left, set-append_right}
use Rattle.std.proofs.lemmas.Option.{slice_get_within}
use Rattle.tb_prim.specs.declared.event.Cause.{Cause}
use Rattle.tb_prim.specs.declared.event.Event.{Event}
use Rattle.tb_prim.specs.declared.event.Stop.{Stop}
use Rattle.tb_prim.specs.declared.event.Taken.{Taken}
use Rattle.tb_prim.specs.Primitives.{primitive_at}
use Rattle.tb_mac.specs.declared.word.Word.{Word}
use Rattle.tb_mac.specs.declared.word.Placed.{Placed}
use Rattle.tb_mac.specs.declared.word.Word.TheVariants.{Fix, Special, Char, Header, Pointer, Code, Raw}
use Rattle.tb_mac.specs.declared.code.Instr.{Instr}
use Rattle.tb_mac.specs.declared.code.Instr.TheVariants.{Proc, Args, ArgsGe, Save, SetRtn, Load, Store, Pop, Return, Invoke, Jump, Brf, Imm, Stat, Move, GlobalGet, GlobalSet, GlobalDef, Cell, CellGet, CellSet, Clo, Capt, CaptSet, Apply, End, Op0, Op1, Op2, Op3}
use Rattle.tb_mac.specs.Assembled.{Assembled}
use Rattle.tb_mac.specs.Words.{on_some, zero_word}
use Rattle.tb_mac.specs.Objects.{cell_words, new_procedure}
use Rattle.tb_mac.specs.Effects.{Effect, Gives, Makes, Changes, Puts, Takes, Peeks, Fails, NoNextStep, Heap, object_at, procedure_at, numbered, effect_1, effect_2, effect_3}
use Rattle.tb_mac.specs.MacStep.{Mac, Outcome, Goes, Emits, TakesTo, PeeksTo, Stops, Walked, Elements, NoList, NoWord, stuck, fail, request, allocate, make, heap_of, put_words, captured_at, place_in, walk_list, carry_out, enter, apply_to, rest_args, on_fixnum, top_size, size_in, slot_at, save, set_return, load, store, pop, return, set_word, perform, fetched}
use Rattle.tb_mac.specs.Frames.{Frame, Framed, FramedOutcome, Continues, Shows, AsksNext, AsksAhead, Ends, flat, flat_frames, flat_outcome, halts, fails, requests, allots, makes, saves, words_of, holds_word, sets_return, loads, stores, pops, returns_to, enters, applies_to, rest_number, of_number, carries_out, framed_perform, framed_fetched}

-- a framed outcome is this one of the flat machine
pub record IsFlat (o : FramedOutcome) (p : Outcome) : Type 0 where
  pub is : flat_outcome o ≡ p

-- the words of the heap
get_left : (xs ys : List Word) (at : ℕ) → cond (nat_lt at (length xs)) (slice_get (xs ++ ys) at) None ≡ slice_get xs at
get_left [] ys at = grind (arith, nat_tests)
get_left (x ∷ xs) ys zero = grind (arith, nat_tests)
get_left (x ∷ xs) ys (suc at) =
    let e : nat_lt (suc at) (suc (length xs)) ≡ nat_lt at (length xs) = grind (arith, nat_tests) in
    ap (λ (b : Bool). cond b (slice_get (xs ++ ys) at) None) e ∙ get_left xs ys at

pub heap_at : (m : Framed) (at : ℕ) → heap_of (flat m) at ≡ words_of m at
heap_at m at = get_left m.heap (m.gap ++ flat_frames m.frames) at

pub heap_is : (m : Framed) → heap_of (flat m) ≡ words_of m
heap_is m = fun_ext (heap_at m)

mac_is : (pc : ℕ) (registers : List Word) (ahead : Option Taken) (memory memory' : List Word) (hp hp' sp sp' : ℕ) → memory ≡ memory' → hp ≡ hp' → sp ≡ sp'
    → (let m : Mac = record { pc = pc; registers = registers; memory = memory; heap_pointer = hp; stack_pointer = sp; ahead = ahead } in
    let m' : Mac = record { pc = pc; registers = registers; memory = memory'; heap_pointer = hp'; stack_pointer = sp'; ahead = ahead } in m ≡ m')
mac_is pc registers ahead memory memory' hp hp' sp sp' e f g = cc (e, f, g)

continues : (m : Framed) (m' : Mac) → flat m ≡ m' → IsFlat (Continues m) (Goes m')
continues m m' e = record { is = ap Goes e }

shows : (e : Event) (m : Framed) (m' : Mac) → flat m ≡ m' → IsFlat (Shows e m) (Emits e m')
shows e m m' h = record { is = ap (Emits e) h }

asks_next : (a : ℕ) → IsFlat (AsksNext a) (TakesTo a)
asks_next a = record { is = refl }

asks_ahead : (a : ℕ) → IsFlat (AsksAhead a) (PeeksTo a)
asks_ahead a = record { is = refl }

ends : (s : Stop) → IsFlat (Ends s) (Stops s)
ends s = record { is = refl }

same_some : {A : Type 0} (o : Option A) (e : FramedOutcome) (e' : Outcome) (k : A → FramedOutcome) (k' : A → Outcome) → IsFlat e e' → ((a : A) → IsFlat (k a) (k' a)) → IsFlat (on_some o e k) (on_some o e' k')
same_some None e e' k k' p h = p
same_some (Some a) e e' k k' p h = h a

same_cond : (b : Bool) (s t : FramedOutcome) (s' t' : Outcome) → IsFlat s s' → IsFlat t t' → IsFlat (cond b s t) (cond b s' t')
same_cond true s t s' t' p q = p
same_cond false s t s' t' p q = q

-- a word of the heap
word_by : (m : Framed) (o o' : Option Word) (k : Word → FramedOutcome) (k' : Word → Outcome) → o' ≡ o → ((w : Word) → o ≡ Some w → IsFlat (k w) (k' w)) → IsFlat (on_some o (halts m) k) (on_some o' (stuck (flat m)) k')
word_by m None o' k k' e h = subst (λ (v : Option Word). IsFlat (halts m) (on_some v (stuck (flat m)) k')) (sym e) (ends (Stop.Stuck m.pc))
word_by m (Some w) o' k k' e h = subst (λ (v : Option Word). IsFlat (k w) (on_some v (stuck (flat m)) k')) (sym e) (h w refl)

heap_word : (m : Framed) (at : ℕ) (k : Word → FramedOutcome) (k' : Word → Outcome) → ((w : Word) → words_of m at ≡ Some w → IsFlat (k w) (k' w)) → IsFlat (on_some (words_of m at) (halts m) k) (on_some (heap_of (flat m) at) (stuck (flat m)) k')
heap_word m at k k' h = word_by m (words_of m at) (heap_of (flat m) at) k k' (heap_at m at) h

-- what is found in the heap
found : {A : Type 0} (m : Framed) (f : Heap → Option A) (e : FramedOutcome) (e' : Outcome) (k : A → FramedOutcome) (k' : A → Outcome) → IsFlat e e' → ((a : A) → IsFlat (k a) (k' a)) → IsFlat (on_some (f (words_of m)) e k) (on_some (f (heap_of (flat m))) e' k')
found m f e e' k k' p h = subst (λ (x : Heap). IsFlat (on_some (f (words_of m)) e k) (on_some (f x) e' k')) (sym (heap_is m)) (same_some (f (words_of m)) e e' k k' p h)

ruleset parts = (continues, shows, asks_next, asks_ahead, ends, same_some, same_cond)

failing : (c : Assembled) (m : Framed) (cause : Cause) → IsFlat (fails c m cause) (fail c (flat m) cause)
failing c m cause = search parts

-- a word of the heap changes
set_memory : (m : Framed) (at : ℕ) (u w : Word) → words_of m at ≡ Some w → slice_set m.heap at u ++ (m.gap ++ flat_frames m.frames) ≡ slice_set (m.heap ++ (m.gap ++ flat_frames m.frames)) at u
set_memory m at u w h = sym (set-append_left m.heap (m.gap ++ flat_frames m.frames) at u (slice_get_within m.heap at w h))

flat_set : (m : Framed) (at : ℕ) (u w : Word) → words_of m at ≡ Some w → flat (holds_word at u m) ≡ set_word at u (flat m)
flat_set m at u w h =
    mac_is (m.pc + 1) m.registers m.ahead _ _ _ _ _ _ (set_memory m at u w h) (length-set m.heap at u) (ap (λ (n : ℕ). n + length m.gap) (length-set m.heap at u))

flat_change : (m : Framed) (a at : ℕ) (r u w : Word) → words_of m at ≡ Some w → flat (record m { pc = m.pc + 1; registers = slice_set m.registers a r; heap = slice_set m.heap at u }) ≡ record (flat m) { pc = m.pc + 1; registers = slice_set m.registers a r; memory = slice_set (flat m).memory at u }
flat_change m a at r u w h =
    mac_is (m.pc + 1) (slice_set m.registers a r) m.ahead _ _ _ _ _ _ (set_memory m at u w h) (length-set m.heap at u) (ap (λ (n : ℕ). n + length m.gap) (length-set m.heap at u))

-- requests for words
requesting_by : (b : Bool) (need : ℕ) (m m' : Framed) (M : Mac) → nat_lt (length m.gap) need ≡ b → (need ≤ length m.gap → flat m' ≡ M)
    → IsFlat (cond b (Ends (Stop.Full (length m.heap) (length m.heap + length m.gap) need)) (Continues m')) (cond b (Stops (Stop.Full (length m.heap) (length m.heap + length m.gap) need)) (Goes M))
requesting_by true need m m' M e h = ends (Stop.Full (length m.heap) (length m.heap + length m.gap) need)
requesting_by false need m m' M e h = continues m' M (h (grind (arith, nat_tests, e)))

requesting : (need : ℕ) (m m' : Framed) (M : Mac) → (need ≤ length m.gap → flat m' ≡ M) → IsFlat (requests need m m') (request need (flat m) M)
requesting need m m' M h =
    let e : length m.gap ≡ length m.heap + length m.gap - length m.heap = omega arith in
    subst (λ (n : ℕ). IsFlat (requests need m m') (cond (nat_lt n need) (Stops (Stop.Full (length m.heap) (length m.heap + length m.gap) need)) (Goes M))) e
    (requesting_by (nat_lt (length m.gap) need) need m m' M refl h)

set_seam : (front back : List Word) (w x : Word) → slice_set (front ++ (w ∷ back)) (length front) x ≡ front ++ (x ∷ back)
set_seam [] back w x = refl
set_seam (y ∷ front) back w x = ap (λ (ws : List Word). y ∷ ws) (set_seam front back w x)

-- words that go from the gap to the heap
put_gap : (ws heap gap stack : List Word) → length ws ≤ length gap → (heap ++ ws) ++ (drop (length ws) gap ++ stack) ≡ put_words (length heap) ws (heap ++ (gap ++ stack))
put_gap [] heap gap stack h = append_assoc heap [] (gap ++ stack)
put_gap (w ∷ ws) heap [] stack h = absurd (omega (arith, h))
put_gap (w ∷ ws) heap (g ∷ gap) stack h =
    let a : (heap ++ (w ∷ ws)) ++ (drop (length ws) gap ++ stack) ≡ ((heap ++ w ∷ []) ++ ws) ++ (drop (length ws) gap ++ stack) =
    ap (λ (x : List Word). x ++ (drop (length ws) gap ++ stack)) (sym (append_assoc heap (w ∷ []) ws)) in
    let b : ((heap ++ w ∷ []) ++ ws) ++ (drop (length ws) gap ++ stack) ≡ put_words (length (heap ++ w ∷ [])) ws ((heap ++ w ∷ []) ++ (gap ++ stack)) = put_gap ws (heap ++ w ∷ []) gap stack (omega (arith, h)) in
    let l : length (heap ++ w ∷ []) ≡ length heap + 1 = omega (arith, length-append heap (w ∷ [])) in
    let s : (heap ++ w ∷ []) ++ (gap ++ stack) ≡ slice_set (heap ++ (g ∷ (gap ++ stack))) (length heap) w = append_assoc heap (w ∷ []) (gap ++ stack) ∙ sym (set_seam heap (gap ++ stack) g w) in
    a ∙ b ∙ ap (λ (i : ℕ). put_words i ws ((heap ++ w ∷ []) ++ (gap ++ stack))) l ∙ ap (put_words (length heap + 1) ws) s

allotting : (ws : List Word) (a : ℕ) (w : Word) (m : Framed) → IsFlat (allots ws a w m) (request (length ws) (flat m) (allocate ws a w (flat m)))
allotting ws a w m = requesting (length ws) m _ (allocate ws a w (flat m)) (λ h.
    let p : length (m.heap ++ ws) ≡ length m.heap + length ws = length-append m.heap ws in
    let q : length (drop (length ws) m.gap) ≡ length m.gap - length ws = length-drop (length ws) m.gap in
    mac_is (m.pc + 1) (slice_set m.registers a w) m.ahead _ _ _ _ _ _ (put_gap ws m.heap m.gap (flat_frames m.frames) h) p (omega (arith, h, p, q)))

making : (tag : ℕ) (ws : List Word) (a : ℕ) (m : Framed) → IsFlat (makes tag ws a m) (make tag ws a (flat m))
making tag ws a m = allotting ws a (Pointer tag (length m.heap)) m

carrying : (c : Assembled) (a : ℕ) (m : Framed) (e : Effect) → IsFlat (carries_out c a m e) (carry_out c a (flat m) e)
carrying c a m (Gives w) = search parts
carrying c a m (Makes tag ws) = making tag ws a m
carrying c a m (Changes at u) = heap_word m at _ _ (λ w h. continues _ _ (flat_change m a at (Special 3) u w h))
carrying c a m (Puts b) = search parts
carrying c a m Takes = search parts
carrying c a m Peeks = search parts
carrying c a m (Fails cause) = failing c m cause
carrying c a m NoNextStep = search parts

-- a global, a cell or a captured word changes
storing : (m : Framed) (at a : ℕ) (w : Word) → words_of m at ≡ Some w → IsFlat (on_some (slice_get m.registers a) (halts m) (λ u. Continues (holds_word at u m))) (on_some (slice_get m.registers a) (stuck (flat m)) (λ u. Goes (set_word at u (flat m))))
storing m at a w h = same_some (slice_get m.registers a) (halts m) (stuck (flat m)) _ _ (ends (Stop.Stuck m.pc)) (λ u. continues _ _ (flat_set m at u w h))

entering : (o : Placed) (m m' : Framed) → IsFlat (enters o m m') (enter o (flat m) (flat m'))
entering o m m' = found m (λ h. place_in (h (o.at + 1))) (halts m) (stuck (flat m)) _ _ (ends (Stop.Stuck m.pc)) (λ x. continues _ _ refl)

applying : (c : Assembled) (o : Placed) (m : Framed) (w : Walked) → IsFlat (applies_to c o m w) (apply_to c o (flat m) w)
applying c o m (Elements us) = entering o m (record m { registers = slice_set (put_words 1 us m.registers) 16 (Fix (pos (length us))) })
applying c o m (NoList cause) = failing c m cause
applying c o m NoWord = ends (Stop.Stuck m.pc)

resting : (c : Assembled) (a : ℕ) (n : ℤ) (m : Framed) → IsFlat (rest_number c a n m) (rest_args c a n (flat m))
resting c a (pos n) m = same_cond (nat_lt n a) _ _ _ _ (failing c m Cause.WrongArgs) (same_cond (nat_lt 12 n) _ _ _ _ (ends (Stop.Stuck m.pc)) (allotting _ (a + 1) _ m))
resting c a (negsuc n) m = failing c m Cause.WrongArgs

numbering : (m : Framed) (w : Word) (k : ℤ → FramedOutcome) (k' : ℤ → Outcome) → ((n : ℤ) → IsFlat (k n) (k' n)) → IsFlat (of_number w (halts m) k) (on_fixnum w (stuck (flat m)) k')
numbering m (Fix n) k k' h = h n
numbering m (Special n) k k' h = ends (Stop.Stuck m.pc)
numbering m (Char n) k k' h = ends (Stop.Stuck m.pc)
numbering m (Header n i) k k' h = ends (Stop.Stuck m.pc)
numbering m (Pointer n i) k k' h = ends (Stop.Stuck m.pc)
numbering m (Code n) k k' h = ends (Stop.Stuck m.pc)
numbering m (Raw n) k k' h = ends (Stop.Stuck m.pc)

-- words behind others
get_right : (xs ys : List Word) (k : ℕ) → slice_get (xs ++ ys) (length xs + k) ≡ slice_get ys k
get_right [] ys k = let e : 0 + k ≡ k = omega arith in ap (slice_get ys) e
get_right (x ∷ xs) ys k =
    let e : suc (length xs) + k ≡ suc (length xs + k) = omega arith in
    ap (slice_get (x ∷ (xs ++ ys))) e ∙ get_right xs ys k

set_right : (xs ys : List Word) (k : ℕ) (w : Word) → slice_set (xs ++ ys) (length xs + k) w ≡ xs ++ slice_set ys k w
set_right [] ys k w = let e : 0 + k ≡ k = omega arith in ap (λ (i : ℕ). slice_set ys i w) e
set_right (x ∷ xs) ys k w =
    let e : suc (length xs) + k ≡ suc (length xs + k) = omega arith in
    ap (λ (i : ℕ). slice_set (x ∷ (xs ++ ys)) i w) e ∙ ap (λ (ws : List Word). x ∷ ws) (set_right xs ys k w)

-- the words of the stack, from the stack pointer on
stack_word : (heap gap stack : List Word) (k : ℕ) → slice_get (heap ++ (gap ++ stack)) (length heap + length gap + k) ≡ slice_get stack k
stack_word heap gap stack k =
    let e : length heap + length gap + k ≡ length heap + (length gap + k) = omega arith in
    ap (slice_get (heap ++ (gap ++ stack))) e ∙ get_right heap (gap ++ stack) (length gap + k) ∙ get_right gap stack k

stack_set : (heap gap stack : List Word) (k : ℕ) (w : Word) → slice_set (heap ++ (gap ++ stack)) (length heap + length gap + k) w ≡ heap ++ (gap ++ slice_set stack k w)
stack_set heap gap stack k w =
    let e : length heap + length gap + k ≡ length heap + (length gap + k) = omega arith in
    ap (λ (i : ℕ). slice_set (heap ++ (gap ++ stack)) i w) e ∙ set_right heap (gap ++ stack) (length gap + k) w ∙ ap (λ (ws : List Word). heap ++ ws) (set_right gap stack k w)

-- the state with these frames
abbrev with_frames : Framed → List Frame → Framed
with_frames m fs = record m { frames = fs }

-- the size of the frame on top
no_frame : (m : Framed) → top_size (flat (with_frames m [])) ≡ None
no_frame m = ap (λ (o : Option Word). on_some (size_in o) None (λ n. cond (nat_le (length m.heap + length m.gap + 2 + n) (length (m.heap ++ (m.gap ++ [])))) (Some n) None)) (stack_word m.heap m.gap [] 1)

one_frame : (m : Framed) (f : Frame) (fs : List Frame) → top_size (flat (with_frames m (f ∷ fs))) ≡ Some (length f.slots)
one_frame m f fs =
    let n = length f.slots in
    let memory = m.heap ++ (m.gap ++ flat_frames (f ∷ fs)) in
    let size : slice_get memory (length m.heap + length m.gap + 1) ≡ Some (Fix (pos n)) = stack_word m.heap m.gap (flat_frames (f ∷ fs)) 1 in
    let l : length memory ≡ length m.heap + (length m.gap + (2 + (n + length (flat_frames fs)))) =
    omega (arith, length-append m.heap (m.gap ++ flat_frames (f ∷ fs)), length-append m.gap (flat_frames (f ∷ fs)), length-append f.slots (flat_frames fs)) in
    let fits : nat_le (length m.heap + length m.gap + 2 + n) (length memory) ≡ true = grind (arith, nat_tests, l) in
    ap (λ (o : Option Word). on_some (size_in o) None (λ k. cond (nat_le (length m.heap + length m.gap + 2 + k) (length memory)) (Some k) None)) size
    ∙ ap (λ (b : Bool). cond b (Some n) None) fits

-- something done with the frame on top
framing_none : (m : Framed) (k' : ℕ → Outcome) → IsFlat (halts m) (on_some (top_size (flat (with_frames m []))) (stuck (flat (with_frames m []))) k')
framing_none m k' = subst (λ (o : Option ℕ). IsFlat (halts m) (on_some o (stuck (flat (with_frames m []))) k')) (sym (no_frame m)) (ends (Stop.Stuck m.pc))

framing : (m : Framed) (f : Frame) (fs : List Frame) (o : FramedOutcome) (k' : ℕ → Outcome) → IsFlat o (k' (length f.slots)) → IsFlat o (on_some (top_size (flat (with_frames m (f ∷ fs)))) (stuck (flat (with_frames m (f ∷ fs)))) k')
framing m f fs o k' h = subst (λ (t : Option ℕ). IsFlat o (on_some t (stuck (flat (with_frames m (f ∷ fs)))) k')) (sym (one_frame m f fs)) h

returning_back : (m : Framed) (x : ℕ) (fs : List Frame) → IsFlat (sets_return x (with_frames m fs)) (set_return x (flat (with_frames m fs)))
returning_back m x [] = framing_none m (λ n. Goes (set_word (length m.heap + length m.gap) (Code x) (flat (with_frames m []))))
returning_back m x (f ∷ fs) =
    let z : length m.heap + length m.gap + 0 ≡ length m.heap + length m.gap = omega arith in
    let e : m.heap ++ (m.gap ++ flat_frames (record f { back = Code x } ∷ fs)) ≡ slice_set (m.heap ++ (m.gap ++ flat_frames (f ∷ fs))) (length m.heap + length m.gap) (Code x) =
    sym (stack_set m.heap m.gap (flat_frames (f ∷ fs)) 0 (Code x)) ∙ ap (λ (i : ℕ). slice_set (m.heap ++ (m.gap ++ flat_frames (f ∷ fs))) i (Code x)) z in
    framing m f fs _ _ (continues _ _ (mac_is (m.pc + 1) m.registers m.ahead _ _ _ _ _ _ e refl refl))

returning : (m : Framed) (fs : List Frame) → IsFlat (returns_to (with_frames m fs)) (return (flat (with_frames m fs)))
returning m [] = framing_none m (λ n. on_some (place_in (slice_get (m.heap ++ (m.gap ++ [])) (length m.heap + length m.gap))) (stuck (flat (with_frames m []))) (λ x. Emits Event.Back (record (flat (with_frames m [])) { pc = x })))
returning m (f ∷ fs) =
    let z : length m.heap + length m.gap ≡ length m.heap + length m.gap + 0 = omega arith in
    let M = flat (with_frames m (f ∷ fs)) in
    let e : slice_get M.memory M.stack_pointer ≡ Some f.back = ap (slice_get M.memory) z ∙ stack_word m.heap m.gap (flat_frames (f ∷ fs)) 0 in
    framing m f fs _ _ (subst (λ (o : Option Word). IsFlat (returns_to (with_frames m (f ∷ fs))) (on_some (place_in o) (stuck M) (λ x. Emits Event.Back (record M { pc = x })))) (sym e)
    (same_some (place_in (Some f.back)) _ _ _ _ (ends (Stop.Stuck m.pc)) (λ x. shows Event.Back _ _ refl)))

popping : (m : Framed) (x : ℕ) (fs : List Frame) → IsFlat (pops x (with_frames m fs)) (pop x (flat (with_frames m fs)))
popping m x [] = framing_none m (λ n. cond (n == x) (Goes (record (flat (with_frames m [])) { pc = m.pc + 1; stack_pointer = length m.heap + length m.gap + 2 + n })) (stuck (flat (with_frames m []))))
popping m x (f ∷ fs) =
    let n = length f.slots in
    let top = f.back ∷ Fix (pos n) ∷ f.slots in
    let e : m.heap ++ ((m.gap ++ top) ++ flat_frames fs) ≡ m.heap ++ (m.gap ++ flat_frames (f ∷ fs)) = ap (λ (ws : List Word). m.heap ++ ws) (append_assoc m.gap top (flat_frames fs)) in
    let s : length m.heap + length (m.gap ++ top) ≡ length m.heap + length m.gap + 2 + n = omega (arith, length-append m.gap top) in
    framing m f fs _ _ (same_cond (n == x) _ _ _ _ (continues _ _ (mac_is (m.pc + 1) m.registers m.ahead _ _ _ _ _ _ e refl s)) (ends (Stop.Stuck m.pc)))

-- the slot of the frame on top
slot_none : (m : Framed) (x : ℕ) (k' : ℕ → Outcome) → IsFlat (halts m) (on_some (slot_at (flat (with_frames m [])) x) (stuck (flat (with_frames m []))) k')
slot_none m x k' =
    subst (λ (o : Option ℕ). IsFlat (halts m) (on_some (on_some o None (λ n. cond (nat_lt x n) (Some (length m.heap + length m.gap + 2 + x)) None)) (stuck (flat (with_frames m []))) k')) (sym (no_frame m)) (ends (Stop.Stuck m.pc))

slot_some : (m : Framed) (f : Frame) (fs : List Frame) (x : ℕ) (o : FramedOutcome) (k' : ℕ → Outcome) → IsFlat o (on_some (cond (nat_lt x (length f.slots)) (Some (length m.heap + length m.gap + 2 + x)) None) (stuck (flat (with_frames m (f ∷ fs)))) k') → IsFlat o (on_some (slot_at (flat (with_frames m (f ∷ fs))) x) (stuck (flat (with_frames m (f ∷ fs)))) k')
slot_some m f fs x o k' h =
    subst (λ (t : Option ℕ). IsFlat o (on_some (on_some t None (λ n. cond (nat_lt x n) (Some (length m.heap + length m.gap + 2 + x)) None)) (stuck (flat (with_frames m (f ∷ fs)))) k')) (sym (one_frame m f fs)) h

slot_word : (m : Framed) (f : Frame) (fs : List Frame) (x : ℕ) → slice_get (m.heap ++ (m.gap ++ flat_frames (f ∷ fs))) (length m.heap + length m.gap + 2 + x) ≡ slice_get (f.slots ++ flat_frames fs) x
slot_word m f fs x =
    let e : length m.heap + length m.gap + 2 + x ≡ length m.heap + length m.gap + suc (suc x) = omega arith in
    ap (slice_get (m.heap ++ (m.gap ++ flat_frames (f ∷ fs)))) e ∙ stack_word m.heap m.gap (flat_frames (f ∷ fs)) (suc (suc x))

slot_set : (m : Framed) (f : Frame) (fs : List Frame) (x : ℕ) (w : Word) → slice_set (m.heap ++ (m.gap ++ flat_frames (f ∷ fs))) (length m.heap + length m.gap + 2 + x) w ≡ m.heap ++ (m.gap ++ (f.back ∷ Fix (pos (length f.slots)) ∷ slice_set (f.slots ++ flat_frames fs) x w))
slot_set m f fs x w =
    let e : length m.heap + length m.gap + 2 + x ≡ length m.heap + length m.gap + suc (suc x) = omega arith in
    ap (λ (i : ℕ). slice_set (m.heap ++ (m.gap ++ flat_frames (f ∷ fs))) i w) e ∙ stack_set m.heap m.gap (flat_frames (f ∷ fs)) (suc (suc x)) w

loading_by : (b : Bool) (m : Framed) (f : Frame) (fs : List Frame) (a x : ℕ) → nat_lt x (length f.slots) ≡ b
    → (let M = flat (with_frames m (f ∷ fs)) in
    IsFlat (loads a x (with_frames m (f ∷ fs))) (on_some (cond b (Some (length m.heap + length m.gap + 2 + x)) None) (stuck M) (λ at. on_some (slice_get M.memory at) (stuck M) (λ w. Goes (record M { pc = M.pc + 1; registers = slice_set M.registers a w })))))
loading_by true m f fs a x e =
    let here : slice_get (f.slots ++ flat_frames fs) x ≡ slice_get f.slots x =
    sym (ap (λ (b : Bool). cond b (slice_get (f.slots ++ flat_frames fs) x) None) e) ∙ get_left f.slots (flat_frames fs) x in
    word_by (with_frames m (f ∷ fs)) (slice_get f.slots x) _ _ _ (slot_word m f fs x ∙ here) (λ w h. continues _ _ refl)
loading_by false m f fs a x e =
    let none : slice_get f.slots x ≡ None = sym (get_left f.slots (flat_frames fs) x) ∙ ap (λ (b : Bool). cond b (slice_get (f.slots ++ flat_frames fs) x) None) e in
    let M = flat (with_frames m (f ∷ fs)) in
    subst (λ (o : Option Word). IsFlat (on_some o (halts (with_frames m (f ∷ fs))) (λ w. Continues (record (with_frames m (f ∷ fs)) { pc = m.pc + 1; registers = slice_set m.registers a w }))) (stuck M)) (sym none) (ends (Stop.Stuck m.pc))

loading : (m : Framed) (a x : ℕ) (fs : List Frame) → IsFlat (loads a x (with_frames m fs)) (load a x (flat (with_frames m fs)))
loading m a x [] = slot_none m x (λ at. on_some (slice_get (flat (with_frames m [])).memory at) (stuck (flat (with_frames m []))) (λ w. Goes (record (flat (with_frames m [])) { pc = m.pc + 1; registers = slice_set m.registers a w })))
loading m a x (f ∷ fs) = slot_some m f fs x _ _ (loading_by (nat_lt x (length f.slots)) m f fs a x refl)

storing_by : (b : Bool) (m : Framed) (f : Frame) (fs : List Frame) (a x : ℕ) → nat_lt x (length f.slots) ≡ b
    → (let M = flat (with_frames m (f ∷ fs)) in
    IsFlat (cond b (on_some (slice_get m.registers a) (halts m) (λ w. Continues (record m { pc = m.pc + 1; frames = record f { slots = slice_set f.slots x w } ∷ fs }))) (halts m))
    (on_some (cond b (Some (length m.heap + length m.gap + 2 + x)) None) (stuck M) (λ at. on_some (slice_get m.registers a) (stuck M) (λ w. Goes (set_word at w M)))))
storing_by true m f fs a x e =
    let lt : x < length f.slots = grind (arith, nat_tests, e) in
    same_some (slice_get m.registers a) _ _ _ _ (ends (Stop.Stuck m.pc)) (λ w.
    let l : length (slice_set f.slots x w) ≡ length f.slots = length-set f.slots x w in
    let s : slice_set f.slots x w ++ flat_frames fs ≡ slice_set (f.slots ++ flat_frames fs) x w = sym (set-append_left f.slots (flat_frames fs) x w lt) in
    let g : m.heap ++ (m.gap ++ flat_frames (record f { slots = slice_set f.slots x w } ∷ fs)) ≡ m.heap ++ (m.gap ++ (f.back ∷ Fix (pos (length f.slots)) ∷ slice_set (f.slots ++ flat_frames fs) x w)) =
    ap (λ (n : ℕ). m.heap ++ (m.gap ++ (f.back ∷ Fix (pos n) ∷ (slice_set f.slots x w ++ flat_frames fs)))) l ∙ ap (λ (ws : List Word). m.heap ++ (m.gap ++ (f.back ∷ Fix (pos (length f.slots)) ∷ ws))) s in
    continues _ _ (mac_is (m.pc + 1) m.registers m.ahead _ _ _ _ _ _ (g ∙ sym (slot_set m f fs x w)) refl refl))
storing_by false m f fs a x e = ends (Stop.Stuck m.pc)

storing_slot : (m : Framed) (a x : ℕ) (fs : List Frame) → IsFlat (stores a x (with_frames m fs)) (store a x (flat (with_frames m fs)))
storing_slot m a x [] = slot_none m x (λ at. on_some (slice_get m.registers a) (stuck (flat (with_frames m []))) (λ w. Goes (set_word at w (flat (with_frames m [])))))
storing_slot m a x (f ∷ fs) = slot_some m f fs x _ _ (storing_by (nat_lt x (length f.slots)) m f fs a x refl)

-- the last words of the gap, for a frame
pub record Parted (gap : List Word) (n x : ℕ) : Type 0 where
  pub first : Word
  pub second : Word
  pub front : List Word
  pub slots : List Word
  pub whole : gap ≡ front ++ (first ∷ second ∷ slots)
  pub front_is : take n gap ≡ front
  pub slots_is : drop (n + 2) gap ≡ slots
  pub front_size : length front ≡ n
  pub slots_size : length slots ≡ x

parted : (gap : List Word) (n x : ℕ) → length gap ≡ n + (x + 2) → Parted gap n x
parted [] n x e = absurd (omega (arith, e))
parted (g ∷ []) zero x e = absurd (omega (arith, e))
parted (g ∷ h ∷ gap) zero x e = record { first = g; second = h; front = []; slots = gap; whole = refl; front_is = refl; slots_is = refl; front_size = refl; slots_size = omega (arith, e) }
parted (g ∷ gap) (suc n) x e =
    let p : Parted gap n x = parted gap n x (omega (arith, e)) in
    let k : suc n + 2 ≡ suc (n + 2) = omega arith in
    record {
      first = p.first;
      second = p.second;
      front = g ∷ p.front;
      slots = p.slots;
      whole = ap (λ (ws : List Word). g ∷ ws) p.whole;
      front_is = ap (λ (ws : List Word). g ∷ ws) p.front_is;
      slots_is = ap (λ (i : ℕ). drop i (g ∷ gap)) k ∙ p.slots_is;
      front_size = ap (λ (i : ℕ). suc i) p.front_size;
      slots_size = p.slots_size;
    }

-- the words of a new frame
saved_words : (heap gap stack : List Word) (x : ℕ) → x + 2 ≤ length gap
    → (let n = length gap - (x + 2) in
    let sp = length heap + length gap - (x + 2) in
    heap ++ (take n gap ++ (zero_word ∷ Fix (pos (length (drop (n + 2) gap))) ∷ (drop (n + 2) gap ++ stack))) ≡ slice_set (slice_set (heap ++ (gap ++ stack)) sp zero_word) (sp + 1) (Fix (pos x)))
saved_words heap gap stack x h =
    let n = length gap - (x + 2) in
    let p : Parted gap n x = parted gap n x (omega (arith, h)) in
    let rest = p.slots ++ stack in
    let base = heap ++ p.front in
    let size : length base ≡ length heap + length gap - (x + 2) = omega (arith, h, length-append heap p.front, p.front_size) in
    let old : heap ++ (gap ++ stack) ≡ base ++ (p.first ∷ p.second ∷ rest) =
    ap (λ (ws : List Word). heap ++ (ws ++ stack)) p.whole ∙ ap (λ (ws : List Word). heap ++ ws) (append_assoc p.front (p.first ∷ p.second ∷ p.slots) stack) ∙ sym (append_assoc heap p.front (p.first ∷ p.second ∷ rest)) in
    let one : slice_set (base ++ (p.first ∷ p.second ∷ rest)) (length base) zero_word ≡ base ++ (zero_word ∷ p.second ∷ rest) = set_seam base (p.second ∷ rest) p.first zero_word in
    let two : slice_set (base ++ (zero_word ∷ p.second ∷ rest)) (length base + 1) (Fix (pos x)) ≡ base ++ (zero_word ∷ Fix (pos x) ∷ rest) = set_right base (zero_word ∷ p.second ∷ rest) 1 (Fix (pos x)) in
    let done : slice_set (slice_set (heap ++ (gap ++ stack)) (length base) zero_word) (length base + 1) (Fix (pos x)) ≡ base ++ (zero_word ∷ Fix (pos x) ∷ rest) =
    ap (λ (ws : List Word). slice_set (slice_set ws (length base) zero_word) (length base + 1) (Fix (pos x))) old ∙ ap (λ (ws : List Word). slice_set ws (length base + 1) (Fix (pos x))) one ∙ two in
    let done' : slice_set (slice_set (heap ++ (gap ++ stack)) (length heap + length gap - (x + 2)) zero_word) (length heap + length gap - (x + 2) + 1) (Fix (pos x)) ≡ base ++ (zero_word ∷ Fix (pos x) ∷ rest) =
    sym (ap (λ (i : ℕ). slice_set (slice_set (heap ++ (gap ++ stack)) i zero_word) (i + 1) (Fix (pos x))) size) ∙ done in
    let new : heap ++ (take n gap ++ (zero_word ∷ Fix (pos (length (drop (n + 2) gap))) ∷ (drop (n + 2) gap ++ stack))) ≡ heap ++ (p.front ++ (zero_word ∷ Fix (pos (length p.slots)) ∷ rest)) =
    ap (λ (ws : List Word). heap ++ (ws ++ (zero_word ∷ Fix (pos (length (drop (n + 2) gap))) ∷ (drop (n + 2) gap ++ stack)))) p.front_is
    ∙ ap (λ (ws : List Word). heap ++ (p.front ++ (zero_word ∷ Fix (pos (length ws)) ∷ (ws ++ stack)))) p.slots_is in
    new ∙ ap (λ (i : ℕ). heap ++ (p.front ++ (zero_word ∷ Fix (pos i) ∷ rest))) p.slots_size ∙ sym (append_assoc heap p.front (zero_word ∷ Fix (pos x) ∷ rest)) ∙ sym done'

saving : (x : ℕ) (m : Framed) → IsFlat (saves x m) (save x (flat m))
saving x m = requesting (x + 2) m _ _ (λ h.
    let n = length m.gap - (x + 2) in
    let s : length m.heap + length (take n m.gap) ≡ length m.heap + length m.gap - (x + 2) = omega (arith, h, length-take n m.gap) in
    mac_is (m.pc + 1) m.registers m.ahead _ _ _ _ _ _ (saved_words m.heap m.gap (flat_frames m.frames) x h) refl s)

performing : (c : Assembled) (m : Framed) (i : Instr) → IsFlat (framed_perform c m i) (perform c (flat m) i)
performing c m (Proc x) = shows (Event.Enter x) _ _ refl
performing c m (Args a) = search (parts, failing)
performing c m (ArgsGe a) = same_some (slice_get m.registers 16) _ _ _ _ (ends (Stop.Stuck m.pc)) (λ w. numbering m w _ _ (λ n. resting c a n m))
performing c m (Save x) = saving x m
performing c m (SetRtn x) = returning_back m x m.frames
performing c m (Load a x) = loading m a x m.frames
performing c m (Store a x) = storing_slot m a x m.frames
performing c m (Pop x) = popping m x m.frames
performing c m Return = returning m m.frames
performing c m (Invoke a) =
    same_some (slice_get m.registers 0) _ _ _ _ (ends (Stop.Stuck m.pc)) (λ w. found m (λ h. procedure_at h w) _ _ _ _ (failing c m Cause.NotProcedure) (λ o. entering o m (record m { registers = slice_set m.registers 16 (Fix (pos a)) })))
performing c m (Jump x) = continues _ _ refl
performing c m (Brf a x) = search parts
performing c m (Imm a x) = search parts
performing c m (Stat a tag x) = search parts
performing c m (Move a b) = search parts
performing c m (GlobalGet a x) = heap_word m x _ _ (λ w h. same_cond _ _ _ _ _ (failing c m Cause.Undefined) (continues _ _ refl))
performing c m (GlobalSet a x) = heap_word m x _ _ (λ w h. same_cond _ _ _ _ _ (failing c m Cause.Undefined) (storing m x a w h))
performing c m (GlobalDef a x) = heap_word m x _ _ (λ w h. storing m x a w h)
performing c m (Cell a b) = same_some (slice_get m.registers b) _ _ _ _ (ends (Stop.Stuck m.pc)) (λ w. making 3 (cell_words w) a m)
performing c m (CellGet a b) =
    same_some (slice_get m.registers b) _ _ _ _ (ends (Stop.Stuck m.pc)) (λ u. found m (λ h. object_at h 3 26 u) _ _ _ _ (ends (Stop.Stuck m.pc)) (λ o.
    heap_word m (o.at + 1) _ _ (λ w h. same_cond _ _ _ _ _ (failing c m Cause.Undefined) (continues _ _ refl))))
performing c m (CellSet a b) =
    same_some (slice_get m.registers a) _ _ _ _ (ends (Stop.Stuck m.pc)) (λ u. found m (λ h. object_at h 3 26 u) _ _ _ _ (ends (Stop.Stuck m.pc)) (λ o.
    heap_word m (o.at + 1) _ _ (λ w h. storing m (o.at + 1) b w h)))
performing c m (Clo a n x) = making 7 (new_procedure n x) a m
performing c m (Capt a b x) =
    same_some (slice_get m.registers b) _ _ _ _ (ends (Stop.Stuck m.pc)) (λ u. found m (λ h. captured_at h x u) _ _ _ _ (ends (Stop.Stuck m.pc)) (λ at. heap_word m at _ _ (λ w h. continues _ _ refl)))
performing c m (CaptSet a b x) =
    same_some (slice_get m.registers a) _ _ _ _ (ends (Stop.Stuck m.pc)) (λ u. found m (λ h. captured_at h x u) _ _ _ _ (ends (Stop.Stuck m.pc)) (λ at. heap_word m at _ _ (λ w h. storing m at b w h)))
performing c m Apply =
    same_some (slice_get m.registers 0) _ _ _ _ (ends (Stop.Stuck m.pc)) (λ w. found m (λ h. procedure_at h w) _ _ _ _ (failing c m Cause.NotProcedure) (λ o.
    same_some (slice_get m.registers 1) _ _ _ _ (ends (Stop.Stuck m.pc)) (λ l.
    subst (λ (h : Heap). IsFlat (applies_to c o m (walk_list (words_of m) l)) (apply_to c o (flat m) (walk_list h l))) (sym (heap_is m)) (applying c o m (walk_list (words_of m) l)))))
performing c m End = ends Stop.End
performing c m (Op0 a x) = carrying c a m _
performing c m (Op1 a b x) = same_some (slice_get m.registers b) _ _ _ _ (ends (Stop.Stuck m.pc)) (λ u.
    subst (λ (h : Heap). IsFlat (carries_out c a m (numbered (primitive_at x) (λ p. effect_1 (words_of m) p u))) (carry_out c a (flat m) (numbered (primitive_at x) (λ p. effect_1 h p u)))) (sym (heap_is m))
    (carrying c a m (numbered (primitive_at x) (λ p. effect_1 (words_of m) p u))))
performing c m (Op2 a b d x) = same_some (slice_get m.registers b) _ _ _ _ (ends (Stop.Stuck m.pc)) (λ u. same_some (slice_get m.registers d) _ _ _ _ (ends (Stop.Stuck m.pc)) (λ v.
    subst (λ (h : Heap). IsFlat (carries_out c a m (numbered (primitive_at x) (λ p. effect_2 (words_of m) p u v))) (carry_out c a (flat m) (numbered (primitive_at x) (λ p. effect_2 h p u v)))) (sym (heap_is m))
    (carrying c a m (numbered (primitive_at x) (λ p. effect_2 (words_of m) p u v)))))
performing c m (Op3 a b d x) = same_some (slice_get m.registers a) _ _ _ _ (ends (Stop.Stuck m.pc)) (λ u. same_some (slice_get m.registers b) _ _ _ _ (ends (Stop.Stuck m.pc)) (λ v. same_some (slice_get m.registers d) _ _ _ _ (ends (Stop.Stuck m.pc)) (λ w.
    subst (λ (h : Heap). IsFlat (carries_out c 16 m (numbered (primitive_at x) (λ p. effect_3 (words_of m) p u v w))) (carry_out c 16 (flat m) (numbered (primitive_at x) (λ p. effect_3 h p u v w)))) (sym (heap_is m))
    (carrying c 16 m (numbered (primitive_at x) (λ p. effect_3 (words_of m) p u v w))))))

fetching : (c : Assembled) (m : Framed) → IsFlat (framed_fetched c m) (fetched c (flat m))
fetching c m = same_some (slice_get c.code m.pc) _ _ _ _ (ends (Stop.Stuck m.pc)) (λ i. performing c m i)

pub framed_step : (c : Assembled) (m : Framed) → flat_outcome (framed_fetched c m) ≡ fetched c (flat m)
framed_step c m = (fetching c m).is
