-- Words and lists that are written, and lists that are walked, one word after the other.
use Rattle.std.proofs.Common.{◌≡◌, ℕ, zero, suc, ◌+◌, ◌-◌, ◌*◌, ◌<◌, ◌≤◌, Bool, true, false, cond, nat_lt, List, [], ◌∷◌, ◌++◌, length, take, drop, get_or, slice_set, Option, Some, None, refl, sym, ap, ◌∙◌, arith, append-nil}
use Rattle.std.proofs.Math.Seq.{drop-cons}
use Rattle.std.proofs.lemmas.Bool.Decides.{nat_tests}
use Rattle.std.proofs.lemmas.List.{take_more_set, length-set, length-take, length-drop}
use Rattle.std.specs.Prelude.{slice_range}
use Rattle.tb_prim.specs.declared.event.Cause.{Cause}
use Rattle.tb_mac.specs.declared.word.Word.{Word}
use Rattle.tb_mac.specs.declared.word.Word.TheVariants.{Pointer}
use Rattle.tb_mac.specs.Effects.{Heap, pair_at}
use Rattle.tb_mac.specs.MacStep.{Mac, rest_list, request, put_words, list_at, list_words, Walked, Elements, NoList, NoWord, with_element, ends_list, walked, walk_list}
use Rattle.tb_mac.specs.Words.{on_some, empty_list, same_word}
use Rattle.tb_macm.specs.declared.answer.Walk.TheVariants as W
use Rattle.tb_macm.specs.calls.Quiet.{walked_of}

pub drop_all : {X : Type 0} (ws : List X) (k : ℕ) → k ≡ length ws → drop k ws ≡ []
drop_all [] zero e = refl
drop_all [] (suc k) e = refl
drop_all (w ∷ ws) zero e = absurd (omega (arith, e))
drop_all (w ∷ ws) (suc k) e = drop_all ws k (omega (arith, e))

-- a word that was read is the first of those that are left
pub drop_here : {X : Type 0} (ws : List X) (k : ℕ) (w : X) → k < length ws → w ≡ get_or ws k w → drop k ws ≡ w ∷ drop (k + 1) ws
drop_here ws k w lt h =
    let kk : suc k ≡ k + 1 = omega arith in
    drop-cons ws k w lt ∙ ap (λ x. x ∷ drop (suc k) ws) (sym h) ∙ ap (λ n. w ∷ drop n ws) kk

-- the words from number k on are still to be put, and then the memory is this one
pub record Putting (at k : ℕ) (words memory goal : List Word) : Type 0 where
  pub rest : put_words (at + k) (drop k words) memory ≡ goal

pub putting_start : (at : ℕ) (words memory : List Word) → Putting at 0 words memory (put_words at words memory)
putting_start at words memory = let e : at + 0 ≡ at = omega arith in record { rest = ap (λ (i : ℕ). put_words i words memory) e }

pub putting_step : (at k : ℕ) (words memory goal : List Word) (w : Word) → k < length words → w ≡ get_or words k w → Putting at k words memory goal → Putting at (k + 1) words (slice_set memory (at + k) w) goal
putting_step at k words memory goal w lt h p =
    let g : at + k + 1 ≡ at + (k + 1) = omega arith in
    let a : put_words (at + (k + 1)) (drop (k + 1) words) (slice_set memory (at + k) w) ≡ put_words (at + k + 1) (drop (k + 1) words) (slice_set memory (at + k) w) =
    ap (λ (i : ℕ). put_words i (drop (k + 1) words) (slice_set memory (at + k) w)) (sym g) in
    let b : put_words (at + k) (w ∷ drop (k + 1) words) memory ≡ put_words (at + k) (drop k words) memory =
    ap (λ (ws : List Word). put_words (at + k) ws memory) (sym (drop_here words k w lt h)) in
    record { rest = a ∙ b ∙ p.rest }

pub putting_end : (at k : ℕ) (words memory goal : List Word) → k ≡ length words → Putting at k words memory goal → memory ≡ goal
putting_end at k words memory goal e p = sym (ap (λ (ws : List Word). put_words (at + k) ws memory) (drop_all words k e)) ∙ p.rest

-- the pairs from number k on are still to be put
pub record Listing (at k : ℕ) (words memory goal : List Word) : Type 0 where
  pub rest : put_words (at + 2 * k) (list_words (at + 2 * k) (drop k words)) memory ≡ goal

pub listing_start : (at : ℕ) (words memory : List Word) → Listing at 0 words memory (put_words at (list_words at words) memory)
listing_start at words memory = let e : at + 2 * 0 ≡ at = omega arith in record { rest = ap (λ (i : ℕ). put_words i (list_words i words) memory) e }

list_tail : (words : List Word) (n q : ℕ) → list_at q (drop n words) ≡ cond (nat_lt n (length words)) (Pointer 1 q) empty_list
list_tail [] zero q = refl
list_tail [] (suc n) q = grind (arith, nat_tests)
list_tail (w ∷ ws) zero q = grind (arith, nat_tests)
list_tail (w ∷ ws) (suc n) q =
    let e : nat_lt n (length ws) ≡ nat_lt (suc n) (suc (length ws)) = grind (arith, nat_tests) in
    list_tail ws n q ∙ ap (λ (b : Bool). cond b (Pointer 1 q) empty_list) e

pub listing_step : (at k : ℕ) (words memory goal : List Word) (w t : Word) → k < length words → w ≡ get_or words k w → t ≡ cond (nat_lt (k + 1) (length words)) (Pointer 1 (at + 2 * k + 2)) empty_list → Listing at k words memory goal → Listing at (k + 1) words (slice_set (slice_set memory (at + 2 * k) w) (at + 2 * k + 1) t) goal
listing_step at k words memory goal w t lt h e p =
    let here = at + 2 * k in
    let left = drop (k + 1) words in
    let m = slice_set (slice_set memory here w) (here + 1) t in
    let g : at + 2 * (k + 1) ≡ here + 2 = omega arith in
    let gg : here + 1 + 1 ≡ here + 2 = omega arith in
    let tt' : t ≡ list_at (here + 2) left = e ∙ sym (list_tail words (k + 1) (here + 2)) in
    let a : put_words (at + 2 * (k + 1)) (list_words (at + 2 * (k + 1)) left) m ≡ put_words (here + 2) (list_words (here + 2) left) m = ap (λ (i : ℕ). put_words i (list_words i left) m) g in
    let b : put_words (here + 2) (list_words (here + 2) left) m ≡ put_words (here + 1 + 1) (list_words (here + 2) left) m = ap (λ (i : ℕ). put_words i (list_words (here + 2) left) m) (sym gg) in
    let d : put_words (here + 1 + 1) (list_words (here + 2) left) m ≡ put_words here (list_words here (w ∷ left)) memory =
    ap (λ (x : Word). put_words (here + 1 + 1) (list_words (here + 2) left) (slice_set (slice_set memory here w) (here + 1) x)) tt' in
    let f : put_words here (list_words here (w ∷ left)) memory ≡ put_words here (list_words here (drop k words)) memory =
    ap (λ (ws : List Word). put_words here (list_words here ws) memory) (sym (drop_here words k w lt h)) in
    record { rest = a ∙ b ∙ d ∙ f ∙ p.rest }

pub listing_end : (at k : ℕ) (words memory goal : List Word) → k ≡ length words → Listing at k words memory goal → memory ≡ goal
listing_end at k words memory goal e p =
    sym (ap (λ (ws : List Word). put_words (at + 2 * k) (list_words (at + 2 * k) ws) memory) (drop_all words k e)) ∙ p.rest

pub length_list_words : (at : ℕ) (us : List Word) → length (list_words at us) ≡ 2 * length us
length_list_words at [] = refl
length_list_words at (u ∷ us) = let e : length (list_words (at + 2) us) ≡ 2 * length us = length_list_words (at + 2) us in omega (arith, e)

-- elements that were found before the rest of a walk
pub with_elements : List Word → Walked → Walked
with_elements [] v = v
with_elements (u ∷ us) v = with_element u (with_elements us v)

with_elements-more : (us : List Word) (u : Word) (v : Walked) → with_elements (us ++ u ∷ []) v ≡ with_elements us (with_element u v)
unfolding with_elements
with_elements-more [] u v = refl
with_elements-more (x ∷ us) u v = ap (with_element x) (with_elements-more us u v)

with_elements-elements : (us vs : List Word) → with_elements us (Elements vs) ≡ Elements (us ++ vs)
unfolding with_elements
with_elements-elements [] vs = refl
with_elements-elements (u ∷ us) vs = ap (with_element u) (with_elements-elements us vs)

with_elements-no_list : (us : List Word) (c : Cause) → with_elements us (NoList c) ≡ NoList c
unfolding with_elements
with_elements-no_list [] c = refl
with_elements-no_list (u ∷ us) c = ap (with_element u) (with_elements-no_list us c)

with_elements-no_word : (us : List Word) → with_elements us NoWord ≡ NoWord
unfolding with_elements
with_elements-no_word [] = refl
with_elements-no_word (u ∷ us) = ap (with_element u) (with_elements-no_word us)

-- so many elements of a list were found, and the walk goes on at a word
pub record Walking (heap : Heap) (list rest : Word) (count : ℕ) (elements : List Word) : Type 0 where
  pub left : ℕ
  pub ends : count + left ≡ 12
  pub size : length elements ≡ 12
  pub is : walk_list heap list ≡ with_elements (take count elements) (walked heap left rest)

pub walking_start : (heap : Heap) (list : Word) (elements : List Word) → length elements ≡ 12 → Walking heap list list 0 elements
unfolding with_elements walk_list
walking_start heap list elements size = record { left = 12; ends = refl; size = size; is = refl }

walked_pair : (heap : Heap) (n at : ℕ) (w u v : Word) → pair_at w ≡ Some at → heap at ≡ Some u → heap (at + 1) ≡ Some v → walked heap (suc n) w ≡ with_element u (walked heap n v)
walked_pair heap n at w u v p h g =
    ap (λ (o : Option ℕ). on_some o (ends_list w) (λ a. on_some (heap a) NoWord (λ u'. on_some (heap (a + 1)) NoWord (λ v'. with_element u' (walked heap n v'))))) p
    ∙ ap (λ (o : Option Word). on_some o NoWord (λ u'. on_some (heap (at + 1)) NoWord (λ v'. with_element u' (walked heap n v')))) h
    ∙ ap (λ (o : Option Word). on_some o NoWord (λ v'. with_element u (walked heap n v'))) g

walking_by : (left count at : ℕ) (heap : Heap) (list rest u v : Word) (elements : List Word) → pair_at rest ≡ Some at → heap at ≡ Some u → heap (at + 1) ≡ Some v → count < 12 → length elements ≡ 12 → count + left ≡ 12 → walk_list heap list ≡ with_elements (take count elements) (walked heap left rest) → Walking heap list v (count + 1) (slice_set elements count u)
walking_by zero count at heap list rest u v elements p h g lt len e i = absurd (omega (arith, lt, e))
walking_by (suc left) count at heap list rest u v elements p h g lt len e i = record {
  left = left;
  ends = omega (arith, e);
  size = omega (arith, len, length-set elements count u);
  is = i ∙ ap (with_elements (take count elements)) (walked_pair heap left at rest u v p h g)
      ∙ sym (with_elements-more (take count elements) u (walked heap left v))
      ∙ sym (ap (λ (us : List Word). with_elements us (walked heap left v)) (take_more_set elements count u (omega (arith, lt, len))));
}

pub walking_step : (heap : Heap) (list rest u v : Word) (count at : ℕ) (elements : List Word) → Some at ≡ pair_at rest → Some u ≡ heap at → Some v ≡ heap (at + 1) → count < 12 → Walking heap list rest count elements → Walking heap list v (count + 1) (slice_set elements count u)
walking_step heap list rest u v count at elements p h g lt w = walking_by w.left count at heap list rest u v elements (sym p) (sym h) (sym g) lt w.size w.ends w.is

walked_end : (left : ℕ) (heap : Heap) (rest : Word) → pair_at rest ≡ None → walked heap left rest ≡ ends_list rest
walked_end zero heap rest p = ap (λ (o : Option ℕ). on_some o (ends_list rest) (λ a. NoList Cause.TooMany)) p
walked_end (suc n) heap rest p =
    ap (λ (o : Option ℕ). on_some o (ends_list rest) (λ a. on_some (heap a) NoWord (λ u. on_some (heap (a + 1)) NoWord (λ v. with_element u (walked heap n v))))) p

ended : (b : Bool) (count : ℕ) (elements : List Word) → walked_of (cond b (W.Elements count) (W.NoList Cause.WrongType)) elements ≡ with_elements (take count elements) (cond b (Elements []) (NoList Cause.WrongType))
ended true count elements = sym (with_elements-elements (take count elements) [] ∙ ap Elements (append-nil (take count elements)))
ended false count elements = sym (with_elements-no_list (take count elements) Cause.WrongType)

-- the list ends at a word that is no pair
pub walking_ended : (heap : Heap) (list rest : Word) (count : ℕ) (elements : List Word) → None ≡ pair_at rest → Walking heap list rest count elements → walked_of (cond (same_word rest empty_list) (W.Elements count) (W.NoList Cause.WrongType)) elements ≡ walk_list heap list
walking_ended heap list rest count elements p w =
    ended (same_word rest empty_list) count elements ∙ sym (w.is ∙ ap (with_elements (take count elements)) (walked_end w.left heap rest (sym p)))

no_word_by : (left count at : ℕ) (heap : Heap) (list rest : Word) (elements : List Word) → pair_at rest ≡ Some at → walked heap left rest ≡ NoWord → walk_list heap list ≡ with_elements (take count elements) (walked heap left rest) → walk_list heap list ≡ NoWord
no_word_by left count at heap list rest elements p h i = i ∙ ap (with_elements (take count elements)) h ∙ with_elements-no_word (take count elements)

first_missing : (left at : ℕ) (heap : Heap) (rest : Word) → 0 < left → pair_at rest ≡ Some at → heap at ≡ None → walked heap left rest ≡ NoWord
first_missing zero at heap rest lt p h = absurd (omega (arith, lt))
first_missing (suc n) at heap rest lt p h =
    ap (λ (o : Option ℕ). on_some o (ends_list rest) (λ a. on_some (heap a) NoWord (λ u. on_some (heap (a + 1)) NoWord (λ v. with_element u (walked heap n v))))) p
    ∙ ap (λ (o : Option Word). on_some o NoWord (λ u. on_some (heap (at + 1)) NoWord (λ v. with_element u (walked heap n v)))) h

second_missing : (left at : ℕ) (heap : Heap) (rest u : Word) → 0 < left → pair_at rest ≡ Some at → heap at ≡ Some u → heap (at + 1) ≡ None → walked heap left rest ≡ NoWord
second_missing zero at heap rest u lt p h g = absurd (omega (arith, lt))
second_missing (suc n) at heap rest u lt p h g =
    ap (λ (o : Option ℕ). on_some o (ends_list rest) (λ a. on_some (heap a) NoWord (λ u'. on_some (heap (a + 1)) NoWord (λ v. with_element u' (walked heap n v))))) p
    ∙ ap (λ (o : Option Word). on_some o NoWord (λ u'. on_some (heap (at + 1)) NoWord (λ v. with_element u' (walked heap n v)))) h
    ∙ ap (λ (o : Option Word). on_some o NoWord (λ v. with_element u (walked heap n v))) g

-- a word of a pair is not there
pub walking_first_missing : (heap : Heap) (list rest : Word) (count at : ℕ) (elements : List Word) → Some at ≡ pair_at rest → None ≡ heap at → count < 12 → Walking heap list rest count elements → NoWord ≡ walk_list heap list
walking_first_missing heap list rest count at elements p h lt w =
    sym (no_word_by w.left count at heap list rest elements (sym p) (first_missing w.left at heap rest (omega (arith, lt, w.ends)) (sym p) (sym h)) w.is)

pub walking_second_missing : (heap : Heap) (list rest u : Word) (count at : ℕ) (elements : List Word) → Some at ≡ pair_at rest → Some u ≡ heap at → None ≡ heap (at + 1) → count < 12 → Walking heap list rest count elements → NoWord ≡ walk_list heap list
walking_second_missing heap list rest u count at elements p h g lt w =
    sym (no_word_by w.left count at heap list rest elements (sym p) (second_missing w.left at heap rest u (omega (arith, lt, w.ends)) (sym p) (sym h) (sym g)) w.is)

full_by : (left count at : ℕ) (heap : Heap) (list rest : Word) (elements : List Word) → pair_at rest ≡ Some at → count ≡ 12 → count + left ≡ 12 → walk_list heap list ≡ with_elements (take count elements) (walked heap left rest) → walk_list heap list ≡ NoList Cause.TooMany
full_by zero count at heap list rest elements p c e i =
    i ∙ ap (with_elements (take count elements)) (ap (λ (o : Option ℕ). on_some o (ends_list rest) (λ a. NoList Cause.TooMany)) p) ∙ with_elements-no_list (take count elements) Cause.TooMany
full_by (suc left) count at heap list rest elements p c e i = absurd (omega (arith, c, e))

-- a thirteenth pair
pub walking_full : (heap : Heap) (list rest : Word) (count at : ℕ) (elements : List Word) → Some at ≡ pair_at rest → count ≡ 12 → Walking heap list rest count elements → NoList Cause.TooMany ≡ walk_list heap list
walking_full heap list rest count at elements p c w = sym (full_by w.left count at heap list rest elements (sym p) c w.ends w.is)

-- the words of a rest list
pub length_rest : (registers : List Word) (a n at : ℕ) → length registers ≡ 17 → a ≤ n → n ≤ 12 → length (list_words at (take (n - a) (drop (a + 1) registers))) ≡ (n - a) * 2
length_rest registers a n at e l k =
    let us = take (n - a) (drop (a + 1) registers) in
    let f : length us ≡ n - a = omega (arith, length-take (n - a) (drop (a + 1) registers), length-drop (a + 1) registers) in
    let g : length (list_words at us) ≡ 2 * length us = length_list_words at us in
    omega (arith, f, g)

pub rest_at : (us : List Word) (k q : ℕ) → length us ≡ k → list_at q us ≡ cond (nat_lt 0 k) (Pointer 1 q) empty_list
rest_at us k q e = list_tail us 0 q ∙ ap (λ (n : ℕ). cond (nat_lt 0 n) (Pointer 1 q) empty_list) e

-- the step that makes a rest list, by the number of its words
pub rest_list_is : (m : Mac) (a n : ℕ) → length m.registers ≡ 17 → a ≤ n → n ≤ 12 → rest_list a n m ≡ request ((n - a) * 2) m (record m {
  pc = m.pc + 1;
  registers = slice_set m.registers (a + 1) (cond (nat_lt a n) (Pointer 1 m.heap_pointer) empty_list);
  memory = put_words m.heap_pointer (list_words m.heap_pointer (slice_range m.registers (a + 1) (n + 1))) m.memory;
  heap_pointer = m.heap_pointer + (n - a) * 2;
})
rest_list_is m a n e l k =
    let hp = m.heap_pointer in
    let us = take (n - a) (drop (a + 1) m.registers) in
    let f : length us ≡ n - a = omega (arith, length-take (n - a) (drop (a + 1) m.registers), length-drop (a + 1) m.registers) in
    let size : length (list_words hp us) ≡ (n - a) * 2 = length_rest m.registers a n hp e l k in
    let first : list_at hp us ≡ cond (nat_lt 0 (n - a)) (Pointer 1 hp) empty_list = rest_at us (n - a) hp f in
    let test : nat_lt 0 (n - a) ≡ nat_lt a n = grind (arith, nat_tests) in
    let first' : list_at hp us ≡ cond (nat_lt a n) (Pointer 1 hp) empty_list = first ∙ ap (λ (b : Bool). cond b (Pointer 1 hp) empty_list) test in
    let range : us ≡ slice_range m.registers (a + 1) (n + 1) = ap (λ (i : ℕ). take i (drop (a + 1) m.registers)) (omega arith) in
    let made : (size' : ℕ) (w : Word) (us' : List Word) → Mac = λ (size' : ℕ) (w : Word) (us' : List Word). record m {
      pc = m.pc + 1;
      registers = slice_set m.registers (a + 1) w;
      memory = put_words hp (list_words hp us') m.memory;
      heap_pointer = hp + size';
    } in
    ap (λ (s : ℕ). request s m (made s (list_at hp us) us)) size
    ∙ ap (λ (w : Word). request ((n - a) * 2) m (made ((n - a) * 2) w us)) first'
    ∙ ap (λ (us' : List Word). request ((n - a) * 2) m (made ((n - a) * 2) (cond (nat_lt a n) (Pointer 1 hp) empty_list) us')) range
