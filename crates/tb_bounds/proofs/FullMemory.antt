-- Where a request for words is refused, the memory is small: the words in use after it, in a larger memory, are bounded
-- by what was made and what waits.
use Rattle.std.proofs.Common.{◌≡◌, refl, sym, ap, ◌∙◌, subst, ℕ, zero, suc, ◌+◌, ◌-◌, ◌*◌, ◌<◌, ◌≤◌, ◌==◌, arith, Bool, true, false, cond, List, [], ◌∷◌, ◌++◌, length, drop, replicate, Some}
use Rattle.std.proofs.Math.Nat.{le_refl, mul-add, mul-le-mul, mul-le-mul_left, mul-le-mul_right}
use Rattle.std.proofs.lemmas.List.{length-drop, length-replicate, replicate-append-replicate}
use Rattle.std.proofs.lemmas.Option.{same_Some}
use Rattle.tb_prim.specs.declared.event.Stop.{Stop}
use Rattle.tb_semantics.specs.Keeps.{Fits}
use Rattle.tb_semantics.specs.Runs.{after}
use Rattle.tb_core.specs.Measures.{items_made, marks, shape_of}
use Rattle.tb_core.specs.Reference.{State, config_of}
use Rattle.tb_core.specs.Rules.{Every}
use Rattle.tb_core.specs.Space.{made, space}
use Rattle.tb_core.specs.Store.{Item}
use Rattle.tb_mac.specs.Assembled.{Assembled}
use Rattle.tb_mac.specs.FramedRuns.{FramedState, Runs, Stays, framed_events, framed_full, framed_machine, framed_made, framed_of, framed_shape, framed_start, made_in}
use Rattle.tb_mac.specs.Frames.{Framed}
use Rattle.tb_mac.specs.Layout.{globals_size, start_words}
use Rattle.tb_mac.specs.LiveWords.{closure_count, data_size, frame_words, object_size}
use Rattle.tb_mac.specs.Objects.{padded_size, procedure_kind, raw_size, string_kind, symbol_kind}
use Rattle.tb_mac.specs.Words.{zero_word}
use Rattle.tb_mac.specs.declared.word.Word.{Word}
use Rattle.tb_mac.specs.declared.word.Word.TheVariants.{Fix, Special, Char, Header, Pointer, Code, Raw}
use Rattle.tb_bounds.specs.Within.{IsSmall, IsWithin}
use Rattle.tb_bounds.proofs.LargerMemory.{AlikeStates, goes-beyond, running, used_words}
use Rattle.tb_bounds.proofs.ReferenceSpace.{item-fits, shape-within}
use Rattle.tb_bounds.proofs.Sizes.{frames-small, object-fits}
use Rattle.tb_bounds.proofs.SmallWords.{every-drop}

-- an object has a word at least
either_more : (b : Bool) (x y : ℕ) → 1 ≤ x → 1 ≤ y → 1 ≤ cond b x y
either_more true x y h k = h
either_more false x y h k = k

not_empty : (w : Word) → 1 ≤ object_size (Some w)
not_empty (Header k n) =
    either_more (k == procedure_kind) (padded_size (n + 2)) _ (omega arith)
    (either_more (k == string_kind) (padded_size (raw_size n + 1)) _ (omega arith)
    (either_more (k == symbol_kind) (padded_size (raw_size n + 1)) (padded_size (n + 1)) (omega arith) (omega arith)))
not_empty (Fix n) = omega arith
not_empty (Special n) = omega arith
not_empty (Char n) = omega arith
not_empty (Pointer t n) = omega arith
not_empty (Code n) = omega arith
not_empty (Raw n) = omega arith

-- words that hold objects one behind the other are no more than what they count, with the factor
heap_made : (bound fuel : ℕ) (ws : List Word) → length ws ≤ fuel → Every (IsSmall bound) ws → length ws ≤ (bound + 3) * made_in fuel ws
heap_made bound zero [] le h = omega arith
heap_made bound zero (w ∷ ws) le h = absurd (omega arith)
heap_made bound (suc fuel) [] le h = omega arith
heap_made bound (suc fuel) (w ∷ ws) le h =
    let size = object_size (Some w) in
    let left = drop size (w ∷ ws) in
    let some = not_empty w in
    let d = length-drop size (w ∷ ws) in
    let r = heap_made bound fuel left (omega arith) (every-drop (IsSmall bound) size (w ∷ ws) h) in
    let o = object-fits bound (Some w) (λ v e. subst (IsSmall bound) (same_Some w v e) h.0) in
    let a = closure_count (Some w) in let b = data_size (Some w) in
    let m = mul-add (bound + 3) a b in
    let n = mul-add (bound + 3) (a + b) (made_in fuel left) in
    let t : 2 * b ≤ (bound + 3) * b = mul-le-mul_right b (omega arith) in
    let all : length (w ∷ ws) ≤ (bound + 3) * (a + b + made_in fuel left) = omega (arith, some, d, r, o, m, n, t) in
    all

items_within : (st : List Item) → items_made st ≤ made st
items_within [] = omega arith
items_within (i ∷ st) = let h = items_within st in let o = item-fits i in omega arith

-- frames by their number, the heap by what was made
used_bounded : (f marks globals space frames closures made words heap start : ℕ) →
    words ≤ (f + 2) * frames → frames ≤ marks + 1 → marks + globals ≤ space → start ≤ globals + 1 →
    heap ≤ start + (f + 3) * closures → closures ≤ made →
    heap + words ≤ 4 * (f + 16) * (space + made) + 4 * (f + 16)
used_bounded f marks globals space frames closures made words heap start a b c d e g =
    let x : (f + 2) * frames ≤ (f + 3) * (marks + 1) = mul-le-mul (omega arith) b in
    let y = mul-add (f + 3) marks 1 in
    let z : (f + 3) * closures ≤ (f + 3) * made = mul-le-mul_left (f + 3) g in
    let i : (f + 3) * (marks + globals) ≤ (f + 3) * space = mul-le-mul_left (f + 3) c in
    let j = mul-add (f + 3) marks globals in
    let k : 1 * globals ≤ (f + 3) * globals = mul-le-mul_right globals (omega arith) in
    let l = mul-add (f + 3) space made in
    let m : (f + 3) * (space + made) ≤ 4 * (f + 16) * (space + made) = mul-le-mul_right (space + made) (omega arith) in
    omega (arith, a, d, e, x, y, z, i, j, k, l, m)

-- the words in use, where one configuration holds nearly as much and another has made as much
pub used-within : (c : Assembled) (f statics : ℕ) (m : Framed) (s t : State) → IsWithin f m →
    Fits 1 (framed_shape c m) (shape_of statics s) → framed_made c m ≤ items_made (config_of t).store →
    used_words m ≤ 4 * (f + 16) * (space statics (config_of s) + made (config_of t).store) + 4 * (f + 16)
used-within c f statics m s t h fits few =
    let d = config_of s in
    let w = shape-within statics d in
    let g = globals_size c.parts in
    let l = length-drop g m.heap in
    let r : length (drop g m.heap) ≤ (f + 3) * framed_made c m =
    heap_made f (length m.heap) (drop g m.heap) (omega arith) (every-drop (IsSmall f) g m.heap h.heap) in
    let i = items_within (config_of t).store in
    let frames = fits.frames in
    let words = fits.words in
    used_bounded f (marks d.frames) (length c.parts.globals) (space statics d) (length m.frames) (framed_made c m) (made (config_of t).store)
    (frame_words m.frames) (length m.heap) g (frames-small f m.frames h.frames) frames (omega (arith, w, words)) (omega arith) (omega (arith, l, r))
    (omega (arith, few, i))

-- the memory that has so many words more than this one, and than the start fills
abbrev pub larger : Assembled → ℕ → ℕ → ℕ
larger c heap extra = length (start_words c.parts) + (extra + (heap - length (start_words c.parts)))

start_alike : (c : Assembled) (heap extra : ℕ) (input : List ℕ) →
    AlikeStates extra (Runs (framed_start c (larger c heap extra)) input []) (Runs (framed_start c heap) input [])
start_alike c heap extra input =
    let n = length (start_words c.parts) in
    let e : replicate (larger c heap extra - n) zero_word ≡ replicate extra zero_word ++ replicate (heap - n) zero_word =
    ap (λ k. replicate k zero_word) (let s : n + (extra + (heap - n)) - n ≡ extra + (heap - n) = omega arith in s)
    ∙ sym (replicate-append-replicate extra (heap - n) zero_word) in
    subst (λ g. AlikeStates extra (Runs (record (framed_start c heap) { gap = g }) input []) (Runs (framed_start c heap) input [])) (sym e)
    (running (framed_start c heap) (replicate extra zero_word) input [] (length-replicate extra zero_word))

-- the run in a larger memory comes to the events of the state, with more words in use than this memory has
abbrev pub HasBeyond : Assembled → ℕ → List ℕ → FramedState → Type 0
HasBeyond c heap input s =
    (need : ℕ) × (k : ℕ) × (framed_events s ≡ framed_events (after (framed_machine c (larger c heap need) input) k)) ×
    (heap < used_words (framed_of (after (framed_machine c (larger c heap need) input) k)))

-- so does every run that is full
pub full-goes-beyond : (c : Assembled) (heap n : ℕ) (input : List ℕ) → framed_full (after (framed_machine c heap input) n) ≡ true →
    HasBeyond c heap input (after (framed_machine c heap input) n)
full-goes-beyond c heap n input = by_state (after (framed_machine c heap input) n) refl
  where
    by_state : (s : FramedState) → after (framed_machine c heap input) n ≡ s → framed_full s ≡ true → HasBeyond c heap input s
    by_state (Stays m (Stop.Full h s need) rest es) e f =
        let k = length-replicate (heap - length (start_words c.parts)) zero_word in
        let g = goes-beyond c need heap h s need m rest es (le_refl need) n _ _ (start_alike c heap need input) (omega arith) e in (
          need,
          g.0,
          sym (ap framed_events g.2),
          subst (λ b. heap < used_words b) (sym (ap framed_of g.2)) g.3,
        )
    by_state (Stays m Stop.End rest es) e f = cc
    by_state (Stays m (Stop.Fail cause q) rest es) e f = cc
    by_state (Stays m Stop.Steps rest es) e f = cc
    by_state (Stays m (Stop.Stuck pc) rest es) e f = cc
    by_state (Stays m Stop.ReadFault rest es) e f = cc
    by_state (Stays m Stop.WriteFault rest es) e f = cc
    by_state (Runs m rest es) e f = cc
