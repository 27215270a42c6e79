-- What is noted of words that are read one after the other.
use Rattle.std.proofs.Common.{◌≡◌, ℕ, zero, suc, ◌+◌, ◌-◌, ◌<◌, ◌≤◌, min, ⊎_elim, Bool, true, false, cond, List, [], ◌∷◌, ◌++◌, length, take, drop, get_or, slice_get, Option, Some, None, refl, sym, ap, ◌∙◌, append_assoc, arith}
use Rattle.std.proofs.lemmas.Bool.{cases_lt}
use Rattle.std.proofs.lemmas.List.{drop_more, drop_all, length-take-le}
use Rattle.tb_semantics.proofs.ListLemmas.{get-some}
use Rattle.tb_prim.specs.declared.constant.Static.{Static}
use Rattle.tb_mac.specs.declared.word.Word.{Word}
use Rattle.tb_mac.specs.Layout.{addresses_from, static_size}
use Rattle.tb_mac.specs.LiveWords.{all_targets, chosen, chosen_from, pointing_words, targets, targets_from}
use Rattle.tb_mac.specs.Words.{on_some}
use Rattle.tb_space.specs.calls.Noting.{noted, noted_all}

pub noted_all-append : (limit : ℕ) (found rs ss : List ℕ) →
    noted_all limit found (rs ++ ss) ≡ noted_all limit (noted_all limit found rs) ss
noted_all-append limit found [] ss = refl
noted_all-append limit found (a ∷ rs) ss = noted_all-append limit (noted limit found a) rs ss

pub get-take : {X : Type 0} (n at : ℕ) (xs : List X) → at < n → slice_get (take n xs) at ≡ slice_get xs at
get-take zero at xs lt = absurd (omega arith)
get-take (suc n) at [] lt = refl
get-take (suc n) zero (x ∷ xs) lt = refl
get-take (suc n) (suc at) (x ∷ xs) lt = get-take n at xs (omega arith)

pub drop-get : {X : Type 0} (xs : List X) (at : ℕ) (x : X) → slice_get xs at ≡ Some x → drop at xs ≡ x ∷ drop (at + 1) xs
drop-get [] at x e = cc
drop-get (y ∷ xs) zero x e = let h : y ≡ x = cc in ap (λ z. z ∷ xs) h
drop-get (y ∷ xs) (suc at) x e =
    let q : suc (at + 1) ≡ suc at + 1 = omega arith in
    drop-get xs at x e ∙ ap (λ n. x ∷ drop n (y ∷ xs)) q

-- words of the heap up to one
pub targets-step : (heap : List Word) (at to : ℕ) (w : Word) → at < to → slice_get heap at ≡ Some w →
    targets_from heap at (to - at) ≡ targets w ++ targets_from heap (at + 1) (to - (at + 1))
targets-step heap at to w lt e =
    let n : to - at ≡ suc (to - (at + 1)) = omega arith in
    ap (targets_from heap at) n ∙ ap (λ (o : Option Word). on_some o [] targets ++ targets_from heap (at + 1) (to - (at + 1))) e

pub words-step : (limit to at : ℕ) (heap : List Word) (found found' : List ℕ) (w : Word) → at < to →
    slice_get heap at ≡ Some w → found' ≡ noted_all limit found (targets w) →
    noted_all limit found' (targets_from heap (at + 1) (to - (at + 1))) ≡ noted_all limit found (targets_from heap at (to - at))
words-step limit to at heap found found' w lt e f =
    ap (λ xs. noted_all limit xs (targets_from heap (at + 1) (to - (at + 1)))) f
    ∙ sym (ap (noted_all limit found) (targets-step heap at to w lt e) ∙ noted_all-append limit found (targets w) _)

pub words-end : (limit to at : ℕ) (heap : List Word) (found : List ℕ) → to ≤ at →
    noted_all limit found (targets_from heap at (to - at)) ≡ found
words-end limit to at heap found le =
    let z : to - at ≡ 0 = omega arith in ap (λ n. noted_all limit found (targets_from heap at n)) z

-- words beyond the heap point nowhere
targets-past : (heap : List Word) (at n : ℕ) → slice_get heap at ≡ None → ((k : ℕ) → at ≤ k → slice_get heap k ≡ None) →
    targets_from heap at n ≡ []
targets-past heap at zero e all = refl
targets-past heap at (suc n) e all =
    ap (λ (o : Option Word). on_some o [] targets ++ targets_from heap (at + 1) n) e
    ∙ targets-past heap (at + 1) n (all (at + 1) (omega arith)) (λ k le. all k (omega arith))

get-past : {X : Type 0} (xs : List X) (k : ℕ) → length xs ≤ k → slice_get xs k ≡ None
get-past [] k le = refl
get-past (x ∷ xs) zero le = absurd (omega arith)
get-past (x ∷ xs) (suc k) le = get-past xs k (omega arith)

pub targets-beyond : (heap : List Word) (at n : ℕ) → length heap ≤ at → targets_from heap at n ≡ []
targets-beyond heap at n le = targets-past heap at n (get-past heap at le) (λ k h. get-past heap k (omega arith))

-- so it is enough to read to the end of the heap
pub targets-cut : (heap : List Word) (m n at : ℕ) → m ≤ n → length heap ≤ at + m → targets_from heap at n ≡ targets_from heap at m
targets-cut heap zero n at le h = targets-beyond heap at n (omega arith)
targets-cut heap (suc m) zero at le h = absurd (omega arith)
targets-cut heap (suc m) (suc n) at le h =
    ap (λ ts. on_some (slice_get heap at) [] targets ++ ts) (targets-cut heap m n (at + 1) (omega arith) (omega arith))

-- live words
pub chosen-step : (live : List Bool) (memory : List Word) (k from : ℕ) (b : Bool) (w : Word) → drop k live ≡ b ∷ drop (k + 1) live →
    drop (from + k) memory ≡ w ∷ drop (from + (k + 1)) memory →
    chosen (drop k live) (drop (from + k) memory) ≡ cond b (w ∷ chosen (drop (k + 1) live) (drop (from + (k + 1)) memory)) (chosen (drop (k + 1) live) (drop (from + (k + 1)) memory))
chosen-step live memory k from b w e f = ap (λ bs. chosen bs (drop (from + k) memory)) e ∙ ap (chosen (b ∷ drop (k + 1) live)) f

append-nil' : (xs : List ℕ) → xs ++ [] ≡ xs
append-nil' [] = refl
append-nil' (x ∷ xs) = ap (λ ys. x ∷ ys) (append-nil' xs)

live_by : (limit : ℕ) (b : Bool) (w : Word) (found : List ℕ) (ws : List Word) →
    noted_all limit (noted_all limit found (all_targets (cond b (w ∷ []) []))) (all_targets ws)
    ≡ noted_all limit found (all_targets (cond b (w ∷ ws) ws))
live_by limit true w found ws =
    ap (λ ts. noted_all limit (noted_all limit found ts) (all_targets ws)) (append-nil' (targets w))
    ∙ sym (noted_all-append limit found (targets w) (all_targets ws))
live_by limit false w found ws = refl

-- the live words from one on that are left
pub live-step : (limit : ℕ) (live : List Bool) (memory : List Word) (k from : ℕ) (b : Bool) (w : Word) (found found' : List ℕ) →
    slice_get live k ≡ Some b → slice_get memory (from + k) ≡ Some w →
    found' ≡ noted_all limit found (all_targets (cond b (w ∷ []) [])) →
    noted_all limit found' (all_targets (chosen (drop (k + 1) live) (drop (from + (k + 1)) memory)))
    ≡ noted_all limit found (all_targets (chosen (drop k live) (drop (from + k) memory)))
live-step limit live memory k from b w found found' e f g =
    let q : from + k + 1 ≡ from + (k + 1) = omega arith in
    let m : drop (from + k) memory ≡ w ∷ drop (from + (k + 1)) memory = drop-get memory (from + k) w f ∙ ap (λ n. w ∷ drop n memory) q in
    let c = chosen-step live memory k from b w (drop-get live k b e) m in
    ap (λ xs. noted_all limit xs (all_targets (chosen (drop (k + 1) live) (drop (from + (k + 1)) memory)))) g
    ∙ live_by limit b w found (chosen (drop (k + 1) live) (drop (from + (k + 1)) memory))
    ∙ ap (λ ws. noted_all limit found (all_targets ws)) (sym c)

-- the same of registers
pub registers-step : (limit : ℕ) (live : ℕ → Bool) (a : ℕ) (ws : List Word) (w : Word) (found found' : List ℕ) →
    slice_get ws a ≡ Some w → found' ≡ noted_all limit found (all_targets (cond (live a) (w ∷ []) [])) →
    noted_all limit found' (all_targets (chosen_from live (a + 1) (drop (a + 1) ws)))
    ≡ noted_all limit found (all_targets (chosen_from live a (drop a ws)))
registers-step limit live a ws w found found' e f =
    ap (λ xs. noted_all limit xs (all_targets (chosen_from live (a + 1) (drop (a + 1) ws)))) f
    ∙ live_by limit (live a) w found (chosen_from live (a + 1) (drop (a + 1) ws))
    ∙ ap (λ us. noted_all limit found (all_targets (chosen_from live a us))) (sym (drop-get ws a w e))

none-live : (live : ℕ → Bool) (a : ℕ) (ws : List Word) → ((b : ℕ) → a ≤ b → live b ≡ false) → chosen_from live a ws ≡ []
none-live live a [] h = refl
none-live live a (w ∷ ws) h =
    ap (λ v. cond v (w ∷ chosen_from live (a + 1) ws) (chosen_from live (a + 1) ws)) (h a (omega arith))
    ∙ none-live live (a + 1) ws (λ b le. h b (omega arith))

pub registers-end : (limit : ℕ) (live : ℕ → Bool) (a : ℕ) (ws : List Word) (found : List ℕ) →
    ((b : ℕ) → a ≤ b → live b ≡ false) → noted_all limit found (all_targets (chosen_from live a ws)) ≡ found
registers-end limit live a ws found h = ap (λ us. noted_all limit found (all_targets us)) (none-live live a ws h)

-- the static objects from one on
pub statics-step : (limit : ℕ) (statics : List Static) (k at size : ℕ) (s : Static) (found found' : List ℕ) → k < length statics →
    s ≡ get_or statics k s → size ≡ static_size s → found' ≡ noted limit found at →
    noted_all limit found' (addresses_from (at + size) (drop (k + 1) statics))
    ≡ noted_all limit found (addresses_from at (drop k statics))
statics-step limit statics k at size s found found' lt e z f =
    ap (λ xs. noted_all limit xs (addresses_from (at + size) (drop (k + 1) statics))) f
    ∙ ap (λ n. noted_all limit (noted limit found at) (addresses_from (at + n) (drop (k + 1) statics))) z
    ∙ sym (ap (λ ss. noted_all limit found (addresses_from at ss)) (drop_more statics k s lt ∙ ap (λ x. x ∷ drop (k + 1) statics) (sym e)))

skipped : (live : ℕ → Bool) (p a : ℕ) (ws : List Word) → live p ≡ false →
    chosen_from live (p + 1) (drop (suc a) ws) ≡ chosen_from live p (drop a ws)
skipped live p zero [] e = refl
skipped live p zero (w ∷ ws) e = sym (ap (λ v. cond v (w ∷ chosen_from live (p + 1) ws) (chosen_from live (p + 1) ws)) e)
skipped live p (suc a) [] e = refl
skipped live p (suc a) (w ∷ ws) e = skipped live p a ws e

pub registers-skip : (limit : ℕ) (live : ℕ → Bool) (a : ℕ) (ws : List Word) (found : List ℕ) → live a ≡ false →
    noted_all limit found (all_targets (chosen_from live (a + 1) (drop (a + 1) ws)))
    ≡ noted_all limit found (all_targets (chosen_from live a (drop a ws)))
registers-skip limit live a ws found e =
    let q : a + 1 ≡ suc a = omega arith in
    ap (λ n. noted_all limit found (all_targets (chosen_from live (a + 1) (drop n ws)))) q
    ∙ ap (λ us. noted_all limit found (all_targets us)) (skipped live a a ws e)

-- the words of an object that stand in the heap
object-cut : (heap : List Word) (at n end : ℕ) → at < length heap → end ≡ min (at + n) (length heap) →
    targets_from heap at (end - at) ≡ targets_from heap at n
object-cut heap at n end lt e =
    ⊎_elim
    (λ h. let q : end - at ≡ n = omega arith in ap (targets_from heap at) q)
    (λ h. sym (targets-cut heap (end - at) n at (omega arith) (omega arith)))
    (cases_lt (at + n) (length heap))

pub object-words : (memory : List Word) (limit at end n : ℕ) (w : Word) → limit ≤ length memory → slice_get memory at ≡ Some w →
    n ≡ pointing_words (Some w) → end ≡ min (at + n) limit →
    targets_from (take limit memory) at (end - at)
    ≡ targets_from (take limit memory) at (pointing_words (slice_get (take limit memory) at))
object-words memory limit at end n w le r p e =
    let heap = take limit memory in
    let size : length heap ≡ limit = length-take-le limit memory le in
    ⊎_elim
    (λ lt.
    let read : slice_get heap at ≡ Some w = get-take limit at memory lt ∙ r in
    let cut = object-cut heap at n end (omega arith) (e ∙ ap (min (at + n)) (sym size)) in
    cut ∙ ap (targets_from heap at) (p ∙ ap pointing_words (sym read)))
    (λ ge.
    let z : end - at ≡ 0 = omega arith in
    ap (targets_from heap at) z ∙ sym (targets-beyond heap at (pointing_words (slice_get heap at)) (omega arith)))
    (cases_lt at limit)

pub all_targets-append : (us ws : List Word) → all_targets (us ++ ws) ≡ all_targets us ++ all_targets ws
all_targets-append [] ws = refl
all_targets-append (u ∷ us) ws = ap (λ ts. targets u ++ ts) (all_targets-append us ws) ∙ sym (append_assoc (targets u) (all_targets us) (all_targets ws))

pub one-live : (b : Bool) (w : Word) → b ≡ true → targets w ≡ all_targets (cond b (w ∷ []) [])
one-live b w e = sym (ap (λ v. all_targets (cond v (w ∷ []) [])) e ∙ append-nil' (targets w))

pub not-live : (limit : ℕ) (found : List ℕ) (b : Bool) (w : Word) → b ≡ false → found ≡ noted_all limit found (all_targets (cond b (w ∷ []) []))
not-live limit found b w e = sym (ap (λ v. noted_all limit found (all_targets (cond v (w ∷ []) []))) e)

-- the first words of a heap
nothing : (n : ℕ) → all_targets (take n []) ≡ []
nothing zero = refl
nothing (suc n) = refl

targets-all : (heap : List Word) (at n : ℕ) → targets_from heap at n ≡ all_targets (take n (drop at heap))
targets-all heap at zero = refl
targets-all heap at (suc n) =
    ⊎_elim
    (λ lt.
    let h = get-some heap at lt in
    ap (λ (o : Option Word). on_some o [] targets ++ targets_from heap (at + 1) n) h.1
    ∙ ap (λ ts. targets h.0 ++ ts) (targets-all heap (at + 1) n)
    ∙ sym (ap (λ ws. all_targets (take (suc n) ws)) (drop-get heap at h.0 h.1)))
    (λ ge. targets-beyond heap at (suc n) ge ∙ sym (ap (λ ws. all_targets (take (suc n) ws)) (drop_all at heap ge)))
    (cases_lt at (length heap))

pub first-targets : (heap : List Word) (n limit : ℕ) → length heap ≡ limit →
    targets_from heap 0 (min n limit - 0) ≡ all_targets (take n heap)
first-targets heap n limit e =
    ⊎_elim
    (λ lt. let q : min n limit - 0 ≡ n = omega arith in ap (targets_from heap 0) q)
    (λ ge. let q : min n limit - 0 ≡ limit = omega arith in ap (targets_from heap 0) q ∙ sym (targets-cut heap limit n 0 ge (omega arith)))
    (cases_lt n limit)
    ∙ targets-all heap 0 n
