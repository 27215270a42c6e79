-- Sizes and words of static objects, one object after the other.
use Rattle.std.proofs.Common.{◌≡◌, ℕ, zero, suc, ◌+◌, ◌-◌, ◌*◌, ◌<◌, ◌≤◌, ◌/◌, ◌%◌, replicate, List, [], ◌∷◌, ◌++◌, map, length, take, drop, get_or, slice_set, refl, sym, ap, ◌∙◌, arith, append_assoc, append-nil}
use Rattle.tb_prim.specs.declared.constant.Static.{Static}
use Rattle.tb_mac.specs.declared.word.Word.{Word}
use Rattle.tb_mac.specs.declared.word.Word.TheVariants.{Header, Raw}
use Rattle.tb_mac.specs.Layout.{static_size, statics_size, addresses_from, static_words, all_words, const_word, addresses, start_size, start_words}
use Rattle.tb_mac.specs.declared.code.Parts.{Parts}
use Rattle.tb_mac.specs.MacStep.{put_words}
use Rattle.tb_mac.specs.Objects.{raw_words, raw_size, vector_words, bytes_words}
use Rattle.tb_mac.specs.Words.{undefined, zero_word}
use Rattle.tb_macm.specs.calls.Loads.{laid_out}
use Rattle.tb_macm.proofs.Words.{length_copies}
use Rattle.std.proofs.Math.Seq.{take-length}
use Rattle.std.proofs.lemmas.List.{get_or-map, length-append, length-drop, length-map}
use Rattle.tb_prim.specs.declared.constant.Const.{Const}
use Rattle.tb_macm.proofs.Lists.{Putting, putting_step, drop_all, drop_here}

-- so many words before object number k, of so many in all
pub record Summing (sum k total : ℕ) (statics : List Static) : Type 0 where
  pub rest : sum + statics_size (drop k statics) ≡ total

pub summing_step : (sum k total size : ℕ) (statics : List Static) (s : Static) → k < length statics → s ≡ get_or statics k s → size ≡ static_size s → Summing sum k total statics → Summing (sum + size) (k + 1) total statics
summing_step sum k total size statics s lt h e p =
    let f : statics_size (drop k statics) ≡ static_size s + statics_size (drop (k + 1) statics) = ap statics_size (drop_here statics k s lt h) in
    let g : sum + statics_size (drop k statics) ≡ total = p.rest in
    record { rest = omega (arith, e, f, g) }

pub summing_end : (sum k total : ℕ) (statics : List Static) → k ≡ length statics → Summing sum k total statics → sum ≡ total
summing_end sum k total statics e p =
    let f : statics_size (drop k statics) ≡ 0 = ap statics_size (drop_all statics k e) in
    let g : sum + statics_size (drop k statics) ≡ total = p.rest in
    omega (arith, f, g)

-- the next object fits
pub summing_fits : (sum k total : ℕ) (statics : List Static) (s : Static) → k < length statics → s ≡ get_or statics k s → Summing sum k total statics → sum + static_size s ≤ total
summing_fits sum k total statics s lt h p =
    let f : statics_size (drop k statics) ≡ static_size s + statics_size (drop (k + 1) statics) = ap statics_size (drop_here statics k s lt h) in
    let g : sum + statics_size (drop k statics) ≡ total = p.rest in
    omega (arith, f, g)

-- the addresses before object number k
pub record Addressing (all : List ℕ) (next k : ℕ) (statics : List Static) (goal : List ℕ) : Type 0 where
  pub rest : all ++ addresses_from next (drop k statics) ≡ goal

pub addressing_step : (all : List ℕ) (next k size : ℕ) (statics : List Static) (goal : List ℕ) (s : Static) → k < length statics → s ≡ get_or statics k s → size ≡ static_size s → Addressing all next k statics goal → Addressing (all ++ next ∷ []) (next + size) (k + 1) statics goal
addressing_step all next k size statics goal s lt h e p =
    let f : addresses_from next (drop k statics) ≡ next ∷ addresses_from (next + static_size s) (drop (k + 1) statics) = ap (addresses_from next) (drop_here statics k s lt h) in
    record {
      rest =
          append_assoc all (next ∷ []) (addresses_from (next + size) (drop (k + 1) statics))
          ∙ ap (λ (n : ℕ). all ++ (next ∷ addresses_from (next + n) (drop (k + 1) statics))) e
          ∙ sym (ap (λ (as' : List ℕ). all ++ as') f) ∙ p.rest;
    }

pub addressing_end : (all : List ℕ) (next k : ℕ) (statics : List Static) (goal : List ℕ) → k ≡ length statics → Addressing all next k statics goal → all ≡ goal
addressing_end all next k statics goal e p =
    sym (append-nil all) ∙ sym (ap (λ (ss : List Static). all ++ addresses_from next ss) (drop_all statics k e)) ∙ p.rest

-- the raw words from number k on are still to be put
pub record Packing (at k : ℕ) (bytes : List ℕ) (memory goal : List Word) : Type 0 where
  pub rest : put_words (at + k) (raw_words (drop (4 * k) bytes)) memory ≡ goal

pub packing_start : (at : ℕ) (bytes : List ℕ) (memory : List Word) → Packing at 0 bytes memory (put_words at (raw_words bytes) memory)
packing_start at bytes memory = let e : at + 0 ≡ at = omega arith in record { rest = ap (λ (i : ℕ). put_words i (raw_words bytes) memory) e }

raw_first : (bytes : List ℕ) → 0 < length bytes → raw_words bytes ≡ Raw (get_or bytes 0 0 ∷ get_or bytes 1 0 ∷ get_or bytes 2 0 ∷ get_or bytes 3 0 ∷ []) ∷ raw_words (drop 4 bytes)
raw_first [] lt = absurd (omega (arith, lt))
raw_first (a ∷ []) lt = refl
raw_first (a ∷ b ∷ []) lt = refl
raw_first (a ∷ b ∷ c ∷ []) lt = refl
raw_first (a ∷ b ∷ c ∷ d ∷ bytes) lt = refl

get_or_drop : (bytes : List ℕ) (i j : ℕ) → get_or (drop i bytes) j 0 ≡ get_or bytes (i + j) 0
get_or_drop [] zero j = let e : j ≡ 0 + j = omega arith in ap (λ (k : ℕ). get_or {A = ℕ} [] k 0) e
get_or_drop [] (suc i) j = grind arith
get_or_drop (b ∷ bytes) zero j = let e : j ≡ 0 + j = omega arith in ap (λ (k : ℕ). get_or (b ∷ bytes) k 0) e
get_or_drop (b ∷ bytes) (suc i) j = let e : suc (i + j) ≡ suc i + j = omega arith in get_or_drop bytes i j ∙ ap (λ (k : ℕ). get_or (b ∷ bytes) k 0) e

drop_past : {X : Type 0} (ws : List X) (k : ℕ) → length ws ≤ k → drop k ws ≡ []
drop_past [] zero h = refl
drop_past [] (suc k) h = refl
drop_past (w ∷ ws) zero h = absurd (omega (arith, h))
drop_past (w ∷ ws) (suc k) h = drop_past ws k (omega (arith, h))

drop_none : (k : ℕ) → drop {A = ℕ} k [] ≡ []
drop_none zero = refl
drop_none (suc k) = refl

drop_drop : (bytes : List ℕ) (i j : ℕ) → drop j (drop i bytes) ≡ drop (i + j) bytes
drop_drop bytes zero j = let e : j ≡ 0 + j = omega arith in ap (λ (k : ℕ). drop k bytes) e
drop_drop [] (suc i) j = drop_none j ∙ sym (drop_none (suc i + j))
drop_drop (b ∷ bytes) (suc i) j = let e : suc (i + j) ≡ suc i + j = omega arith in drop_drop bytes i j ∙ ap (λ (k : ℕ). drop k (b ∷ bytes)) e

abbrev pub raw_at : List ℕ → ℕ → Word
raw_at bytes i = Raw (get_or bytes i 0 ∷ get_or bytes (i + 1) 0 ∷ get_or bytes (i + 2) 0 ∷ get_or bytes (i + 3) 0 ∷ [])

raw_next : (bytes : List ℕ) (i : ℕ) → i < length bytes → raw_words (drop i bytes) ≡ raw_at bytes i ∷ raw_words (drop (i + 4) bytes)
raw_next bytes i lt =
    let z : get_or (drop i bytes) 0 0 ≡ get_or bytes i 0 = get_or_drop bytes i 0 ∙ ap (λ (k : ℕ). get_or bytes k 0) (omega arith) in
    let a = get_or_drop bytes i 1 in
    let b = get_or_drop bytes i 2 in
    let d = get_or_drop bytes i 3 in
    let f = drop_drop bytes i 4 in
    raw_first (drop i bytes) (omega (arith, lt, length-drop i bytes)) ∙ cc

pub packing_step : (at k : ℕ) (bytes : List ℕ) (memory goal : List Word) → k < (length bytes + 3) / 4 → Packing at k bytes memory goal → Packing at (k + 1) bytes (slice_set memory (at + k) (raw_at bytes (4 * k))) goal
packing_step at k bytes memory goal lt p =
    let w = raw_at bytes (4 * k) in
    let g : at + k + 1 ≡ at + (k + 1) = omega arith in
    let q : 4 * (k + 1) ≡ 4 * k + 4 = omega arith in
    let n : raw_words (drop (4 * k) bytes) ≡ w ∷ raw_words (drop (4 * k + 4) bytes) = raw_next bytes (4 * k) (omega (arith, lt)) in
    let a : put_words (at + (k + 1)) (raw_words (drop (4 * (k + 1)) bytes)) (slice_set memory (at + k) w) ≡ put_words (at + k + 1) (raw_words (drop (4 * (k + 1)) bytes)) (slice_set memory (at + k) w) =
    ap (λ (i : ℕ). put_words i (raw_words (drop (4 * (k + 1)) bytes)) (slice_set memory (at + k) w)) (sym g) in
    let b : put_words (at + k + 1) (raw_words (drop (4 * (k + 1)) bytes)) (slice_set memory (at + k) w) ≡ put_words (at + k) (w ∷ raw_words (drop (4 * k + 4) bytes)) memory =
    ap (λ (i : ℕ). put_words (at + k + 1) (raw_words (drop i bytes)) (slice_set memory (at + k) w)) q in
    let d : put_words (at + k) (w ∷ raw_words (drop (4 * k + 4) bytes)) memory ≡ put_words (at + k) (raw_words (drop (4 * k) bytes)) memory =
    ap (λ (ws : List Word). put_words (at + k) ws memory) (sym n) in
    record { rest = a ∙ b ∙ d ∙ p.rest }

pub packing_end : (at k : ℕ) (bytes : List ℕ) (memory goal : List Word) → k ≡ (length bytes + 3) / 4 → Packing at k bytes memory goal → memory ≡ goal
packing_end at k bytes memory goal e p =
    let f : raw_words (drop (4 * k) bytes) ≡ [] = ap raw_words (drop_past bytes (4 * k) (omega (arith, e))) in
    sym (ap (λ (ws : List Word). put_words (at + k) ws memory) f) ∙ p.rest

-- the next constant of some
pub mapped_step : (f : Const → Word) (at k : ℕ) (constants : List Const) (memory goal : List Word) (d : Const) (w : Word) → k < length constants → w ≡ f (get_or constants k d) → Putting at k (map f constants) memory goal → Putting at (k + 1) (map f constants) (slice_set memory (at + k) w) goal
mapped_step f at k constants memory goal d w lt e p =
    putting_step at k (map f constants) memory goal w (omega (arith, lt, length-map constants f)) (e ∙ sym (get_or-map f constants k d w lt)) p

-- words, and others behind them
pub put_behind : (at : ℕ) (xs ys memory : List Word) → put_words at (xs ++ ys) memory ≡ put_words (at + length xs) ys (put_words at xs memory)
put_behind at [] ys memory = let e : at ≡ at + 0 = omega arith in ap (λ (i : ℕ). put_words i ys memory) e
put_behind at (x ∷ xs) ys memory =
    let e : at + 1 + length xs ≡ at + suc (length xs) = omega arith in
    put_behind (at + 1) xs ys (slice_set memory at x) ∙ ap (λ (i : ℕ). put_words i ys (put_words (at + 1) xs (slice_set memory at x))) e

put_counted : (at n : ℕ) (xs ys memory : List Word) → length xs ≡ n → put_words (at + n) ys (put_words at xs memory) ≡ put_words at (xs ++ ys) memory
put_counted at n xs ys memory e = sym (ap (λ (i : ℕ). put_words (at + i) ys (put_words at xs memory)) e) ∙ sym (put_behind at xs ys memory)

pub put_vector_words : (f : Const → Word) (cs : List Const) (at : ℕ) (memory : List Word) → put_words (at + 1 + length cs) (replicate ((length cs + 1) % 2) zero_word) (put_words (at + 1) (map f cs) (slice_set memory at (Header 18 (length cs)))) ≡ put_words at (vector_words (map f cs)) memory
put_vector_words f cs at memory =
    let n = length cs in
    let e : length (map f cs) ≡ n = length-map cs f in
    put_counted (at + 1) n (map f cs) (replicate ((n + 1) % 2) zero_word) (slice_set memory at (Header 18 n)) e
    ∙ sym (ap (λ (k : ℕ). put_words (at + 1) (map f cs ++ replicate ((k + 1) % 2) zero_word) (slice_set memory at (Header 18 k))) e)

pub length_raw_words : (bytes : List ℕ) → length (raw_words bytes) ≡ raw_size (length bytes)
length_raw_words [] = refl
length_raw_words (a ∷ []) = refl
length_raw_words (a ∷ b ∷ []) = refl
length_raw_words (a ∷ b ∷ c ∷ []) = refl
length_raw_words (a ∷ b ∷ c ∷ d ∷ bytes) = let e : length (raw_words bytes) ≡ (length bytes + 3) / 4 = length_raw_words bytes in omega (arith, e)

pub put_bytes_words : (kind at : ℕ) (bytes : List ℕ) (memory : List Word) → put_words (at + 1 + raw_size (length bytes)) (replicate ((raw_size (length bytes) + 1) % 2) zero_word) (put_words (at + 1) (raw_words bytes) (slice_set memory at (Header kind (length bytes)))) ≡ put_words at (bytes_words kind bytes) memory
put_bytes_words kind at bytes memory =
    let r = raw_size (length bytes) in
    put_counted (at + 1) r (raw_words bytes) (replicate ((r + 1) % 2) zero_word) (slice_set memory at (Header kind (length bytes))) (length_raw_words bytes)

length_behind : (xs ys : List Word) (n k : ℕ) → length xs ≡ n → length ys ≡ k → length (xs ++ ys) ≡ n + k
length_behind xs ys n k e f = omega (arith, length-append xs ys, e, f)

-- a static object has as many words as its size says
pub length_static_words : (statics : List Static) (at : List ℕ) (s : Static) → length (static_words statics at s) ≡ static_size s
length_static_words statics at (Static.Pair a b) = refl
length_static_words statics at (Static.Vector cs) =
    let ws = map (const_word statics at) cs in
    let e : length ws ≡ length cs = length-map cs (const_word statics at) in
    let f : length (replicate ((length ws + 1) % 2) zero_word) ≡ (length cs + 1) % 2 = length_copies ((length ws + 1) % 2) zero_word ∙ ap (λ (n : ℕ). (n + 1) % 2) e in
    let g = length_behind ws (replicate ((length ws + 1) % 2) zero_word) (length cs) ((length cs + 1) % 2) e f in
    omega (arith, g)
length_static_words statics at (Static.Str bytes) =
    let r = raw_size (length bytes) in
    let g = length_behind (raw_words bytes) (replicate ((r + 1) % 2) zero_word) r ((r + 1) % 2) (length_raw_words bytes) (length_copies ((r + 1) % 2) zero_word) in
    omega (arith, g)
length_static_words statics at (Static.Sym bytes) =
    let r = raw_size (length bytes) in
    let g = length_behind (raw_words bytes) (replicate ((r + 1) % 2) zero_word) r ((r + 1) % 2) (length_raw_words bytes) (length_copies ((r + 1) % 2) zero_word) in
    omega (arith, g)

-- the static objects from number k on are still to be put
pub record Placing (next k : ℕ) (statics : List Static) (addresses : List ℕ) (memory goal : List Word) : Type 0 where
  pub rest : put_words next (all_words statics addresses (drop k statics)) memory ≡ goal

pub placing_step : (next k size : ℕ) (statics : List Static) (addresses : List ℕ) (memory memory' goal : List Word) (s : Static) → k < length statics → s ≡ get_or statics k s → size ≡ static_size s → memory' ≡ put_words next (static_words statics addresses s) memory → Placing next k statics addresses memory goal → Placing (next + size) (k + 1) statics addresses memory' goal
placing_step next k size statics addresses memory memory' goal s lt h e m p =
    let here = static_words statics addresses s in
    let later = all_words statics addresses (drop (k + 1) statics) in
    let l : length here ≡ size = length_static_words statics addresses s ∙ sym e in
    let a : put_words (next + size) later memory' ≡ put_words (next + size) later (put_words next here memory) = ap (λ (x : List Word). put_words (next + size) later x) m in
    let b = put_counted next size here later memory l in
    let d : put_words next (here ++ later) memory ≡ put_words next (all_words statics addresses (drop k statics)) memory =
    ap (λ (ss : List Static). put_words next (all_words statics addresses ss) memory) (sym (drop_here statics k s lt h)) in
    record { rest = a ∙ b ∙ d ∙ p.rest }

pub placing_end : (next k : ℕ) (statics : List Static) (addresses : List ℕ) (memory goal : List Word) → k ≡ length statics → Placing next k statics addresses memory goal → memory ≡ goal
placing_end next k statics addresses memory goal e p =
    sym (ap (λ (ss : List Static). put_words next (all_words statics addresses ss) memory) (drop_all statics k e)) ∙ p.rest

-- globals, padding and static objects
pub put_start_words : (n : ℕ) (statics : List Static) (addresses : List ℕ) (memory : List Word) → put_words (n + n % 2) (all_words statics addresses statics) (put_words n (replicate (n % 2) zero_word) (put_words 0 (replicate n undefined) memory)) ≡ put_words 0 (laid_out n statics addresses) memory
put_start_words n statics addresses memory =
    let us = replicate n undefined in
    let zs = replicate (n % 2) zero_word in
    let later = all_words statics addresses statics in
    let z : (k : ℕ) → 0 + k ≡ k = λ k. omega arith in
    let a : put_words n zs (put_words 0 us memory) ≡ put_words 0 (us ++ zs) memory =
    ap (λ (i : ℕ). put_words i zs (put_words 0 us memory)) (sym (z n)) ∙ put_counted 0 n us zs memory (length_copies n undefined) in
    let l : length (us ++ zs) ≡ n + n % 2 = length_behind us zs n (n % 2) (length_copies n undefined) (length_copies (n % 2) zero_word) in
    ap (λ (x : List Word). put_words (n + n % 2) later x) a
    ∙ ap (λ (i : ℕ). put_words i later (put_words 0 (us ++ zs) memory)) (sym (z (n + n % 2)))
    ∙ put_counted 0 (n + n % 2) (us ++ zs) later memory l

set_at_end : (front back : List Word) (w x : Word) → slice_set (front ++ (w ∷ back)) (length front) x ≡ front ++ (x ∷ back)
set_at_end [] back w x = refl
set_at_end (y ∷ front) back w x = ap (λ (ws : List Word). y ∷ ws) (set_at_end front back w x)

length_all_words : (statics : List Static) (at : List ℕ) (ss : List Static) → length (all_words statics at ss) ≡ statics_size ss
length_all_words statics at [] = refl
length_all_words statics at (s ∷ ss) = length_behind (static_words statics at s) (all_words statics at ss) (static_size s) (statics_size ss) (length_static_words statics at s) (length_all_words statics at ss)

length_laid_out : (n : ℕ) (statics : List Static) (at : List ℕ) → length (laid_out n statics at) ≡ n + n % 2 + statics_size statics
length_laid_out n statics at =
    length_behind (replicate n undefined ++ replicate (n % 2) zero_word) (all_words statics at statics) (n + n % 2) (statics_size statics)
    (length_behind (replicate n undefined) (replicate (n % 2) zero_word) n (n % 2) (length_copies n undefined) (length_copies (n % 2) zero_word))
    (length_all_words statics at statics)

-- words that are put over copies of another, at their start
put_over : (ws front : List Word) (n : ℕ) (w : Word) → length ws ≤ n → put_words (length front) ws (front ++ replicate n w) ≡ front ++ (ws ++ replicate (n - length ws) w)
put_over [] front n w h = let e : n ≡ n - 0 = omega arith in ap (λ (k : ℕ). front ++ replicate k w) e
put_over (x ∷ ws) front zero w h = absurd (omega (arith, h))
put_over (x ∷ ws) front (suc n) w h =
    let a : slice_set (front ++ (w ∷ replicate n w)) (length front) x ≡ front ++ (x ∷ replicate n w) = set_at_end front (replicate n w) w x in
    let b : length (front ++ x ∷ []) ≡ length front + 1 = omega (arith, length-append front (x ∷ [])) in
    let d : put_words (length (front ++ x ∷ [])) ws ((front ++ x ∷ []) ++ replicate n w) ≡ (front ++ x ∷ []) ++ (ws ++ replicate (n - length ws) w) = put_over ws (front ++ x ∷ []) n w (omega (arith, h)) in
    let f : suc n - suc (length ws) ≡ n - length ws = omega arith in
    ap (λ (m : List Word). put_words (length front + 1) ws m) (a ∙ sym (append_assoc front (x ∷ []) (replicate n w)))
    ∙ sym (ap (λ (i : ℕ). put_words i ws ((front ++ x ∷ []) ++ replicate n w)) b) ∙ d
    ∙ append_assoc front (x ∷ []) (ws ++ replicate (n - length ws) w)
    ∙ ap (λ (k : ℕ). front ++ (x ∷ (ws ++ replicate k w))) (sym f)

put_first : (ws : List Word) (n : ℕ) → length ws ≤ n → put_words 0 ws (replicate n zero_word) ≡ ws ++ replicate (n - length ws) zero_word
put_first ws n h = put_over ws [] n zero_word h

-- the memory before the first step
pub start_memory : (parts : Parts) (heap : ℕ) → start_size parts ≤ heap → put_words 0 (laid_out (length parts.globals) parts.statics (addresses parts)) (replicate heap zero_word) ≡ start_words parts ++ replicate (heap - length (start_words parts)) zero_word
start_memory parts heap h =
    let l : length (start_words parts) ≡ start_size parts = length_laid_out (length parts.globals) parts.statics (addresses parts) in
    put_first (start_words parts) heap (omega (arith, h, l))

pub length_start_words : (parts : Parts) → length (start_words parts) ≡ start_size parts
length_start_words parts = length_laid_out (length parts.globals) parts.statics (addresses parts)

-- a slice of all of a vector, written back
pub whole_slice : (xs ys : List Word) (n : ℕ) → length xs ≡ n → length ys ≡ n → take n (xs ++ drop (length xs) ys) ≡ xs
whole_slice xs ys n e f =
    let d : drop (length xs) ys ≡ [] = drop_past ys (length xs) (omega (arith, e, f)) in
    ap (λ (zs : List Word). take n (xs ++ zs)) d ∙ ap (take n) (append-nil xs) ∙ ap (λ (k : ℕ). take k xs) (sym e) ∙ take-length xs
