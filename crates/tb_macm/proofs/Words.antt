-- Words that are put one behind the other.
use Rattle.std.proofs.Common.{◌≡◌, ℕ, zero, suc, ◌+◌, ◌<◌, List, [], ◌∷◌, ◌++◌, length, replicate, slice_set, refl, sym, ap, ◌∙◌, arith, ◌%◌}
use Rattle.tb_mac.specs.declared.word.Word.{Word}
use Rattle.tb_mac.specs.declared.word.Word.TheVariants.{Header, Raw}
use Rattle.tb_mac.specs.MacStep.{put_words}
use Rattle.tb_mac.specs.Objects.{new_string, padding, raw_size}
use Rattle.tb_mac.specs.Words.{zero_word}

-- some copies of a word are still to be put, from k up to n, and then the memory is this one
pub record Filling (k n : ℕ) (w : Word) (memory goal : List Word) : Type 0 where
  pub left : ℕ
  pub ends : k + left ≡ n
  pub rest : put_words k (replicate left w) memory ≡ goal

pub filling_start : (at count : ℕ) (w : Word) (memory : List Word) → Filling at (at + count) w memory (put_words at (replicate count w) memory)
filling_start at count w memory = record { left = count; ends = refl; rest = refl }

filling_by : (left k n : ℕ) (w : Word) (memory goal : List Word) → k < n → k + left ≡ n → put_words k (replicate left w) memory ≡ goal → Filling (k + 1) n w (slice_set memory k w) goal
filling_by zero k n w memory goal lt e h = absurd (omega (arith, lt, e))
filling_by (suc left) k n w memory goal lt e h = record { left = left; ends = omega (arith, e); rest = h }

pub filling_step : (k n : ℕ) (w : Word) (memory goal : List Word) → k < n → Filling k n w memory goal → Filling (k + 1) n w (slice_set memory k w) goal
filling_step k n w memory goal lt f = filling_by f.left k n w memory goal lt f.ends f.rest

filled_by : (left k n : ℕ) (w : Word) (memory goal : List Word) → k ≡ n → k + left ≡ n → put_words k (replicate left w) memory ≡ goal → memory ≡ goal
filled_by zero k n w memory goal e f h = h
filled_by (suc left) k n w memory goal e f h = absurd (omega (arith, e, f))

pub filled : (k n : ℕ) (w : Word) (memory goal : List Word) → k ≡ n → Filling k n w memory goal → memory ≡ goal
filled k n w memory goal e f = filled_by f.left k n w memory goal e f.ends f.rest

-- copies of a word, and then others behind them
pub put_copies : (n at : ℕ) (w : Word) (ys memory : List Word) → put_words at (replicate n w ++ ys) memory ≡ put_words (at + n) ys (put_words at (replicate n w) memory)
put_copies zero at w ys memory = let k : at ≡ at + 0 = omega arith in ap (λ (i : ℕ). put_words i ys memory) k
put_copies (suc n) at w ys memory =
    let e : put_words (at + 1) (replicate n w ++ ys) (slice_set memory at w) ≡ put_words (at + 1 + n) ys (put_words (at + 1) (replicate n w) (slice_set memory at w)) = put_copies n (at + 1) w ys (slice_set memory at w) in
    let k : at + 1 + n ≡ at + suc n = omega arith in
    e ∙ ap (λ (i : ℕ). put_words i ys (put_words (at + 1) (replicate n w) (slice_set memory at w))) k

pub length_copies : (n : ℕ) (w : Word) → length (replicate n w) ≡ n
length_copies zero w = refl
length_copies (suc n) w = ap (λ k. suc k) (length_copies n w)

pub length_copies_behind : (n k : ℕ) (w z : Word) → length (replicate n w ++ replicate k z) ≡ n + k
length_copies_behind zero k w z = let e : length (replicate k z) ≡ k = length_copies k z in omega (arith, e)
length_copies_behind (suc n) k w z = let e : length (replicate n w ++ replicate k z) ≡ n + k = length_copies_behind n k w z in omega (arith, e)

pub length_new_string : (n : ℕ) → length (new_string n) ≡ raw_size n + (raw_size n + 1) % 2 + 1
length_new_string n =
    let e : length (replicate (raw_size n) (Raw (0 ∷ 0 ∷ 0 ∷ 0 ∷ [])) ++ replicate ((raw_size n + 1) % 2) zero_word) ≡ raw_size n + (raw_size n + 1) % 2 = length_copies_behind (raw_size n) ((raw_size n + 1) % 2) (Raw (0 ∷ 0 ∷ 0 ∷ 0 ∷ [])) zero_word in
    omega (arith, e)

-- the words of a new string, laid out one after the other
pub put_new_string : (n at : ℕ) (memory : List Word) → put_words (at + 1 + raw_size n) (replicate ((raw_size n + 1) % 2) zero_word) (put_words (at + 1) (replicate (raw_size n) (Raw (0 ∷ 0 ∷ 0 ∷ 0 ∷ []))) (slice_set memory at (Header 34 n))) ≡ put_words at (new_string n) memory
put_new_string n at memory = sym (put_copies (raw_size n) (at + 1) (Raw (0 ∷ 0 ∷ 0 ∷ 0 ∷ [])) (padding (raw_size n + 1)) (slice_set memory at (Header 34 n)))
