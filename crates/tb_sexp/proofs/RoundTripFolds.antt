-- A name in lower case is an identifier where the name is, and stays as it is when it is folded again.
use Rattle.std.proofs.Common.{◌≡◌, ℕ, ◌+◌, ◌≤◌, Bool, true, cond, List, [], ◌∷◌, length, refl, ap, ◌∙◌, ⊎_elim, arith}
use Rattle.std.specs.Prelude.{◌||◌, nat_lt, codes, bytes_eq}
use Rattle.std.specs.Char.{to_ascii_lowercase}
use Rattle.std.specs.List.{list_all}
use Rattle.std.proofs.lemmas.Bool.{both_ways, ltb-true, ltb-false, le-ltb, or_cases, or_right, and_parts, and_from, cond_both, cond-true, cond-false, agree_below, agree_below_at}
use Rattle.std.proofs.lemmas.List.{length-map}
use Rattle.tb_sexp.specs.Bytes.{is_initial, is_subsequent, is_identifier, is_word, folded}
use Rattle.tb_sexp.specs.ReadData.{IsReadName}
use Rattle.tb_sexp.proofs.TokensWords.{identifier_of}

-- a test that holds of the lower case of each upper-case letter holds of the lower case of all that it holds of
lower_keeps : (test : ℕ → Bool) → agree_below (λ b. nat_lt b 65 || test (b + 32)) (λ b. true) 91 ≡ true → (b : ℕ) → test b ≡ true → test (to_ascii_lowercase b) ≡ true
lower_keeps test all b h =
    cond_both (nat_lt b 65) b (cond (nat_lt b 91) (b + 32) b) (λ n. test n ≡ true) (λ e. h)
    (λ high. cond_both (nat_lt b 91) (b + 32) b (λ n. test n ≡ true)
    (λ e. ⊎_elim (λ low. absurd (both_ways (nat_lt b 65) high low)) (λ t. t)
    (or_cases (nat_lt b 65) (test (b + 32)) (agree_below_at (λ c. nat_lt c 65 || test (c + 32)) (λ c. true) 91 b all (ltb-true b 91 e))))
    (λ e. h))

lower_initial : (b : ℕ) → is_initial b ≡ true → is_initial (to_ascii_lowercase b) ≡ true
lower_initial = lower_keeps is_initial refl

lower_subsequent : (b : ℕ) → is_subsequent b ≡ true → is_subsequent (to_ascii_lowercase b) ≡ true
lower_subsequent = lower_keeps is_subsequent refl

lower_others : (w : List ℕ) → list_all is_subsequent w ≡ true → list_all is_subsequent (folded w) ≡ true
lower_others [] h = refl
lower_others (b ∷ w) h =
    let parts = and_parts (is_subsequent b) (list_all is_subsequent w) h in
    and_from (is_subsequent (to_ascii_lowercase b)) (list_all is_subsequent (folded w)) (lower_subsequent b parts.0) (lower_others w parts.1)

word_identifier : (w : List ℕ) → is_word w ≡ true → is_identifier w ≡ true
word_identifier w h =
    or_right (bytes_eq w (codes "+")) (bytes_eq w (codes "-") || (bytes_eq w (codes "...") || is_word w))
    (or_right (bytes_eq w (codes "-")) (bytes_eq w (codes "...") || is_word w) (or_right (bytes_eq w (codes "...")) (is_word w) h))

folded_word : (b : ℕ) (w : List ℕ) → is_initial b ≡ true → list_all is_subsequent w ≡ true → is_identifier (folded (b ∷ w)) ≡ true
folded_word b w i s =
    word_identifier (folded (b ∷ w)) (and_from (is_initial (to_ascii_lowercase b)) (list_all is_subsequent (folded w)) (lower_initial b i) (lower_others w s))

folded_identifier : (w : List ℕ) → is_identifier w ≡ true → is_identifier (folded w) ≡ true
folded_identifier w h = identifier_of (λ v. is_identifier (folded v) ≡ true) refl refl refl folded_word w h

-- lower case is lower case
lower_twice : (b : ℕ) → to_ascii_lowercase (to_ascii_lowercase b) ≡ to_ascii_lowercase b
lower_twice b =
    cond_both (nat_lt b 65) b (cond (nat_lt b 91) (b + 32) b) (λ n. to_ascii_lowercase n ≡ n)
    (λ low. cond-true (nat_lt b 65) b (cond (nat_lt b 91) (b + 32) b) low)
    (λ high. cond_both (nat_lt b 91) (b + 32) b (λ n. to_ascii_lowercase n ≡ n)
    (λ e. let from = ltb-false b 65 high in
    cond-false (nat_lt (b + 32) 65) (b + 32) (cond (nat_lt (b + 32) 91) (b + 32 + 32) (b + 32)) (le-ltb (b + 32) 65 (omega arith))
    ∙ cond-false (nat_lt (b + 32) 91) (b + 32 + 32) (b + 32) (le-ltb (b + 32) 91 (omega arith)))
    (λ e. cond-false (nat_lt b 65) b (cond (nat_lt b 91) (b + 32) b) high ∙ cond-false (nat_lt b 91) (b + 32) b e))

folded_twice : (w : List ℕ) → folded (folded w) ≡ folded w
folded_twice [] = refl
folded_twice (b ∷ w) = ap (λ c. c ∷ folded (folded w)) (lower_twice b) ∙ ap (λ v. to_ascii_lowercase b ∷ v) (folded_twice w)

-- the name that a word spells
pub folded_name : (w : List ℕ) → is_identifier w ≡ true → length w ≤ 255 → IsReadName (folded w)
folded_name w h short =
    let size = length-map w to_ascii_lowercase in
    record { identifier = folded_identifier w h; short = omega arith; lower = folded_twice w }
