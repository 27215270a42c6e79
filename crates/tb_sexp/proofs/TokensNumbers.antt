-- Numbers are read whole, and so is what stands behind `#` up to a delimiter.
use Rattle.std.proofs.Common.{◌≡◌, ℕ, suc, ◌+◌, ◌<◌, ◌≤◌, Bool, true, false, cond, List, [], ◌∷◌, ◌++◌, length, Some, None, Ok, Err, refl, sym, ap, ◌∙◌, subst, arith}
use Rattle.std.specs.Prelude.{◌==◌, ◌||◌, ◌&&◌, nat_lt, codes, bytes_eq}
use Rattle.std.specs.Char.{to_ascii_lowercase}
use Rattle.std.specs.List.{list_all}
use Rattle.std.proofs.lemmas.Bool.{false≢true, both_ways, ne_eqb, le-ltb, ltb-true, or_from, and_parts, and_from, and_left, cond_both, cond-true, cond-false, false_from_ne_true, agree_below_at}
use Rattle.std.proofs.lemmas.Bool.Decides.{nat_tests}
use Rattle.std.proofs.lemmas.Option.{same_Some}
use Rattle.tb_sexp.specs.declared.token.Token.TheVariants as token
use Rattle.tb_sexp.specs.declared.token.Fault.TheVariants.{Syntax}
use Rattle.tb_sexp.specs.Bytes.{is_delimiter, is_initial, is_subsequent, is_identifier, is_word}
use Rattle.tb_sexp.specs.calls.Scanning.{run_length}
use Rattle.tb_sexp.specs.Numbers.{base_of, are_digits, digit_of, value_of}
use Rattle.tb_sexp.specs.calls.Lexing.{based_of, character_at, fixnum_of, hashed_of, name_of, number_of, run, sized, token_at, truth_of, digits_of, is_negative}
use Rattle.tb_sexp.specs.Tokens.{EndsWord, Prefix, decimal, based, Sign, unsigned, plus, minus, IsNumeral, numeral}
use Rattle.tb_sexp.proofs.TokensBytes.{EachOf, delimiter_of, digit_clear, apart_by, Clear, clear_all, run_passed, run_taken}
use Rattle.tb_sexp.proofs.TokensWords.{IsPlain, IsRun, run_only}

-- digits
abbrev pub is_digit_of : ℕ → ℕ → Bool
is_digit_of base d = nat_lt (digit_of d) base

-- one or more digits, the first of them apart
pub record Digits (base : ℕ) (ds : List ℕ) : Type 0 where
  pub first : ℕ
  pub others : List ℕ
  pub whole : ds ≡ first ∷ others
  pub digit : is_digit_of base first ≡ true
  pub digits : list_all (is_digit_of base) others ≡ true

pub digits_are : (base : ℕ) (ds : List ℕ) → are_digits base ds ≡ true → Digits base ds
digits_are base [] h = absurd (false≢true h)
digits_are base (d ∷ ds) h =
    let parts = and_parts (nat_lt 0 (length (d ∷ ds))) (list_all (is_digit_of base) (d ∷ ds)) h in
    let here = and_parts (is_digit_of base d) (list_all (is_digit_of base) ds) parts.1 in
    record { first = d; others = ds; whole = refl; digit = here.0; digits = here.1 }

base_of_small : (b base : ℕ) → base_of b ≡ Some base → base ≤ 16
base_of_small b base =
    cond_both (b == 98) (Some 2) _ (λ o. o ≡ Some base → base ≤ 16) (λ e h. is 2 h (omega arith))
    (λ e. cond_both (b == 111) (Some 8) _ (λ o. o ≡ Some base → base ≤ 16) (λ e h. is 8 h (omega arith))
    (λ e. cond_both (b == 100) (Some 10) _ (λ o. o ≡ Some base → base ≤ 16) (λ e h. is 10 h (omega arith))
    (λ e. cond_both (b == 120) (Some 16) None (λ o. o ≡ Some base → base ≤ 16) (λ e h. is 16 h (omega arith)) (λ e h. cc))))
  where
    is : (n : ℕ) → Some n ≡ Some base → n ≤ 16 → base ≤ 16
    is n h le = subst (λ m. m ≤ 16) (same_Some n base h) le

prefix_small : {p : List ℕ} {base : ℕ} → Prefix p base → base ≤ 16
prefix_small decimal = omega arith
prefix_small (based {b} {base} h) = base_of_small (to_ascii_lowercase b) base h

-- a digit of a base up to 16 is no sign
no_sign : (base d : ℕ) → base ≤ 16 → is_digit_of base d ≡ true → EachOf (λ c. (d == c) ≡ false) (codes "+-")
no_sign base d le h =
    let none : nat_lt 16 base ≡ false = le-ltb 16 base le in
    apart_by (is_digit_of base) (codes "+-") (none, (none, tt)) d h

unsigned_digits : (base : ℕ) (ds : List ℕ) → base ≤ 16 → Digits base ds → (digits_of ds ≡ ds) × (is_negative ds ≡ false)
unsigned_digits base ds le h =
    let apart = no_sign base h.first le h.digit in
    subst (λ xs. (digits_of xs ≡ xs) × (is_negative xs ≡ false)) (sym h.whole)
    (cond-false ((h.first == 43) || (h.first == 45)) h.others (h.first ∷ h.others) (or_from (h.first == 43) (h.first == 45) apart.0 apart.1.0), apart.1.0)

signed_digits : (base : ℕ) {s : List ℕ} {negative : Bool} → base ≤ 16 → Sign s negative → (ds : List ℕ) → Digits base ds →
    (digits_of (s ++ ds) ≡ ds) × (is_negative (s ++ ds) ≡ negative)
signed_digits base le unsigned ds h = unsigned_digits base ds le h
signed_digits base le plus ds h = (refl, refl)
signed_digits base le minus ds h = (refl, refl)

number_is : (base : ℕ) (negative : Bool) (v ds : List ℕ) → digits_of v ≡ ds → is_negative v ≡ negative → are_digits base ds ≡ true →
    number_of base v ≡ fixnum_of negative (value_of base ds)
number_is base negative v ds d n h =
    ap (λ xs. cond (are_digits base xs) (fixnum_of (is_negative v) (value_of base xs)) (Err Syntax)) d
    ∙ (cond-true (are_digits base ds) (fixnum_of (is_negative v) (value_of base ds)) (Err Syntax) h
    ∙ ap (λ sign. fixnum_of sign (value_of base ds)) n)

digits_clear : (base : ℕ) (ds : List ℕ) → base ≤ 16 → Digits base ds → Clear ds
digits_clear base ds le h =
    subst Clear (sym h.whole) (digit_clear base h.first le h.digit, clear_all (is_digit_of base) (λ d e. digit_clear base d le e) h.others h.digits)

signed_clear : {s : List ℕ} {negative : Bool} → Sign s negative → (ds : List ℕ) → Clear ds → Clear (s ++ ds)
signed_clear unsigned ds h = h
signed_clear plus ds h = (refl, h)
signed_clear minus ds h = (refl, h)

-- what stands behind `#`, but `(` and a backslash, is a run
pub hashed_only : (b : ℕ) (v rest : List ℕ) → (b == 40) ≡ false → (b == 92) ≡ false → Clear (b ∷ v) → EndsWord rest →
    token_at (35 ∷ b ∷ (v ++ rest)) ≡ sized (hashed_of (b ∷ v)) (suc (suc (length v)))
hashed_only b v rest bracket backslash clear ends =
    let bs = b ∷ (v ++ rest) in
    cond-false (b == 40) (Ok (token.OpenVector, 2)) (cond (b == 92) (character_at (v ++ rest)) (sized (hashed_of (run bs)) (run_length bs + 1))) bracket
    ∙ (cond-false (b == 92) (character_at (v ++ rest)) (sized (hashed_of (run bs)) (run_length bs + 1)) backslash
    ∙ (ap (λ n. sized (hashed_of (run bs)) (n + 1)) (run_passed (b ∷ v) rest clear ends)
    ∙ (ap (λ w. sized (hashed_of w) (length (b ∷ v) + 1)) (run_taken (b ∷ v) rest clear ends)
    ∙ ap (λ n. sized (hashed_of (b ∷ v)) n) (omega arith))))

-- a letter of a base
abbrev IsBase : ℕ → ℕ → Type 0
IsBase base b = base_of (to_ascii_lowercase b) ≡ Some base

base_apart : (base b c : ℕ) → base_of (to_ascii_lowercase c) ≡ None → IsBase base b → (b == c) ≡ false
base_apart base b c none h =
    ne_eqb b c (λ e. let t : base_of (to_ascii_lowercase c) ≡ Some base = subst (λ n. IsBase base n) e h in cc)

base_letter : (base b c : ℕ) → base_of c ≡ None → IsBase base b → (to_ascii_lowercase b == c) ≡ false
base_letter base b c none h =
    ne_eqb (to_ascii_lowercase b) c (λ e. let t : base_of c ≡ Some base = subst (λ n. base_of n ≡ Some base) e h in cc)

no_base : (base c : ℕ) → base_of (to_ascii_lowercase c) ≡ None → IsBase base c → ⊥
no_base base c none h = cc

base_clear : (base b : ℕ) → IsBase base b → is_delimiter b ≡ false
base_clear base b h =
    let none = λ (c : ℕ) (e : base_of (to_ascii_lowercase c) ≡ None). no_base base c e in
    false_from_ne_true (is_delimiter b) (λ d. delimiter_of (λ c. IsBase base c → ⊥)
    (none 32 refl, (none 9 refl, (none 10 refl, (none 13 refl, (none 12 refl, tt)))))
    (none 40 refl, (none 41 refl, (none 34 refl, (none 59 refl, tt)))) b d h)

based_only : (base b : ℕ) (v rest : List ℕ) → IsBase base b → Clear v → EndsWord rest →
    token_at (35 ∷ b ∷ (v ++ rest)) ≡ sized (number_of base v) (suc (suc (length v)))
based_only base b v rest h clear ends =
    hashed_only b v rest (base_apart base b 40 refl h) (base_apart base b 92 refl h) (base_clear base b h, clear) ends
    ∙ ap (λ r. sized r (suc (suc (length v))))
    (cond-false (to_ascii_lowercase b == 116) (truth_of true v) (cond (to_ascii_lowercase b == 102) (truth_of false v) (based_of (base_of (to_ascii_lowercase b)) v)) (base_letter base b 116 refl h)
    ∙ (cond-false (to_ascii_lowercase b == 102) (truth_of false v) (based_of (base_of (to_ascii_lowercase b)) v) (base_letter base b 102 refl h)
    ∙ ap (λ o. based_of o v) h))

-- a decimal digit is below 58, and begins no identifier
decimal_below : (d : ℕ) → is_digit_of 10 d ≡ true → d < 58
decimal_below d h = below (ltb-true (digit_of d) 10 h)
  where
    below : digit_of d < 10 → d < 58
    below e = grind (arith, nat_tests)

decimal_initial : (d : ℕ) → is_digit_of 10 d ≡ true → is_initial d ≡ false
decimal_initial d h =
    let both : (is_digit_of 10 d && is_initial d) ≡ false = agree_below_at (λ b. is_digit_of 10 b && is_initial b) (λ b. false) 58 d refl (decimal_below d h) in
    false_from_ne_true (is_initial d) (λ e. both_ways (is_digit_of 10 d && is_initial d) both (and_from (is_digit_of 10 d) (is_initial d) h e))

-- a run that is a decimal number is no dot and no identifier
pub record IsDecimal (v : List ℕ) : Type 0 where
  pub run : IsRun v
  pub no_dot : bytes_eq v (codes ".") ≡ false
  pub no_identifier : is_identifier v ≡ false

decimal_plain : (d : ℕ) → is_digit_of 10 d ≡ true → IsPlain d
decimal_plain d h = apart_by (is_digit_of 10) (codes "()'`,\"#") (refl, (refl, (refl, (refl, (refl, (refl, (refl, tt))))))) d h

unsigned_decimal : (d : ℕ) (ds : List ℕ) → is_digit_of 10 d ≡ true → Clear (d ∷ ds) → IsDecimal (d ∷ ds)
unsigned_decimal d ds h clear =
    let apart = apart_by (is_digit_of 10) (codes "+-.") (refl, (refl, (refl, tt))) d h in
    record {
      run = (decimal_plain d h, clear);
      no_dot = and_left (d == 46) (bytes_eq ds []) apart.1.1.0;
      no_identifier =
          or_from (bytes_eq (d ∷ ds) (codes "+")) (bytes_eq (d ∷ ds) (codes "-") || (bytes_eq (d ∷ ds) (codes "...") || is_word (d ∷ ds))) (and_left (d == 43) (bytes_eq ds []) apart.0)
          (or_from (bytes_eq (d ∷ ds) (codes "-")) (bytes_eq (d ∷ ds) (codes "...") || is_word (d ∷ ds)) (and_left (d == 45) (bytes_eq ds []) apart.1.0)
          (or_from (bytes_eq (d ∷ ds) (codes "...")) (is_word (d ∷ ds)) (and_left (d == 46) (bytes_eq ds (46 ∷ 46 ∷ [])) apart.1.1.0)
          (and_left (is_initial d) (list_all is_subsequent ds) (decimal_initial d h))));
    }

signed_decimal : {s : List ℕ} {negative : Bool} → Sign s negative → (d : ℕ) (ds : List ℕ) → is_digit_of 10 d ≡ true → Clear (d ∷ ds) → IsDecimal (s ++ d ∷ ds)
signed_decimal unsigned d ds h clear = unsigned_decimal d ds h clear
signed_decimal plus d ds h clear =
    record { run = ((refl, (refl, (refl, (refl, (refl, (refl, (refl, tt))))))), (refl, clear)); no_dot = refl; no_identifier = refl }
signed_decimal minus d ds h clear =
    record { run = ((refl, (refl, (refl, (refl, (refl, (refl, (refl, tt))))))), (refl, clear)); no_dot = refl; no_identifier = refl }

decimal_only : (v rest : List ℕ) → IsDecimal v → EndsWord rest → token_at (v ++ rest) ≡ sized (number_of 10 v) (length v)
decimal_only v rest h ends =
    run_only v rest h.run ends
    ∙ ap (λ r. sized r (length v))
    (cond-false (bytes_eq v (codes ".")) (Ok token.Dot) (cond (is_identifier v) (name_of v) (number_of 10 v)) h.no_dot
    ∙ cond-false (is_identifier v) (name_of v) (number_of 10 v) h.no_identifier)

prefixed_only : {p s : List ℕ} {base : ℕ} {negative : Bool} → Prefix p base → Sign s negative → (ds rest : List ℕ) → Digits base ds → EndsWord rest →
    token_at ((p ++ (s ++ ds)) ++ rest) ≡ sized (number_of base (s ++ ds)) (length (p ++ (s ++ ds)))
prefixed_only {s = s} decimal sign ds rest h ends =
    let clear = digits_clear 10 ds (omega arith) h in
    decimal_only (s ++ ds) rest (subst (λ xs. IsDecimal (s ++ xs)) (sym h.whole) (signed_decimal sign h.first h.others h.digit (subst Clear h.whole clear))) ends
prefixed_only {s = s} (based {b} {base} e) sign ds rest h ends =
    based_only base b (s ++ ds) rest e (signed_clear sign ds (digits_clear base ds (base_of_small (to_ascii_lowercase b) base e) h)) ends

pub numeral_only : {w ds : List ℕ} {base : ℕ} {negative : Bool} → IsNumeral w base negative ds → (rest : List ℕ) → EndsWord rest →
    token_at (w ++ rest) ≡ sized (fixnum_of negative (value_of base ds)) (length w)
numeral_only (numeral {prefix = p} {sign = s} {ds} {base} {negative} prefix sign h) rest ends =
    let digits = digits_are base ds h in
    let parts = signed_digits base (prefix_small prefix) sign ds digits in
    prefixed_only prefix sign ds rest digits ends
    ∙ ap (λ r. sized r (length (p ++ (s ++ ds)))) (number_is base negative (s ++ ds) ds parts.0 parts.1 h)
