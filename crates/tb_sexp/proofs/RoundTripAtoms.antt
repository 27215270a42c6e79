-- What is printed of numbers, characters, strings and names spells them.
use Rattle.std.proofs.Common.{◌≡◌, ℕ, ℤ, pos, negsuc, suc, ◌+◌, ◌*◌, ◌<◌, ◌≤◌, ◌^◌, Bool, true, false, cond, List, [], ◌∷◌, ◌++◌, length, refl, sym, ap, ◌∙◌, subst, arith}
use Rattle.std.specs.Prelude.{◌==◌, ◌||◌, nat_lt, codes}
use Rattle.std.specs.Fmt.{decimal, signed_decimal}
use Rattle.std.specs.Char.{digit_value}
use Rattle.std.specs.Int.{IsInRange}
use Rattle.std.specs.List.{list_all}
use Rattle.std.specs.Str.Parse.{AllDigits, digits_value_after}
use Rattle.std.proofs.lemmas.Bool.{eqb-true, eqb-false, lt-ltb, ltb-true, and_from, cond_both}
use Rattle.std.proofs.lemmas.Fmt.{decimal_is_IsNumeral}
use Rattle.std.proofs.lemmas.Str.{digit_value_digit}
use Rattle.std.proofs.lemmas.Str.Parse.{digit_from_value}
use Rattle.tb_prim.specs.Fixnums.{is_fixnum}
use Rattle.tb_sexp.specs.declared.token.Token.TheVariants as token
use Rattle.tb_sexp.specs.Numbers.{are_digits, digit_of, value_from, value_of, signed}
use Rattle.tb_sexp.specs.Printing.{printed_bytes, printed_character}
use Rattle.tb_sexp.specs.ReadData.{IsReadName}
use Rattle.tb_sexp.specs.Tokens.{Characters, no_more, plain, escaped, decimal as no_prefix, unsigned, minus, numeral, Spells, number, name, one_byte, space, newline, text}

-- digits as the number's text has them, and as they are read
digit_same : (c : ℕ) → IsInRange 48 57 c → digit_of c ≡ digit_value c
digit_same c h = let is = digit_value_digit c h in grind arith

digits_fit : (ds : List ℕ) → AllDigits 10 ds → list_all (λ d. nat_lt (digit_of d) 10) ds ≡ true
digits_fit [] h = refl
digits_fit (c ∷ ds) h =
    let same = digit_same c (digit_from_value c h.0) in
    and_from (nat_lt (digit_of c) 10) (list_all (λ d. nat_lt (digit_of d) 10) ds) (lt-ltb (digit_of c) 10 (omega (arith, h.0))) (digits_fit ds h.1)

digits_valued : (n : ℕ) (ds : List ℕ) → AllDigits 10 ds → value_from 10 n ds ≡ digits_value_after 10 n ds
digits_valued n [] h = refl
digits_valued n (c ∷ ds) h =
    ap (λ v. value_from 10 (n * 10 + v) ds) (digit_same c (digit_from_value c h.0)) ∙ digits_valued (n * 10 + digit_value c) ds h.1

some_digits : (ds : List ℕ) → 0 < length ds → AllDigits 10 ds → are_digits 10 ds ≡ true
some_digits ds some h = and_from (nat_lt 0 (length ds)) (list_all (λ d. nat_lt (digit_of d) 10) ds) (lt-ltb 0 (length ds) some) (digits_fit ds h)

decimal_digits : (n : ℕ) → n < 2 ^ 64 → are_digits 10 (decimal n) ≡ true
decimal_digits n h = let is = decimal_is_IsNumeral n h in some_digits (decimal n) is.0.0 is.0.1

decimal_value : (n : ℕ) → n < 2 ^ 64 → value_of 10 (decimal n) ≡ n
decimal_value n h = let is = decimal_is_IsNumeral n h in digits_valued 0 (decimal n) is.0.1 ∙ is.1

-- a number
pub fixnum_spelled : (z : ℤ) → is_fixnum z ≡ true → Spells (signed_decimal z) (token.Fix z)
fixnum_spelled (pos n) h =
    let small = ltb-true n (2 ^ 29) h in
    let value = decimal_value n (omega arith) in
    let fits : is_fixnum (signed false (value_of 10 (decimal n))) ≡ true = rw value h in
    subst (λ m. Spells (decimal n) (token.Fix (pos m))) value (number (numeral no_prefix unsigned (decimal_digits n (omega arith))) fits)
fixnum_spelled (negsuc n) h =
    let small = ltb-true n (2 ^ 29) h in
    let value = decimal_value (suc n) (omega arith) in
    let fits : is_fixnum (signed true (value_of 10 (decimal (suc n)))) ≡ true = rw value h in
    subst (λ m. Spells (45 ∷ decimal (suc n)) (token.Fix (signed true m))) value (number (numeral no_prefix minus (decimal_digits (suc n) (omega arith))) fits)

-- a character
pub character_spelled : (c : ℕ) → Spells (printed_character c) (token.Char c)
character_spelled c =
    cond_both (c == 32) (codes "#\\space") (cond (c == 10) (codes "#\\newline") (35 ∷ 92 ∷ c ∷ [])) (λ w. Spells w (token.Char c))
    (λ e. subst (λ n. Spells (codes "#\\space") (token.Char n)) (sym (eqb-true c 32 e)) (space refl))
    (λ e. cond_both (c == 10) (codes "#\\newline") (35 ∷ 92 ∷ c ∷ []) (λ w. Spells w (token.Char c))
    (λ e. subst (λ n. Spells (codes "#\\newline") (token.Char n)) (sym (eqb-true c 10 e)) (newline refl))
    (λ e. one_byte))

-- a string
byte_spelled : (b : ℕ) {bs cs : List ℕ} (quote escape : Bool) → (b == 34) ≡ quote → (b == 92) ≡ escape → Characters bs cs →
    Characters (cond (quote || escape) (92 ∷ b ∷ []) (b ∷ []) ++ bs) (b ∷ cs)
byte_spelled b {bs} {cs} true escape q e h = subst (λ n. Characters (92 ∷ n ∷ bs) (n ∷ cs)) (sym (eqb-true b 34 q)) (escaped refl h)
byte_spelled b {bs} {cs} false true q e h = subst (λ n. Characters (92 ∷ n ∷ bs) (n ∷ cs)) (sym (eqb-true b 92 e)) (escaped refl h)
byte_spelled b false false q e h = plain (eqb-false b 34 q) (eqb-false b 92 e) h

bytes_spelled : (s : List ℕ) → Characters (printed_bytes s) s
bytes_spelled [] = no_more
bytes_spelled (b ∷ s) = byte_spelled b (b == 34) (b == 92) refl refl (bytes_spelled s)

pub string_spelled : (s : List ℕ) → length s ≤ 65535 → Spells (codes "\"" ++ (printed_bytes s ++ codes "\"")) (token.Str s)
string_spelled s few = text (bytes_spelled s) few

-- a name
pub name_spelled : (s : List ℕ) → IsReadName s → Spells s (token.Name s)
name_spelled s h = subst (λ w. Spells s (token.Name w)) h.lower (name h.identifier h.short)
