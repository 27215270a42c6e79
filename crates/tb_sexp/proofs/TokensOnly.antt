-- What spells a token is read as that token, and what is wrong is found.
use Rattle.std.proofs.Common.{◌≡◌, ℕ, suc, ◌+◌, ◌≤◌, Bool, true, false, cond, List, [], ◌∷◌, ◌++◌, length, take, None, Ok, Err, refl, sym, ap, ◌∙◌, subst, append_assoc, append-nil, length-append, add-one, arith}
use Rattle.std.specs.Prelude.{◌==◌, nat_lt, codes, bytes_eq}
use Rattle.std.specs.Char.{to_ascii_lowercase}
use Rattle.std.proofs.lemmas.Bool.{both_ways, lt-ltb, le-ltb, ne_eqb, eq-eqb, cond-true, cond-false, false_from_ne_true}
use Rattle.std.proofs.lemmas.List.{length-map}
use Rattle.tb_prim.specs.Fixnums.{is_fixnum}
use Rattle.tb_sexp.specs.declared.token.Token.{Token}
use Rattle.tb_sexp.specs.declared.token.Token.TheVariants as token
use Rattle.tb_sexp.specs.declared.token.Mark.TheVariants.{Unquote, UnquoteSplicing}
use Rattle.tb_sexp.specs.declared.token.Fault.{Fault}
use Rattle.tb_sexp.specs.declared.token.Fault.TheVariants.{Syntax, LongName, BigNumber, LongString, BadEscape}
use Rattle.tb_sexp.specs.Bytes.{is_delimiter, escaped_of, folded}
use Rattle.tb_sexp.specs.calls.Lexing.{character_of, hashed_of, named_of, on_some, sized, string_from, token_at}
use Rattle.tb_sexp.specs.Numbers.{value_of, signed}
use Rattle.tb_sexp.specs.Tokens.{Characters, EndsWord, NoAt, EndsAt, Spells, open_list, open_vector, close, quote, quasiquote, unquote, splicing, dot, truth, falsity, number, name, one_byte, space, newline, text, Spoiled, long_name, big_number, long_string, bad_escape, open_string, open_escape}
use Rattle.tb_sexp.proofs.TokensBytes.{delimiter_of, Clear, run_passed, run_taken}
use Rattle.tb_sexp.proofs.TokensNumbers.{hashed_only, numeral_only}
use Rattle.tb_sexp.proofs.TokensStrings.{characters_long, string_put}
use Rattle.tb_sexp.proofs.TokensWords.{run_only, identifier_only}

-- the marks
comma_only : (rest : List ℕ) → NoAt rest → token_at (44 ∷ rest) ≡ Ok (token.Mark Unquote, 1)
comma_only [] h = refl
comma_only (b ∷ rest) h = cond-false (b == 64) (Ok (token.Mark UnquoteSplicing, 2)) (Ok (token.Mark Unquote, 1)) (ne_eqb b 64 h)

-- truth values
lower_apart : (b c n : ℕ) → (to_ascii_lowercase c ≡ n → ⊥) → to_ascii_lowercase b ≡ n → (b == c) ≡ false
lower_apart b c n no_letter h = ne_eqb b c (λ e. no_letter (subst (λ m. to_ascii_lowercase m ≡ n) e h))

-- a letter in either case is no delimiter
letter_clear : (b : ℕ) → is_delimiter (to_ascii_lowercase b) ≡ false → is_delimiter b ≡ false
letter_clear b h =
    false_from_ne_true (is_delimiter b) (λ d. both_ways (is_delimiter (to_ascii_lowercase b)) h
    (delimiter_of (λ c. is_delimiter (to_ascii_lowercase c) ≡ true) (refl, (refl, (refl, (refl, (refl, tt))))) (refl, (refl, (refl, (refl, tt)))) b d))

truth_hashed : (b : ℕ) → to_ascii_lowercase b ≡ 116 → hashed_of (b ∷ []) ≡ Ok (token.Bool true)
truth_hashed b h = cond-true (to_ascii_lowercase b == 116) (Ok (token.Bool true)) _ (eq-eqb (to_ascii_lowercase b) 116 h)

falsity_hashed : (b : ℕ) → to_ascii_lowercase b ≡ 102 → hashed_of (b ∷ []) ≡ Ok (token.Bool false)
falsity_hashed b h =
    cond-false (to_ascii_lowercase b == 116) (Ok (token.Bool true)) _ (ne_eqb (to_ascii_lowercase b) 116 (λ e. absurd (omega arith)))
    ∙ cond-true (to_ascii_lowercase b == 102) (Ok (token.Bool false)) _ (eq-eqb (to_ascii_lowercase b) 102 h)

letter_only : (b n : ℕ) (value : Bool) (rest : List ℕ) → to_ascii_lowercase b ≡ n → (40 ≡ n → ⊥) → (92 ≡ n → ⊥) → is_delimiter n ≡ false → EndsWord rest →
    hashed_of (b ∷ []) ≡ Ok (token.Bool value) → token_at (35 ∷ b ∷ rest) ≡ Ok (token.Bool value, 2)
letter_only b n value rest e bracket backslash clear ends h =
    hashed_only b [] rest (lower_apart b 40 n bracket e) (lower_apart b 92 n backslash e) (letter_clear b (subst (λ m. is_delimiter m ≡ false) (sym e) clear), tt) ends
    ∙ ap (λ r. sized r 2) h

-- characters
character_only : (b : ℕ) (w rest : List ℕ) → Clear w → EndsWord rest → token_at (35 ∷ 92 ∷ b ∷ (w ++ rest)) ≡ sized (character_of (b ∷ w)) (length w + 3)
character_only b w rest clear ends =
    ap (λ n. sized (character_of (take (n + 1) (b ∷ (w ++ rest)))) (n + 3)) (run_passed w rest clear ends)
    ∙ (ap (λ n. sized (character_of (take n (b ∷ (w ++ rest)))) (length w + 3)) (add-one (length w))
    ∙ ap (λ v. sized (character_of (b ∷ v)) (length w + 3)) (ap (λ n. take n (w ++ rest)) (sym (run_passed w rest clear ends)) ∙ run_taken w rest clear ends))

folded_clear : (w : List ℕ) → Clear (folded w) → Clear w
folded_clear [] h = tt
folded_clear (b ∷ w) h = (letter_clear b h.0, folded_clear w h.1)

space_named : (w : List ℕ) → folded w ≡ codes "space" → named_of w ≡ Ok (token.Char 32)
space_named w h = ap (λ v. cond (bytes_eq v (folded (codes "space"))) (Ok (token.Char 32)) (cond (bytes_eq v (folded (codes "newline"))) (Ok (token.Char 10)) (Err Syntax))) h

newline_named : (w : List ℕ) → folded w ≡ codes "newline" → named_of w ≡ Ok (token.Char 10)
newline_named w h = ap (λ v. cond (bytes_eq v (folded (codes "space"))) (Ok (token.Char 32)) (cond (bytes_eq v (folded (codes "newline"))) (Ok (token.Char 10)) (Err Syntax))) h

named_only : (c : ℕ) (w rest : List ℕ) → 2 ≤ length w → Clear w → EndsWord rest → named_of w ≡ Ok (token.Char c) → token_at (35 ∷ 92 ∷ (w ++ rest)) ≡ Ok (token.Char c, suc (suc (length w)))
named_only c [] rest long clear ends h = absurd (omega arith)
named_only c (b ∷ w) rest long clear ends h =
    character_only b w rest clear.1 ends
    ∙ (ap (λ r. sized r (length w + 3)) (cond-false (length w == 0) (Ok (token.Char b)) (named_of (b ∷ w)) (ne_eqb (length w) 0 (λ e. omega arith)) ∙ h)
    ∙ ap (λ n. Ok (token.Char c, n)) (omega arith))

name_size : (w : List ℕ) (s : List ℕ) → folded w ≡ s → length w ≡ length s
name_size w s h = sym (length-map w to_ascii_lowercase) ∙ ap length h

-- strings
string_only : {w cs : List ℕ} → Characters w cs → length cs ≤ 65535 → (rest : List ℕ) → token_at ((34 ∷ (w ++ 34 ∷ [])) ++ rest) ≡ Ok (token.Str cs, length (34 ∷ (w ++ 34 ∷ [])))
string_only {w} {cs} h few rest =
    let size = length-append w (34 ∷ []) in
    ap (λ bs. token_at (34 ∷ bs)) (append_assoc w (34 ∷ []) rest) ∙ (string_put h (34 ∷ rest) few ∙ ap (λ n. Ok (token.Str cs, n)) (omega arith))

-- the spelling of a token is read as that token
pub spelled_only : {w : List ℕ} {t : Token} → Spells w t → (rest : List ℕ) → EndsAt t rest → token_at (w ++ rest) ≡ Ok (t, length w)
spelled_only open_list rest ends = refl
spelled_only open_vector rest ends = refl
spelled_only close rest ends = refl
spelled_only quote rest ends = refl
spelled_only quasiquote rest ends = refl
spelled_only unquote rest ends = comma_only rest ends
spelled_only splicing rest ends = refl
spelled_only dot rest ends = run_only (46 ∷ []) rest ((refl, (refl, (refl, (refl, (refl, (refl, (refl, tt))))))), (refl, tt)) ends
spelled_only (truth {b} h) rest ends = letter_only b 116 true rest h (λ e. omega arith) (λ e. omega arith) refl ends (truth_hashed b h)
spelled_only (falsity {b} h) rest ends = letter_only b 102 false rest h (λ e. omega arith) (λ e. omega arith) refl ends (falsity_hashed b h)
spelled_only (number {w} {ds} {base} {negative} num fits) rest ends =
    numeral_only num rest ends ∙ ap (λ r. sized r (length w)) (cond-true (is_fixnum (signed negative (value_of base ds))) (Ok (token.Fix (signed negative (value_of base ds)))) (Err BigNumber) fits)
spelled_only (name {w} h short) rest ends =
    identifier_only w rest h ends ∙ ap (λ r. sized r (length w)) (cond-false (nat_lt 255 (length w)) (Err LongName) (Ok (token.Name (folded w))) (le-ltb 255 (length w) short))
spelled_only (one_byte {b}) rest ends = character_only b [] rest tt ends
spelled_only (space {w} h) rest ends =
    let size = name_size w (codes "space") h in
    named_only 32 w rest (omega arith) (folded_clear w (subst Clear (sym h) (refl, (refl, (refl, (refl, (refl, tt))))))) ends (space_named w h)
spelled_only (newline {w} h) rest ends =
    let size = name_size w (codes "newline") h in
    named_only 10 w rest (omega arith) (folded_clear w (subst Clear (sym h) (refl, (refl, (refl, (refl, (refl, (refl, (refl, tt))))))))) ends (newline_named w h)
spelled_only (text h few) rest ends = string_only h few rest

pub token_only : (w rest : List ℕ) (t : Token) → Spells w t → EndsAt t rest → token_at (w ++ rest) ≡ Ok (t, length w)
token_only w rest t h ends = spelled_only h rest ends

bad_only : {w cs : List ℕ} (b : ℕ) (rest : List ℕ) → Characters w cs → length cs ≤ 65535 → escaped_of b ≡ None → token_at (34 ∷ (w ++ 92 ∷ b ∷ rest)) ≡ Err (BadEscape (1 + length w))
bad_only {w} {cs} b rest h few e =
    string_put h (92 ∷ b ∷ rest) few
    ∙ (ap (λ o. on_some o (Err (BadEscape (length w + 1))) (λ c. cond (nat_lt (length cs) 65535) (string_from (cs ++ c ∷ []) false (length w + 1 + 1) rest) (Err LongString))) e
    ∙ ap (λ n. Err (BadEscape n)) (omega arith))

-- what is wrong is found
pub spoiled_only : {bs : List ℕ} {f : Fault} → Spoiled bs f → token_at bs ≡ Err f
spoiled_only (long_name w rest h long ends) =
    identifier_only w rest h ends ∙ ap (λ r. sized r (length w)) (cond-true (nat_lt 255 (length w)) (Err LongName) (Ok (token.Name (folded w))) (lt-ltb 255 (length w) long))
spoiled_only (big_number {w} {ds} {base} {negative} rest num big ends) =
    numeral_only num rest ends ∙ ap (λ r. sized r (length w)) (cond-false (is_fixnum (signed negative (value_of base ds))) (Ok (token.Fix (signed negative (value_of base ds)))) (Err BigNumber) big)
spoiled_only (long_string rest h long) = characters_long h [] 0 rest (omega arith) (omega arith)
spoiled_only (bad_escape b rest h few e) = bad_only b rest h few e
spoiled_only (open_string {w} h few) = ap (λ bs. token_at (34 ∷ bs)) (sym (append-nil w)) ∙ string_put h [] few
spoiled_only (open_escape h few) = string_put h (92 ∷ []) few
