-- Strings: their characters are read from the bytes, and what is wrong with them.
use Rattle.std.proofs.Common.{◌≡◌, ◌≢◌, ℕ, suc, ◌+◌, ◌<◌, ◌≤◌, true, false, cond, List, [], ◌∷◌, ◌++◌, length, Some, Result, Ok, Err, refl, sym, ap, ◌∙◌, append_assoc, append-nil, length-append, arith}
use Rattle.std.specs.Prelude.{◌==◌, nat_lt}
use Rattle.std.proofs.lemmas.Bool.{lt-ltb, le-ltb, ltb-true, ne_eqb, cond_both, cond-true, cond-false}
use Rattle.tb_sexp.specs.declared.token.Token.{Token}
use Rattle.tb_sexp.specs.declared.token.Token.TheVariants as token
use Rattle.tb_sexp.specs.declared.token.Fault.{Fault}
use Rattle.tb_sexp.specs.declared.token.Fault.TheVariants.{LongString, BadEscape}
use Rattle.tb_sexp.specs.Bytes.{escaped_of}
use Rattle.tb_sexp.specs.calls.Lexing.{on_some, string_from, token_at}
use Rattle.tb_sexp.specs.Tokens.{Characters, no_more, plain, escaped}

-- what is answered for one more character
abbrev put : List ℕ → ℕ → ℕ → List ℕ → Result (Token × ℕ) Fault
put front c passed bs = cond (nat_lt (length front) 65535) (string_from (front ++ c ∷ []) false (passed + 1) bs) (Err LongString)

-- an ordinary byte, and an escape, put a character
pub plain_step : (front : List ℕ) (passed b : ℕ) (bs : List ℕ) → b ≢ 34 → b ≢ 92 → string_from front false passed (b ∷ bs) ≡ put front b passed bs
plain_step front passed b bs q e =
    cond-false (b == 34) (Ok (token.Str front, passed + 2)) (cond (b == 92) (string_from front true (passed + 1) bs) (put front b passed bs)) (ne_eqb b 34 q)
    ∙ cond-false (b == 92) (string_from front true (passed + 1) bs) (put front b passed bs) (ne_eqb b 92 e)

pub escape_step : (front : List ℕ) (passed b c : ℕ) (bs : List ℕ) → escaped_of b ≡ Some c → string_from front false passed (92 ∷ b ∷ bs) ≡ put front c (passed + 1) bs
escape_step front passed b c bs e =
    ap (λ o. on_some o (Err (BadEscape (passed + 1))) (λ d. put front d (passed + 1) bs)) e

put_some : (front : List ℕ) (c passed : ℕ) (bs : List ℕ) → length front < 65535 → put front c passed bs ≡ string_from (front ++ c ∷ []) false (passed + 1) bs
put_some front c passed bs h = cond-true (nat_lt (length front) 65535) (string_from (front ++ c ∷ []) false (passed + 1) bs) (Err LongString) (lt-ltb (length front) 65535 h)

put_none : (front : List ℕ) (c passed : ℕ) (bs : List ℕ) → 65535 ≤ length front → put front c passed bs ≡ Err LongString
put_none front c passed bs h = cond-false (nat_lt (length front) 65535) (string_from (front ++ c ∷ []) false (passed + 1) bs) (Err LongString) (le-ltb (length front) 65535 h)

-- how reading a string goes on
abbrev From : List ℕ → ℕ → List ℕ → Result (Token × ℕ) Fault
From front passed bs = string_from front false passed bs

put_on : (front : List ℕ) (c passed : ℕ) (cs bs : List ℕ) (n : ℕ) (rest : List ℕ) → length front < 65535 →
    From (front ++ c ∷ []) (passed + 1) bs ≡ From ((front ++ c ∷ []) ++ cs) (passed + 1 + n) rest →
    put front c passed bs ≡ From (front ++ c ∷ cs) (passed + suc n) rest
put_on front c passed cs bs n rest h hyp =
    put_some front c passed bs h ∙ (hyp ∙ (ap (λ f. From f (passed + 1 + n) rest) (append_assoc front (c ∷ []) cs) ∙ ap (λ k. From (front ++ c ∷ cs) k rest) (omega arith)))

-- characters are put, while they are not too many
pub characters_put : {w cs : List ℕ} → Characters w cs → (front : List ℕ) (passed : ℕ) (rest : List ℕ) → length front + length cs ≤ 65535 →
    From front passed (w ++ rest) ≡ From (front ++ cs) (passed + length w) rest
characters_put no_more front passed rest h =
    ap (λ f. From f passed rest) (sym (append-nil front)) ∙ ap (λ k. From (front ++ []) k rest) (omega arith)
characters_put (plain {b} {bs} {cs} q e more) front passed rest h =
    let size = length-append front (b ∷ []) in
    let hyp = characters_put more (front ++ b ∷ []) (passed + 1) rest (omega arith) in
    plain_step front passed b (bs ++ rest) q e ∙ put_on front b passed cs (bs ++ rest) (length bs) rest (omega arith) hyp
characters_put (escaped {b} {c} {bs} {cs} e more) front passed rest h =
    let size = length-append front (c ∷ []) in
    let hyp = characters_put more (front ++ c ∷ []) (passed + 1 + 1) rest (omega arith) in
    escape_step front passed b c (bs ++ rest) e
    ∙ (put_on front c (passed + 1) cs (bs ++ rest) (length bs) rest (omega arith) hyp ∙ ap (λ k. From (front ++ c ∷ cs) k rest) (omega arith))

-- one more than may be is refused
long_put : (front : List ℕ) (c passed : ℕ) (bs : List ℕ) → (length front < 65535 → From (front ++ c ∷ []) (passed + 1) bs ≡ Err LongString) → put front c passed bs ≡ Err LongString
long_put front c passed bs h =
    cond_both (nat_lt (length front) 65535) (From (front ++ c ∷ []) (passed + 1) bs) (Err LongString) (λ r. r ≡ Err LongString) (λ e. h (ltb-true (length front) 65535 e)) (λ e. refl)

pub characters_long : {w cs : List ℕ} → Characters w cs → (front : List ℕ) (passed : ℕ) (rest : List ℕ) → length front ≤ 65535 → 65535 < length front + length cs →
    From front passed (w ++ rest) ≡ Err LongString
characters_long no_more front passed rest h long = absurd (omega arith)
characters_long (plain {b} {bs} {cs} q e more) front passed rest h long =
    let size = length-append front (b ∷ []) in
    plain_step front passed b (bs ++ rest) q e
    ∙ long_put front b passed (bs ++ rest) (λ (some : length front < 65535). characters_long more (front ++ b ∷ []) (passed + 1) rest (omega arith) (omega arith))
characters_long (escaped {b} {c} {bs} {cs} e more) front passed rest h long =
    let size = length-append front (c ∷ []) in
    escape_step front passed b c (bs ++ rest) e
    ∙ long_put front c (passed + 1) (bs ++ rest) (λ (some : length front < 65535). characters_long more (front ++ c ∷ []) (passed + 1 + 1) rest (omega arith) (omega arith))

-- a string from its quote on
pub string_put : {w cs : List ℕ} → Characters w cs → (rest : List ℕ) → length cs ≤ 65535 → token_at (34 ∷ (w ++ rest)) ≡ From cs (length w) rest
string_put {w} {cs} h rest few = characters_put h [] 0 rest (omega arith) ∙ ap (λ k. From cs k rest) (omega arith)
