-- Tokens and faults exclude one another, and one of them is at the front of each text.
use Rattle.std.proofs.Common.{◌≡◌, ◌⊎◌, ℕ, true, List, [], ◌∷◌, length, Result, Ok, Err, inl, inr, refl, sym, ap, ◌∙◌, subst, append-nil}
use Rattle.std.proofs.lemmas.Bool.{false_from_ne_true}
use Rattle.tb_sexp.specs.declared.token.Token.{Token}
use Rattle.tb_sexp.specs.declared.token.Token.TheVariants as token
use Rattle.tb_sexp.specs.declared.token.Fault.{Fault}
use Rattle.tb_sexp.specs.declared.token.Fault.TheVariants.{Syntax, LongName, BigNumber, LongString, BadEscape, OpenString}
use Rattle.tb_sexp.specs.declared.token.Mark.{Mark}
use Rattle.tb_sexp.specs.declared.token.Mark.TheVariants.{Quote, Quasiquote, Unquote, UnquoteSplicing}
use Rattle.tb_sexp.specs.Blanks.{BeginsNoBlank}
use Rattle.tb_sexp.specs.Bytes.{is_whitespace}
use Rattle.tb_sexp.specs.calls.Lexing.{token_at}
use Rattle.tb_sexp.specs.Tokens.{EndsMark, EndsAt, Spells, TokenAt, HasToken, Spoiled, long_name, big_number, long_string, bad_escape, open_string, open_escape, Faulty, spoiled, no_token}
use Rattle.tb_sexp.proofs.TokensBytes.{whitespace_of}
use Rattle.tb_sexp.proofs.TokensFound.{OwnFault, Found, found}
use Rattle.tb_sexp.proofs.TokensOnly.{spelled_only, spoiled_only}

-- the answer at a text that begins with a token
pub at_only : (bs : List ℕ) (t : Token) (n : ℕ) → TokenAt bs t n → token_at bs ≡ Ok (t, n)
at_only bs t n h = ap token_at h.whole ∙ (spelled_only h.spells h.rest h.ends ∙ ap (λ k. Ok (t, k)) h.size)

pub token_found : (bs : List ℕ) (t : Token) (n : ℕ) → token_at bs ≡ Ok (t, n) → TokenAt bs t n
token_found bs t n h = subst (Found bs) h (found bs)

is_spoiled : (bs : List ℕ) (f : Fault) → (f ≡ Syntax → ⊥) → OwnFault bs f → Spoiled bs f
is_spoiled bs Syntax no_syntax h = absurd (no_syntax refl)
is_spoiled bs LongName no_syntax h = h
is_spoiled bs BigNumber no_syntax h = h
is_spoiled bs LongString no_syntax h = h
is_spoiled bs (BadEscape n) no_syntax h = h
is_spoiled bs OpenString no_syntax h = h

pub never_syntax : {bs : List ℕ} {f : Fault} → Spoiled bs f → f ≡ Syntax → ⊥
never_syntax (long_name w rest h long ends) e = cc
never_syntax (big_number rest num big ends) e = cc
never_syntax (long_string rest h long) e = cc
never_syntax (bad_escape b rest h few none) e = cc
never_syntax (open_string h few) e = cc
never_syntax (open_escape h few) e = cc

differ : (bs : List ℕ) (x : Token × ℕ) (f : Fault) → token_at bs ≡ Ok x → token_at bs ≡ Err f → ⊥
differ bs x f a b = cc

same_fault : (bs : List ℕ) (f g : Fault) → token_at bs ≡ Err f → token_at bs ≡ Err g → f ≡ g
same_fault bs f g a b = cc

pub no_token_at : (bs : List ℕ) (f : Fault) → token_at bs ≡ Err f → HasToken bs → ⊥
no_token_at bs f e t = differ bs (t.0, t.1) f (at_only bs t.0 t.1 t.2) e

plain_fault : (bs : List ℕ) → token_at bs ≡ Err Syntax → Faulty bs Syntax
plain_fault bs h =
    no_token (λ t. no_token_at bs Syntax h t)
    (λ f (s : Spoiled bs f). never_syntax s (same_fault bs f Syntax (spoiled_only s) h))

pub fault_found : (bs : List ℕ) (f : Fault) → token_at bs ≡ Err f → Faulty bs f
fault_found bs Syntax h = plain_fault bs h
fault_found bs LongName h = spoiled (is_spoiled bs LongName (λ e. cc) (subst (Found bs) h (found bs)))
fault_found bs BigNumber h = spoiled (is_spoiled bs BigNumber (λ e. cc) (subst (Found bs) h (found bs)))
fault_found bs LongString h = spoiled (is_spoiled bs LongString (λ e. cc) (subst (Found bs) h (found bs)))
fault_found bs (BadEscape n) h = spoiled (is_spoiled bs (BadEscape n) (λ e. cc) (subst (Found bs) h (found bs)))
fault_found bs OpenString h = spoiled (is_spoiled bs OpenString (λ e. cc) (subst (Found bs) h (found bs)))

-- a text begins with a token or is faulty
by_answer : (bs : List ℕ) (r : Result (Token × ℕ) Fault) → token_at bs ≡ r → HasToken bs ⊎ ((f : Fault) × Faulty bs f)
by_answer bs (Ok x) h = inl (x.0, x.1, token_found bs x.0 x.1 h)
by_answer bs (Err f) h = inr (f, fault_found bs f h)

pub token_or_fault : (bs : List ℕ) → HasToken bs ⊎ ((f : Fault) × Faulty bs f)
token_or_fault bs = by_answer bs (token_at bs) refl

no_token_only : (bs : List ℕ) (r : Result (Token × ℕ) Fault) → token_at bs ≡ r → (HasToken bs → ⊥) → ((f : Fault) → Spoiled bs f → ⊥) → token_at bs ≡ Err Syntax
no_token_only bs (Ok x) h none no_fault = absurd (none (x.0, x.1, token_found bs x.0 x.1 h))
no_token_only bs (Err f) h none no_fault = by f (subst (Found bs) h (found bs)) h
  where
    by : (g : Fault) → OwnFault bs g → token_at bs ≡ Err g → token_at bs ≡ Err Syntax
    by Syntax own e = e
    by LongName own e = absurd (no_fault LongName own)
    by BigNumber own e = absurd (no_fault BigNumber own)
    by LongString own e = absurd (no_fault LongString own)
    by (BadEscape n) own e = absurd (no_fault (BadEscape n) own)
    by OpenString own e = absurd (no_fault OpenString own)

pub faulty_only : {bs : List ℕ} {f : Fault} → Faulty bs f → token_at bs ≡ Err f
faulty_only (spoiled s) = spoiled_only s
faulty_only (no_token {bs} none whole) = no_token_only bs (token_at bs) refl none whole

pub one_token : (bs : List ℕ) (t u : Token) (m n : ℕ) → TokenAt bs t m → TokenAt bs u n → (t ≡ u) × (m ≡ n)
one_token bs t u m n a b =
    let x = at_only bs t m a in
    let y = at_only bs u n b in
    same (sym x ∙ y)
  where
    same : ◌≡◌ {A = Result (Token × ℕ) Fault} (Ok (t, m)) (Ok (u, n)) → (t ≡ u) × (m ≡ n)
    same e = let p : ◌≡◌ {A = Token × ℕ} (t, m) (u, n) = cc in (ap (λ (x : Token × ℕ). x.0) p, ap (λ (x : Token × ℕ). x.1) p)

pub apart : (bs : List ℕ) (f : Fault) → HasToken bs → Faulty bs f → ⊥
apart bs f t h = no_token_at bs f (faulty_only h) t

pub one_fault : (bs : List ℕ) (f g : Fault) → Faulty bs f → Faulty bs g → f ≡ g
one_fault bs f g a b = same_fault bs f g (faulty_only a) (faulty_only b)

-- no token and no fault of its own begins with what is blank
blank_fails : (b : ℕ) (bs : List ℕ) → is_whitespace b ≡ true → token_at (b ∷ bs) ≡ Err Syntax
blank_fails b bs h = whitespace_of (λ c. token_at (c ∷ bs) ≡ Err Syntax) (refl, (refl, (refl, (refl, (refl, tt))))) b h

begins : (bs : List ℕ) → (token_at bs ≡ Err Syntax → ⊥) → BeginsNoBlank bs
begins [] h = h refl
begins (b ∷ bs) h =
    (false_from_ne_true (is_whitespace b) (λ e. h (blank_fails b bs e)), λ (e : b ≡ 59). h (subst (λ c. token_at (c ∷ bs) ≡ Err Syntax) (sym e) refl))

ends_mark : (m : Mark) → EndsMark m []
ends_mark Quote = tt
ends_mark Quasiquote = tt
ends_mark Unquote = tt
ends_mark UnquoteSplicing = tt

ends_text : (t : Token) → EndsAt t []
ends_text token.Open = tt
ends_text token.OpenVector = tt
ends_text token.Close = tt
ends_text (token.Mark m) = ends_mark m
ends_text token.Dot = tt
ends_text (token.Bool b) = tt
ends_text (token.Fix n) = tt
ends_text (token.Char c) = tt
ends_text (token.Str s) = tt
ends_text (token.Name s) = tt

pub word_begins : (w : List ℕ) (t : Token) → Spells w t → BeginsNoBlank w
word_begins w t h =
    let e : token_at w ≡ Ok (t, length w) = ap token_at (sym (append-nil w)) ∙ spelled_only h [] (ends_text t) in
    begins w (λ s. differ w (t, length w) Syntax e s)

pub spoiled_begins : (bs : List ℕ) (f : Fault) → Spoiled bs f → BeginsNoBlank bs
spoiled_begins bs f h = begins bs (λ s. never_syntax h (same_fault bs f Syntax (spoiled_only h) s))
