-- Words up to a delimiter are read whole: identifiers and numbers.
use Rattle.std.proofs.Common.{◌≡◌, ℕ, suc, true, false, cond, List, [], ◌∷◌, ◌++◌, length, Ok, Err, refl, sym, ap, ◌∙◌, subst, ⊎_elim, arith}
use Rattle.std.specs.Prelude.{◌==◌, ◌||◌, codes, bytes_eq}
use Rattle.std.specs.List.{list_all}
use Rattle.std.proofs.lemmas.Bool.{false≢true, ne_eqb, or_cases, and_parts, and_left, cond-true, cond-false}
use Rattle.std.proofs.lemmas.Slice.Eq.{bytes_eq-Decides}
use Rattle.tb_sexp.specs.declared.token.Token.TheVariants as token
use Rattle.tb_sexp.specs.declared.token.Fault.TheVariants.{Syntax}
use Rattle.tb_sexp.specs.Bytes.{is_initial, is_subsequent, is_identifier, is_word}
use Rattle.tb_sexp.specs.calls.Lexing.{atom_at, atom_of, name_of, number_of, run, sized, token_at}
use Rattle.tb_sexp.specs.Tokens.{EndsWord}
use Rattle.tb_sexp.proofs.TokensBytes.{EachOf, subsequent_clear, initial_clear, apart_by, Clear, clear_all, run_passed, run_taken}

-- a byte that no token but a run up to a delimiter begins with
abbrev pub IsPlain : ℕ → Type 0
IsPlain b = EachOf (λ c. (b == c) ≡ false) (codes "()'`,\"#")

plain_at : (b : ℕ) (bs : List ℕ) → IsPlain b → token_at (b ∷ bs) ≡ atom_at (b ∷ bs)
plain_at b bs p =
    let a0 = p.0 in let a1 = p.1.0 in let a2 = p.1.1.0 in let a3 = p.1.1.1.0 in let a4 = p.1.1.1.1.0 in let a5 = p.1.1.1.1.1.0 in let a6 = p.1.1.1.1.1.1.0 in
    rw (a0, a1, a2, a3, a4, a5, a6)

-- a run of bytes that begins with a plain byte
abbrev pub IsRun : List ℕ → Type 0
IsRun [] = ⊥
IsRun (b ∷ bs) = IsPlain b × Clear (b ∷ bs)

some_bytes : (n : ℕ) → (suc n == 0) ≡ false
some_bytes n = ne_eqb (suc n) 0 (λ e. omega arith)

pub run_only : (w rest : List ℕ) → IsRun w → EndsWord rest → token_at (w ++ rest) ≡ sized (atom_of w) (length w)
run_only [] rest h ends = absurd h
run_only (b ∷ w) rest h ends =
    plain_at b (w ++ rest) h.0
    ∙ (ap (λ n. cond (n == 0) (Err Syntax) (sized (atom_of (run (b ∷ (w ++ rest)))) n)) (run_passed (b ∷ w) rest h.1 ends)
    ∙ (ap (λ v. cond (length (b ∷ w) == 0) (Err Syntax) (sized (atom_of v) (length (b ∷ w)))) (run_taken (b ∷ w) rest h.1 ends)
    ∙ cond-false (length (b ∷ w) == 0) (Err Syntax) (sized (atom_of (b ∷ w)) (length (b ∷ w))) (some_bytes (length w))))

-- identifiers
pub identifier_of : (P : List ℕ → Type 0) → P (codes "+") → P (codes "-") → P (codes "...") →
    ((b : ℕ) (w : List ℕ) → is_initial b ≡ true → list_all is_subsequent w ≡ true → P (b ∷ w)) → (w : List ℕ) → is_identifier w ≡ true → P w
identifier_of P p m d word w h =
    ⊎_elim (λ e. subst P (sym ((bytes_eq-Decides w (codes "+")).0 e)) p)
    (λ h1. ⊎_elim (λ e. subst P (sym ((bytes_eq-Decides w (codes "-")).0 e)) m)
    (λ h2. ⊎_elim (λ e. subst P (sym ((bytes_eq-Decides w (codes "...")).0 e)) d)
    (λ h3. of_word w h3)
    (or_cases (bytes_eq w (codes "...")) (is_word w) h2))
    (or_cases (bytes_eq w (codes "-")) (bytes_eq w (codes "...") || is_word w) h1))
    (or_cases (bytes_eq w (codes "+")) (bytes_eq w (codes "-") || (bytes_eq w (codes "...") || is_word w)) h)
  where
    of_word : (v : List ℕ) → is_word v ≡ true → P v
    of_word [] e = absurd (false≢true e)
    of_word (b ∷ bs) e = let parts = and_parts (is_initial b) (list_all is_subsequent bs) e in word b bs parts.0 parts.1

initial_plain : (b : ℕ) → is_initial b ≡ true → IsPlain b
initial_plain b h = apart_by is_initial (codes "()'`,\"#") (refl, (refl, (refl, (refl, (refl, (refl, (refl, tt))))))) b h

-- an identifier is a run, and no dot
abbrev IsNamed : List ℕ → Type 0
IsNamed w = IsRun w × (bytes_eq w (codes ".") ≡ false)

named_word : (b : ℕ) (w : List ℕ) → is_initial b ≡ true → list_all is_subsequent w ≡ true → IsNamed (b ∷ w)
named_word b w i s =
    let other : (b == 46) ≡ false = (apart_by is_initial (46 ∷ []) (refl, tt) b i).0 in
    ((initial_plain b i, (initial_clear b i, clear_all is_subsequent subsequent_clear w s)), and_left (b == 46) (bytes_eq w []) other)

pub identifier_named : (w : List ℕ) → is_identifier w ≡ true → IsNamed w
identifier_named w h =
    identifier_of IsNamed
    (((refl, (refl, (refl, (refl, (refl, (refl, (refl, tt))))))), (refl, tt)), refl)
    (((refl, (refl, (refl, (refl, (refl, (refl, (refl, tt))))))), (refl, tt)), refl)
    (((refl, (refl, (refl, (refl, (refl, (refl, (refl, tt))))))), (refl, (refl, (refl, tt)))), refl)
    named_word w h

pub identifier_only : (w rest : List ℕ) → is_identifier w ≡ true → EndsWord rest → token_at (w ++ rest) ≡ sized (name_of w) (length w)
identifier_only w rest h ends =
    let named = identifier_named w h in
    run_only w rest named.0 ends
    ∙ ap (λ r. sized r (length w))
    (cond-false (bytes_eq w (codes ".")) (Ok token.Dot) (cond (is_identifier w) (name_of w) (number_of 10 w)) named.1
    ∙ cond-true (is_identifier w) (name_of w) (number_of 10 w) h)
