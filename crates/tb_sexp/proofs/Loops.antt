-- One turn of reading: the blanks in front, and then the end of the text or a token.
use Rattle.std.proofs.Common.{◌≡◌, ℕ, true, false, List, [], ◌∷◌, length, take, drop, refl, sym, ap, ◌∙◌, subst, arith}
use Rattle.std.specs.Prelude.{◌==◌, Result, Ok, Err}
use Rattle.std.proofs.lemmas.Bool.Decides.{nat_tests}
use Rattle.tb_prim.specs.declared.place.Place.{Place}
use Rattle.tb_sexp.specs.declared.refusal.ReadRefusal.{ReadRefusal}
use Rattle.tb_sexp.specs.declared.refusal.ReadRefusal.TheVariants.{Syntax, Unclosed, TooDeep, TooLong, TooBig, NoMemory}
use Rattle.tb_sexp.specs.calls.Scanning.{blanks}
use Rattle.tb_sexp.specs.calls.Frames.{State}
use Rattle.tb_sexp.specs.Places.{behind_all}
use Rattle.tb_sexp.specs.calls.Reading.{Refuses, finish}
use Rattle.tb_sexp.specs.calls.Runs.{ReadsFrom, blank, refused, taken, take_token, ReadAs}
use Rattle.tb_sexp.specs.Tree.{Tree}

pub read_as : (r : Result (List Tree) ReadRefusal) (P : Result (List Tree) ReadRefusal → Type 0) → P r → ReadAs r P
read_as (Ok ds) P h = h
read_as (Err (Syntax p)) P h = h
read_as (Err (Unclosed p)) P h = h
read_as (Err (TooDeep p)) P h = h
read_as (Err (TooLong p)) P h = h
read_as (Err (TooBig p)) P h = h
read_as (Err NoMemory) P h = tt

nothing_left : (xs : List ℕ) → (length xs == 0) ≡ true → xs ≡ []
nothing_left [] h = refl
nothing_left (x ∷ xs) h = grind (arith, nat_tests)

-- what stands behind the blanks of a text
pub record Behind (p : Place) (bs : List ℕ) (start : Place) (tokens : List ℕ) : Type 0 where
  pub place : start ≡ behind_all p (take (blanks bs) bs)
  pub rest : tokens ≡ drop (blanks bs) bs

pub behind_blanks : (p start : Place) (bs tokens : List ℕ) (count : ℕ) → count ≡ blanks bs → start ≡ behind_all p (take count bs) → tokens ≡ drop count bs → Behind p bs start tokens
behind_blanks p start bs tokens count c s t = record {
  place = s ∙ ap (λ n. behind_all p (take n bs)) c;
  rest = t ∙ ap (λ n. drop n bs) c;
}

-- how reading from a state goes on is how the text reads
abbrev pub Goes : State → Place → List ℕ → (Result (List Tree) ReadRefusal → Type 0) → Type 0
Goes s p bs P = (r : Result (List Tree) ReadRefusal) → ReadsFrom s p bs r → P r

pub ends : (s : State) (p start : Place) (bs tokens : List ℕ) (P : Result (List Tree) ReadRefusal → Type 0) (r : Result (List Tree) ReadRefusal) →
    Goes s p bs P → Behind p bs start tokens → (length tokens == 0) ≡ true → r ≡ finish s.finished s.frames → ReadAs r P
ends s p start bs tokens P r goes b e is =
    read_as r P (subst P (sym is) (goes (finish s.finished s.frames) (blank (sym b.rest ∙ nothing_left tokens e))))

same_token : (s : State) (p start : Place) (bs tokens : List ℕ) → Behind p bs start tokens →
    take_token s (behind_all p (take (blanks bs) bs)) (drop (blanks bs) bs) ≡ take_token s start tokens
same_token s p start bs tokens b =
    ap (λ q. take_token s q (drop (blanks bs) bs)) (sym b.place) ∙ ap (λ ts. take_token s start ts) (sym b.rest)

refused_by : (s : State) (p start : Place) (bs tokens : List ℕ) (P : Result (List Tree) ReadRefusal → Type 0) (e : ReadRefusal) →
    Goes s p bs P → Behind p bs start tokens → (length tokens == 0) ≡ false → take_token s start tokens ≡ Err e → P (Err e)
refused_by s p start bs [] P e goes b some h = absurd (let t : true ≡ false = some in cc)
refused_by s p start bs (x ∷ xs) P e goes b some h =
    goes (Err e) (refused x xs (sym b.rest) (same_token s p start bs (x ∷ xs) b ∙ h))

pub refuses : (s : State) (p start : Place) (bs tokens : List ℕ) (P : Result (List Tree) ReadRefusal → Type 0) (e : ReadRefusal) →
    Goes s p bs P → Behind p bs start tokens → (length tokens == 0) ≡ false → Refuses e (take_token s start tokens) → ReadAs (Err e) P
refuses s p start bs tokens P (Syntax q) goes b some h = refused_by s p start bs tokens P (Syntax q) goes b some h
refuses s p start bs tokens P (Unclosed q) goes b some h = refused_by s p start bs tokens P (Unclosed q) goes b some h
refuses s p start bs tokens P (TooDeep q) goes b some h = refused_by s p start bs tokens P (TooDeep q) goes b some h
refuses s p start bs tokens P (TooLong q) goes b some h = refused_by s p start bs tokens P (TooLong q) goes b some h
refuses s p start bs tokens P (TooBig q) goes b some h = refused_by s p start bs tokens P (TooBig q) goes b some h
refuses s p start bs tokens P NoMemory goes b some h = tt

pub goes_on : (s t : State) (p start q : Place) (bs tokens rest : List ℕ) (n : ℕ) (P : Result (List Tree) ReadRefusal → Type 0) →
    Goes s p bs P → Behind p bs start tokens → (length tokens == 0) ≡ false → take_token s start tokens ≡ Ok (t, n) →
    q ≡ behind_all start (take n tokens) → rest ≡ drop n tokens → Goes t q rest P
goes_on s t p start q bs [] rest n P goes b some h at tail r reads = absurd (let f : true ≡ false = some in cc)
goes_on s t p start q bs (x ∷ xs) rest n P goes b some h at tail r reads =
    let place : q ≡ behind_all (behind_all p (take (blanks bs) bs)) (take n (drop (blanks bs) bs)) =
    at ∙ ap (λ o. behind_all o (take n (x ∷ xs))) b.place ∙ ap (λ ts. behind_all (behind_all p (take (blanks bs) bs)) (take n ts)) b.rest in
    let left : rest ≡ drop n (drop (blanks bs) bs) = tail ∙ ap (λ ts. drop n ts) b.rest in
    goes r (taken x xs (sym b.rest) (same_token s p start bs (x ∷ xs) b ∙ h)
    (subst (λ o. ReadsFrom t o (drop n (drop (blanks bs) bs)) r) place (subst (λ ts. ReadsFrom t q ts r) left reads)))
