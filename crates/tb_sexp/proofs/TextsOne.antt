-- Each text has one answer.
use Rattle.std.proofs.Common.{◌≡◌, ◌⊎◌, inl, inr, ℕ, zero, suc, ◌≤◌, ◌<◌, Bool, List, [], ◌∷◌, length, take, drop, refl, sym, ap, ◌∙◌, subst, arith, length-drop}
use Rattle.std.specs.Prelude.{Result, Ok, Err}
use Rattle.tb_prim.specs.declared.place.Place.{Place}
use Rattle.tb_sexp.specs.declared.token.Token.{Token}
use Rattle.tb_sexp.specs.declared.token.Fault.{Fault}
use Rattle.tb_sexp.specs.declared.refusal.ReadRefusal.{ReadRefusal}
use Rattle.tb_sexp.specs.Blanks.{BeginsNoBlank}
use Rattle.tb_sexp.specs.calls.Scanning.{blanks}
use Rattle.tb_sexp.specs.calls.Frames.{State}
use Rattle.tb_sexp.specs.calls.Lexing.{token_at}
use Rattle.tb_sexp.specs.Places.{text_start, behind_all}
use Rattle.tb_sexp.specs.calls.Reading.{accept, failed, finish}
use Rattle.tb_sexp.specs.calls.Runs.{with_size, with_token, take_token, ReadsFrom, blank, refused, taken, nothing}
use Rattle.tb_sexp.specs.Texts.{IsText, IsRefused}
use Rattle.tb_sexp.specs.Tree.{Tree}
use Rattle.tb_sexp.proofs.TextsFound.{Outcome, outcome}
use Rattle.tb_sexp.proofs.TextsOnly.{text_only, refused_only}
use Rattle.tb_sexp.proofs.TokensApart.{token_found, word_begins}

abbrev Answered : Type 0
Answered = Result (List Tree) ReadRefusal

same_refusal : (x : Result (State × ℕ) ReadRefusal) (e f : ReadRefusal) → x ≡ Err e → x ≡ Err f → e ≡ f
same_refusal x e f a b = cc

same_pair : (x : Result (State × ℕ) ReadRefusal) (s t : State) (m n : ℕ) → x ≡ Ok (s, m) → x ≡ Ok (t, n) → (s ≡ t) × (m ≡ n)
same_pair x s t m n a b = let e : ◌≡◌ {A = State × ℕ} (s, m) (t, n) = cc in (ap (λ (y : State × ℕ). y.0) e, ap (λ (y : State × ℕ). y.1) e)

differ : (x : Result (State × ℕ) ReadRefusal) (y : State × ℕ) (e : ReadRefusal) → x ≡ Ok y → x ≡ Err e → ⊥
differ x y e a b = cc

abbrev There : Place → List ℕ → Place
There p bs = behind_all p (take (blanks bs) bs)

abbrev Left : List ℕ → List ℕ
Left bs = drop (blanks bs) bs

-- one answer at most
end_same : {s : State} {p : Place} {bs : List ℕ} {r : Answered} → Left bs ≡ [] → ReadsFrom s p bs r → r ≡ finish s.finished s.frames
end_same h (blank g) = refl
end_same h (refused b rest is g) = absurd (let e : ◌≡◌ {A = List ℕ} [] (b ∷ rest) = sym h ∙ is in cc)
end_same h (taken b rest is g more) = absurd (let e : ◌≡◌ {A = List ℕ} [] (b ∷ rest) = sym h ∙ is in cc)

refusal_same : {s : State} {p : Place} {bs : List ℕ} {r : Answered} {e : ReadRefusal} (b : ℕ) (rest : List ℕ) → Left bs ≡ b ∷ rest → take_token s (There p bs) (Left bs) ≡ Err e → ReadsFrom s p bs r → r ≡ Err e
refusal_same b rest is h (blank g) = absurd (let e : ◌≡◌ {A = List ℕ} [] (b ∷ rest) = sym g ∙ is in cc)
refusal_same {s = s} {p = p} {bs = bs} {e = e} b rest is h (refused {e = f} c others same g) = ap (λ (y : ReadRefusal). Err y) (same_refusal (take_token s (There p bs) (Left bs)) f e g h)
refusal_same {s = s} {p = p} {bs = bs} {e = e} b rest is h (taken {t = t} {n = n} c others same g more) = absurd (differ (take_token s (There p bs) (Left bs)) (t, n) e g h)

token_same : {s t : State} {p : Place} {bs : List ℕ} {n : ℕ} {q : Answered} (r : Answered) (b : ℕ) (rest : List ℕ) → Left bs ≡ b ∷ rest → take_token s (There p bs) (Left bs) ≡ Ok (t, n) →
    ((r : Answered) → ReadsFrom t (behind_all (There p bs) (take n (Left bs))) (drop n (Left bs)) r → r ≡ q) → ReadsFrom s p bs r → r ≡ q
token_same r b rest is h one (blank g) = absurd (let e : ◌≡◌ {A = List ℕ} [] (b ∷ rest) = sym g ∙ is in cc)
token_same {s = s} {t = t} {p = p} {bs = bs} {n = n} r b rest is h one (refused {e = f} c others same g) = absurd (differ (take_token s (There p bs) (Left bs)) (t, n) f h g)
token_same {s = s} {t = t} {p = p} {bs = bs} {n = n} r b rest is h one (taken {t = z} {n = m} c others same g more) =
    let e = same_pair (take_token s (There p bs) (Left bs)) z t m n g h in
    one r (subst (λ k. ReadsFrom t (behind_all (There p bs) (take k (Left bs))) (drop k (Left bs)) r) e.1
    (subst (λ y. ReadsFrom y (behind_all (There p bs) (take m (Left bs))) (drop m (Left bs)) r) e.0 more))

pub reads_same : {s : State} {p : Place} {bs : List ℕ} {q : Answered} → ReadsFrom s p bs q → (r : Answered) → ReadsFrom s p bs r → r ≡ q
reads_same (blank h) r y = end_same h y
reads_same (refused b rest is h) r y = refusal_same b rest is h y
reads_same (taken b rest is h more) r y = token_same r b rest is h (reads_same more) y

-- and one at least
size_positive : (bs : List ℕ) (t : Token) (n : ℕ) → token_at bs ≡ Ok (t, n) → 0 < n
size_positive bs t n h = let x = token_found bs t n h in some x.word n (word_begins x.word t x.spells) x.size
  where
    some : (w : List ℕ) (n : ℕ) → BeginsNoBlank w → length w ≡ n → 0 < n
    some [] n h e = absurd h
    some (b ∷ w) n h e = omega arith

abbrev HasAnswer : State → Place → List ℕ → Type 0
HasAnswer s p bs = (r : Answered) × ReadsFrom s p bs r

shorter_left : (m n : ℕ) (bs : List ℕ) (b : ℕ) (rest : List ℕ) → Left bs ≡ b ∷ rest → length bs ≤ suc m → 0 < n → length (drop n (Left bs)) ≤ m
shorter_left m n bs b rest is le some =
    let a = length-drop n (Left bs) in
    let c = length-drop (blanks bs) bs in
    omega arith

end_answer : (s : State) (p : Place) (bs : List ℕ) → Left bs ≡ [] → HasAnswer s p bs
end_answer s p bs h = (finish s.finished s.frames, blank h)

sized_answer : (m : ℕ) (s : State) (p : Place) (bs : List ℕ) (b : ℕ) (rest : List ℕ) (n : ℕ) (a : Result State ReadRefusal) → Left bs ≡ b ∷ rest → take_token s (There p bs) (Left bs) ≡ with_size a n → 0 < n → length bs ≤ suc m →
    ((t : State) (q : Place) (cs : List ℕ) → length cs ≤ m → HasAnswer t q cs) → HasAnswer s p bs
sized_answer m s p bs b rest n (Ok t) is h some le answers =
    let x = answers t (behind_all (There p bs) (take n (Left bs))) (drop n (Left bs)) (shorter_left m n bs b rest is le some) in
    (x.0, taken b rest is h x.1)
sized_answer m s p bs b rest n (Err e) is h some le answers = (Err e, refused b rest is h)

token_answer : (m : ℕ) (s : State) (p : Place) (bs : List ℕ) (b : ℕ) (rest : List ℕ) (x : Result (Token × ℕ) Fault) → Left bs ≡ b ∷ rest → token_at (Left bs) ≡ x → length bs ≤ suc m →
    ((t : State) (q : Place) (cs : List ℕ) → length cs ≤ m → HasAnswer t q cs) → HasAnswer s p bs
token_answer m s p bs b rest (Ok x) is h le answers =
    sized_answer m s p bs b rest x.1 (accept s (There p bs) x.0 (drop x.1 (Left bs))) is (ap (λ y. with_token s (There p bs) (Left bs) y) h) (size_positive (Left bs) x.0 x.1 h) le answers
token_answer m s p bs b rest (Err f) is h le answers = (Err (failed s f (There p bs) (Left bs)), refused b rest is (ap (λ y. with_token s (There p bs) (Left bs) y) h))

turn_answer : (m : ℕ) (s : State) (p : Place) (bs cs : List ℕ) → Left bs ≡ cs → length bs ≤ suc m → ((t : State) (q : Place) (cs : List ℕ) → length cs ≤ m → HasAnswer t q cs) → HasAnswer s p bs
turn_answer m s p bs [] is le answers = end_answer s p bs is
turn_answer m s p bs (b ∷ rest) is le answers = token_answer m s p bs b rest (token_at (Left bs)) is refl le answers

has_answer : (m : ℕ) (s : State) (p : Place) (bs : List ℕ) → length bs ≤ m → HasAnswer s p bs
has_answer zero s p [] le = end_answer s p [] refl
has_answer zero s p (b ∷ bs) le = absurd (omega arith)
has_answer (suc m) s p bs le = turn_answer m s p bs (Left bs) refl le (has_answer m)

pub reads_somehow : (s : State) (p : Place) (bs : List ℕ) → HasAnswer s p bs
reads_somehow s p bs = has_answer (length bs) s p bs (omega arith)

-- so each text spells one row of data or has one refusal
ok_same : (ds es : List Tree) → ◌≡◌ {A = Answered} (Ok ds) (Ok es) → ds ≡ es
ok_same ds es e = cc

err_same : (e f : ReadRefusal) → ◌≡◌ {A = Answered} (Err e) (Err f) → e ≡ f
err_same e f is = cc

ok_no_err : (ds : List Tree) (e : ReadRefusal) → ◌≡◌ {A = Answered} (Ok ds) (Err e) → ⊥
ok_no_err ds e is = cc

pub one_reading : (library : Bool) (text : List ℕ) (ds es : List Tree) → IsText library text ds → IsText library text es → ds ≡ es
one_reading library text ds es x y = ok_same ds es (reads_same (text_only library text es y) (Ok ds) (text_only library text ds x))

pub not_both : (library : Bool) (text : List ℕ) (ds : List Tree) (e : ReadRefusal) → IsText library text ds → IsRefused library text e → ⊥
not_both library text ds e x y = ok_no_err ds e (reads_same (refused_only library text e y) (Ok ds) (text_only library text ds x))

pub one_refusal : (library : Bool) (text : List ℕ) (e f : ReadRefusal) → IsRefused library text e → IsRefused library text f → e ≡ f
one_refusal library text e f x y = err_same e f (reads_same (refused_only library text f y) (Err e) (refused_only library text e x))

covered_by : (library : Bool) (text : List ℕ) (r : Answered) → Outcome library text r → ((ds : List Tree) × IsText library text ds) ⊎ ((e : ReadRefusal) × IsRefused library text e)
covered_by library text (Ok ds) x = inl (ds, x)
covered_by library text (Err e) x = inr (e, x)

pub covered : (library : Bool) (text : List ℕ) → ((ds : List Tree) × IsText library text ds) ⊎ ((e : ReadRefusal) × IsRefused library text e)
covered library text =
    let x = reads_somehow nothing (text_start library) text in
    covered_by library text x.0 (outcome library text x.0 x.1)
