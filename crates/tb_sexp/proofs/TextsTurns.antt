-- Texts in parts, and one turn of reading: blanks, and then the end of the text, a token or a fault.
use Rattle.std.proofs.Common.{◌≡◌, ℕ, List, [], ◌∷◌, ◌++◌, length, take, drop, refl, sym, ap, ◌∙◌, subst, arith}
use Rattle.std.specs.Prelude.{Bool, Result, Ok, Err}
use Rattle.std.proofs.lemmas.List.{take_at, drop_at, drop_all}
use Rattle.tb_prim.specs.declared.place.Place.{Place}
use Rattle.tb_sexp.specs.declared.token.Token.{Token}
use Rattle.tb_sexp.specs.declared.token.Fault.{Fault}
use Rattle.tb_sexp.specs.declared.refusal.ReadRefusal.{ReadRefusal}
use Rattle.tb_sexp.specs.Blanks.{Blank, BlankEnd, IsNoBlank, BeginsNoBlank}
use Rattle.tb_sexp.specs.calls.Scanning.{blanks}
use Rattle.tb_sexp.specs.calls.Frames.{State}
use Rattle.tb_sexp.specs.Grammar.{Placed, placed, CanGoOn}
use Rattle.tb_sexp.specs.Places.{text_start, behind, behind_all}
use Rattle.tb_sexp.specs.calls.Reading.{accept, failed, finish}
use Rattle.tb_sexp.specs.calls.Runs.{with_size, with_token, take_token, ReadsFrom, blank, refused, taken}
use Rattle.tb_sexp.specs.Texts.{Begins, no_tokens, one_token, NextToken, levels}
use Rattle.tb_sexp.specs.Tokens.{Spells, EndsAt, Faulty}
use Rattle.tb_sexp.specs.Tree.{Tree}
use Rattle.tb_sexp.proofs.TokensApart.{faulty_only, word_begins}
use Rattle.tb_sexp.proofs.TokensBlanks.{front_only, end_found, end_only}
use Rattle.tb_sexp.proofs.TokensOnly.{token_only}

pub behind_then : (p : Place) (xs ys : List ℕ) → behind_all p (xs ++ ys) ≡ behind_all (behind_all p xs) ys
behind_then p [] ys = refl
behind_then p (x ∷ xs) ys = behind_then (behind p x) xs ys

-- tokens behind tokens
pub begins_then : {p q r : Place} {bs cs left : List ℕ} {ts us : List Placed} → Begins p bs ts q cs → Begins q cs us r left → Begins p bs (ts ++ us) r left
begins_then no_tokens more = more
begins_then (one_token front word rest t bl sp en b) more = one_token front word rest t bl sp en (begins_then b more)

-- a text that begins with tokens in two parts
pub record InTwo (p : Place) (bs : List ℕ) (ts us : List Placed) (r : Place) (left : List ℕ) : Type 0 where
  pub place : Place
  pub middle : List ℕ
  pub first : Begins p bs ts place middle
  pub second : Begins place middle us r left

behind_one : {p r : Place} {left : List ℕ} {ts us : List Placed} (front word rest : List ℕ) (t : Token) → Blank front → Spells word t → EndsAt t rest →
    InTwo (behind_all p (front ++ word)) rest ts us r left → InTwo p (front ++ (word ++ rest)) (placed (behind_all p front) t ∷ ts) us r left
behind_one front word rest t bl sp en two = record { place = two.place; middle = two.middle; first = one_token front word rest t bl sp en two.first; second = two.second }

pub in_two : (ts us : List Placed) {p r : Place} {bs left : List ℕ} → Begins p bs (ts ++ us) r left → InTwo p bs ts us r left
in_two [] us {p = p} {bs = bs} b = record { place = p; middle = bs; first = no_tokens; second = b }
in_two (x ∷ ts) us (one_token front word rest t bl sp en more) = behind_one front word rest t bl sp en (in_two ts us more)

-- the first byte of a word, which is no blank
pub begins_with : (w : List ℕ) → BeginsNoBlank w → (rest : List ℕ) → (b : ℕ) × (others : List ℕ) × (w ++ rest ≡ b ∷ others) × IsNoBlank b
begins_with [] h rest = absurd h
begins_with (b ∷ w) h rest = (b, w ++ rest, refl, h)

-- a token that stands behind others
pub next_token : {library : Bool} {text : List ℕ} {ts : List Placed} {from : Place} (front word rest : List ℕ) (t : Token) → Begins (text_start library) text ts from (front ++ (word ++ rest)) →
    Blank front → Spells word t → EndsAt t rest → CanGoOn levels ts → NextToken library text ts (behind_all from front) t rest
next_token {library = library} {text = text} {ts = ts} {from = from} front word rest t begins bl sp en good =
    let x = begins_with word (word_begins word t sp) rest in
    record {
      byte = x.0;
      others = x.1;
      word = word;
      stands = record { from = from; blanks = front; begins = subst (λ o. Begins (text_start library) text ts from (front ++ o)) x.2 begins; blank = bl; no_blank = x.3; place = refl; good = good };
      cut = sym x.2;
      spelled = sp;
      ended = en;
    }

-- the last of the tokens
pub last_token : {library : Bool} {text middle left : List ℕ} {ts : List Placed} {q r : Place} {x : Placed} → Begins (text_start library) text ts q middle → CanGoOn levels ts →
    Begins q middle (x ∷ []) r left → NextToken library text ts x.place x.token left
last_token begins good (one_token front word rest t bl sp en no_tokens) = next_token front word rest t begins bl sp en good

-- nothing but blanks
pub all_blank : (bs : List ℕ) → blanks bs ≡ length bs → BlankEnd bs
all_blank bs e = end_found bs (drop_all (blanks bs) bs (omega arith))

-- where the blanks in front of a text end
pub record CutAt (bs front others : List ℕ) : Type 0 where
  pub before : take (blanks bs) bs ≡ front
  pub behind : drop (blanks bs) bs ≡ others

cut_blanks : (front others : List ℕ) (b : ℕ) (tail : List ℕ) → others ≡ b ∷ tail → Blank front → IsNoBlank b → CutAt (front ++ others) front others
cut_blanks front others b tail e bl not_blank =
    let n : blanks (front ++ others) ≡ length front = ap (λ o. blanks (front ++ o)) e ∙ front_only front tail b bl not_blank in
    record {
      before = ap (λ k. take k (front ++ others)) n ∙ take_at front others (length front) refl;
      behind = ap (λ k. drop k (front ++ others)) n ∙ drop_at front others (length front) refl;
    }

-- the token that a turn takes
turn : (s : State) (p : Place) (bs front others : List ℕ) → CutAt bs front others → take_token s (behind_all p (take (blanks bs) bs)) (drop (blanks bs) bs) ≡ take_token s (behind_all p front) others
turn s p bs front others c = ap (λ f. take_token s (behind_all p f) (drop (blanks bs) bs)) c.before ∙ ap (λ o. take_token s (behind_all p front) o) c.behind

token_taken : (s : State) (p : Place) (word rest : List ℕ) (t : Token) → Spells word t → EndsAt t rest → take_token s p (word ++ rest) ≡ with_size (accept s p t rest) (length word)
token_taken s p word rest t sp en =
    ap (λ x. with_token s p (word ++ rest) x) (token_only word rest t sp en) ∙ ap (λ r. with_size (accept s p t r) (length word)) (drop_at word rest (length word) refl)

reads_at : {s : State} {p q : Place} {bs cs : List ℕ} {r : Result (List Tree) ReadRefusal} → p ≡ q → bs ≡ cs → ReadsFrom s p bs r → ReadsFrom s q cs r
reads_at {s = s} {q = q} {bs = bs} {r = r} e f x = subst (λ cs. ReadsFrom s q cs r) f (subst (λ o. ReadsFrom s o bs r) e x)

-- reading at the end of a text, at a token, at a token that is refused, and at a fault
pub reads_end : {s : State} {p : Place} {bs : List ℕ} → BlankEnd bs → ReadsFrom s p bs (finish s.finished s.frames)
reads_end {bs = bs} h = blank (end_only bs h).1

pub reads_token : {s z : State} {p : Place} {r : Result (List Tree) ReadRefusal} (front word rest : List ℕ) (t : Token) → Blank front → Spells word t → EndsAt t rest →
    accept s (behind_all p front) t rest ≡ Ok z → ReadsFrom z (behind_all p (front ++ word)) rest r → ReadsFrom s p (front ++ (word ++ rest)) r
reads_token {s = s} {z = z} {p = p} {r = r} front word rest t bl sp en e more =
    let bs = front ++ (word ++ rest) in
    let n = length word in
    let x = begins_with word (word_begins word t sp) rest in
    let c = cut_blanks front (word ++ rest) x.0 x.1 x.2 bl x.3 in
    let took : take_token s (behind_all p (take (blanks bs) bs)) (drop (blanks bs) bs) ≡ Ok (z, n) =
    turn s p bs front (word ++ rest) c ∙ (token_taken s (behind_all p front) word rest t sp en ∙ ap (λ a. with_size a n) e) in
    let there : behind_all p (front ++ word) ≡ behind_all (behind_all p (take (blanks bs) bs)) (take n (drop (blanks bs) bs)) =
    behind_then p front word ∙ (ap (λ f. behind_all (behind_all p f) word) (sym c.before)
    ∙ ap (λ w. behind_all (behind_all p (take (blanks bs) bs)) w) (sym (take_at word rest n refl) ∙ ap (λ o. take n o) (sym c.behind))) in
    let left : rest ≡ drop n (drop (blanks bs) bs) = sym (drop_at word rest n refl) ∙ ap (λ o. drop n o) (sym c.behind) in
    taken x.0 x.1 (c.behind ∙ x.2) took (reads_at there left more)

pub reads_refused : {s : State} {p : Place} {e : ReadRefusal} (front word rest : List ℕ) (t : Token) → Blank front → Spells word t → EndsAt t rest →
    accept s (behind_all p front) t rest ≡ Err e → ReadsFrom s p (front ++ (word ++ rest)) (Err e)
reads_refused {s = s} {p = p} {e = e} front word rest t bl sp en h =
    let x = begins_with word (word_begins word t sp) rest in
    let c = cut_blanks front (word ++ rest) x.0 x.1 x.2 bl x.3 in
    refused x.0 x.1 (c.behind ∙ x.2)
    (turn s p (front ++ (word ++ rest)) front (word ++ rest) c ∙ (token_taken s (behind_all p front) word rest t sp en ∙ ap (λ a. with_size a (length word)) h))

pub reads_fault : {s : State} {p : Place} {f : Fault} (front : List ℕ) (byte : ℕ) (rest : List ℕ) → Blank front → IsNoBlank byte → Faulty (byte ∷ rest) f →
    ReadsFrom s p (front ++ byte ∷ rest) (Err (failed s f (behind_all p front) (byte ∷ rest)))
reads_fault {s = s} {p = p} {f = f} front byte rest bl not_blank h =
    let c = cut_blanks front (byte ∷ rest) byte rest refl bl not_blank in
    refused byte rest c.behind
    (turn s p (front ++ byte ∷ rest) front (byte ∷ rest) c ∙ ap (λ x. with_token s (behind_all p front) (byte ∷ rest) x) (faulty_only h))
