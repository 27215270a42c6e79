-- Reading a whole text, token by token.
use Rattle.std.specs.Prelude.{ℕ, ◌≡◌, Bool, List, [], ◌∷◌, take, drop, Result, Ok, Err}
use Rattle.tb_prim.specs.declared.place.Place.{Place}
use Rattle.tb_sexp.specs.declared.token.Token.{Token}
use Rattle.tb_sexp.specs.declared.token.Fault.{Fault}
use Rattle.tb_sexp.specs.declared.refusal.ReadRefusal.{ReadRefusal}
use Rattle.tb_sexp.specs.declared.refusal.ReadRefusal.TheVariants.{Syntax, Unclosed, TooDeep, TooLong, TooBig, NoMemory}
use Rattle.tb_sexp.specs.calls.Scanning.{blanks}
use Rattle.tb_sexp.specs.calls.Frames.{State}
use Rattle.tb_sexp.specs.calls.Lexing.{token_at}
use Rattle.tb_sexp.specs.Places.{text_start, behind_all}
use Rattle.tb_sexp.specs.calls.Reading.{Refuses, accept, failed, finish}
use Rattle.tb_sexp.specs.Tree.{Tree}

abbrev pub with_size : Result State ReadRefusal → ℕ → Result (State × ℕ) ReadRefusal
with_size (Ok s) n = Ok (s, n)
with_size (Err e) n = Err e

abbrev pub with_token : State → Place → List ℕ → Result (Token × ℕ) Fault → Result (State × ℕ) ReadRefusal
with_token s p bs (Ok x) = with_size (accept s p x.0 (drop x.1 bs)) x.1
with_token s p bs (Err f) = Err (failed s f p bs)

-- the token at the front of a text: what is open behind it, and how many bytes it takes
abbrev pub take_token : State → Place → List ℕ → Result (State × ℕ) ReadRefusal
take_token s p bs = with_token s p bs (token_at bs)

-- a call that takes a token did as reading does
abbrev pub Takes : Result (State × ℕ) ReadRefusal → Result ℕ ReadRefusal → State → Type 0
Takes read (Ok n) now = read ≡ Ok (now, n)
Takes read (Err e) now = Refuses e read

-- reading goes on from what is open, at a place, with the rest of the text, and ends with these data or this refusal
pub data ReadsFrom : State → Place → List ℕ → Result (List Tree) ReadRefusal → Type 0 where
  blank : {s : State} {p : Place} {bs : List ℕ} → drop (blanks bs) bs ≡ [] → ReadsFrom s p bs (finish s.finished s.frames)
  refused : {s : State} {p : Place} {bs : List ℕ} {e : ReadRefusal} (b : ℕ) (rest : List ℕ) → drop (blanks bs) bs ≡ b ∷ rest →
      take_token s (behind_all p (take (blanks bs) bs)) (drop (blanks bs) bs) ≡ Err e → ReadsFrom s p bs (Err e)
  taken : {s t : State} {p : Place} {bs : List ℕ} {n : ℕ} {r : Result (List Tree) ReadRefusal} (b : ℕ) (rest : List ℕ) →
      drop (blanks bs) bs ≡ b ∷ rest → take_token s (behind_all p (take (blanks bs) bs)) (drop (blanks bs) bs) ≡ Ok (t, n) →
      ReadsFrom t (behind_all (behind_all p (take (blanks bs) bs)) (take n (drop (blanks bs) bs))) (drop n (drop (blanks bs) bs)) r → ReadsFrom s p bs r

-- nothing is open, and nothing is read yet
abbrev pub nothing : State
nothing = record { finished = []; frames = [] }

abbrev pub RefusedWith : ReadRefusal → (Result (List Tree) ReadRefusal → Type 0) → Type 0
RefusedWith (Syntax p) reads = reads (Err (Syntax p))
RefusedWith (Unclosed p) reads = reads (Err (Unclosed p))
RefusedWith (TooDeep p) reads = reads (Err (TooDeep p))
RefusedWith (TooLong p) reads = reads (Err (TooLong p))
RefusedWith (TooBig p) reads = reads (Err (TooBig p))
RefusedWith NoMemory reads = Unit {0}

abbrev pub ReadAs : Result (List Tree) ReadRefusal → (Result (List Tree) ReadRefusal → Type 0) → Type 0
ReadAs (Ok ds) reads = reads (Ok ds)
ReadAs (Err e) reads = RefusedWith e reads

-- a whole text reads as these data or this refusal
abbrev pub Reads : Bool → List ℕ → Result (List Tree) ReadRefusal → Type 0
Reads library text r = ReadAs r (ReadsFrom nothing (text_start library) text)

-- what a call answered, its data seen as trees
abbrev pub shown : {X : Type 0} → (X → List Tree) → Result X ReadRefusal → Result (List Tree) ReadRefusal
shown f (Ok x) = Ok (f x)
shown f (Err e) = Err e
