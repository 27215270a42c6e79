-- What one token does to the data that are being read.
use Rattle.std.specs.Prelude.{ℕ, ◌≡◌, ◌==◌, nat_lt, Bool, true, false, cond, List, [], ◌∷◌, length, Result, Ok, Err}
use Rattle.tb_prim.specs.declared.place.Place.{Place}
use Rattle.tb_sexp.specs.declared.token.Token.{Token}
use Rattle.tb_sexp.specs.declared.token.Token.TheVariants as token
use Rattle.tb_sexp.specs.declared.token.Fault.{Fault}
use Rattle.tb_sexp.specs.declared.refusal.ReadRefusal.{ReadRefusal}
use Rattle.tb_sexp.specs.declared.refusal.ReadRefusal.TheVariants.{Syntax, Unclosed, TooDeep, TooLong, TooBig, NoMemory}
use Rattle.tb_sexp.specs.calls.Scanning.{blanks}
use Rattle.tb_sexp.specs.calls.Frames.{Frame, InMark, InList, AfterDot, AfterTail, InVector, State, give}
use Rattle.tb_sexp.specs.ListShapes.{list_of, dotted}
use Rattle.tb_sexp.specs.Faults.{refusal_of}
use Rattle.tb_sexp.specs.Tree.{Tree, At, Shape, Truth, Fixnum, Character, String, Name, Vector}
use Rattle.tb_sexp.specs.View.{trees}

-- a call refused as reading does, unless memory ran out
abbrev pub Refuses : {X : Type 0} → ReadRefusal → Result X ReadRefusal → Type 0
Refuses (Syntax p) read = read ≡ Err (Syntax p)
Refuses (Unclosed p) read = read ≡ Err (Unclosed p)
Refuses (TooDeep p) read = read ≡ Err (TooDeep p)
Refuses (TooLong p) read = read ≡ Err (TooLong p)
Refuses (TooBig p) read = read ≡ Err (TooBig p)
Refuses NoMemory read = Unit {0}

-- a call that changes what is open did as reading does
abbrev pub Accepts : Result State ReadRefusal → Result (Unit {0}) ReadRefusal → State → Type 0
Accepts read (Ok u) now = read ≡ Ok now
Accepts read (Err e) now = Refuses e read

-- behind the tail of a dotted list no datum can stand
abbrev pub takes_datum : List Frame → Bool
takes_datum [] = true
takes_datum (InMark p m ∷ fs) = true
takes_datum (InList p ds ∷ fs) = true
takes_datum (AfterDot p ds ∷ fs) = true
takes_datum (AfterTail p ds t ∷ fs) = false
takes_datum (InVector p ds ∷ fs) = true

-- at most 256 lists, vectors and marks are not finished
abbrev pub begin : State → Place → Frame → ReadRefusal → Result State ReadRefusal
begin s p f deep =
    cond (takes_datum s.frames)
    (cond (nat_lt (length s.frames) 256) (Ok (record { finished = s.finished; frames = f ∷ s.frames })) (Err deep)) (Err (Syntax p))

-- a mark that only whitespace and comments follow is Syntax, however deep it stands
abbrev pub deep_mark : Place → List ℕ → ReadRefusal
deep_mark p rest = cond (blanks rest == length rest) (Syntax p) (TooDeep p)

abbrev pub datum : State → Place → Shape → Result State ReadRefusal
datum s p shape = cond (takes_datum s.frames) (Ok (give s.finished s.frames (At p shape))) (Err (Syntax p))

-- a closing bracket ends a list or a vector
abbrev pub close : List Tree → List Frame → Place → Result State ReadRefusal
close finished [] p = Err (Syntax p)
close finished (InMark q m ∷ fs) p = Err (Syntax p)
close finished (InList q ds ∷ fs) p = Ok (give finished fs (At q (list_of ds)))
close finished (AfterDot q ds ∷ fs) p = Err (Syntax p)
close finished (AfterTail q ds t ∷ fs) p = Ok (give finished fs (At q (dotted ds t)))
close finished (InVector q ds ∷ fs) p = Ok (give finished fs (At q (Vector (trees ds))))

-- a dot stands in a list that has an element
abbrev pub dot : List Tree → List Frame → Place → Result State ReadRefusal
dot finished [] p = Err (Syntax p)
dot finished (InMark q m ∷ fs) p = Err (Syntax p)
dot finished (InList q ds ∷ fs) p =
    cond (length ds == 0) (Err (Syntax p)) (Ok (record { finished = finished; frames = AfterDot q ds ∷ fs }))
dot finished (AfterDot q ds ∷ fs) p = Err (Syntax p)
dot finished (AfterTail q ds t ∷ fs) p = Err (Syntax p)
dot finished (InVector q ds ∷ fs) p = Err (Syntax p)

-- a token at a place, before the rest of the text
abbrev pub accept : State → Place → Token → List ℕ → Result State ReadRefusal
accept s p token.Open rest = begin s p (InList p []) (TooDeep p)
accept s p token.OpenVector rest = begin s p (InVector p []) (TooDeep p)
accept s p token.Close rest = close s.finished s.frames p
accept s p (token.Mark m) rest = begin s p (InMark p m) (deep_mark p rest)
accept s p token.Dot rest = dot s.finished s.frames p
accept s p (token.Bool b) rest = datum s p (Truth b)
accept s p (token.Fix n) rest = datum s p (Fixnum n)
accept s p (token.Char c) rest = datum s p (Character c)
accept s p (token.Str text) rest = datum s p (String text)
accept s p (token.Name text) rest = datum s p (Name text 0)

-- no fault but Syntax counts where no datum can stand
abbrev pub failed : State → Fault → Place → List ℕ → ReadRefusal
failed s f p rest = cond (takes_datum s.frames) (refusal_of f p rest) (Syntax p)

-- the end of the text
abbrev pub finish : List Tree → List Frame → Result (List Tree) ReadRefusal
finish finished [] = Ok finished
finish finished (InMark q m ∷ fs) = Err (Syntax q)
finish finished (InList q ds ∷ fs) = Err (Unclosed q)
finish finished (AfterDot q ds ∷ fs) = Err (Unclosed q)
finish finished (AfterTail q ds t ∷ fs) = Err (Unclosed q)
finish finished (InVector q ds ∷ fs) = Err (Unclosed q)
