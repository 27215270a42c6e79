-- What one token does where a datum may stand at most so many levels deep, as a relation by cases, and runs of tokens.
use Rattle.std.proofs.Common.{◌≡◌, ◌≢◌, ℕ, ◌<◌, ◌≤◌, Bool, true, false, cond, List, [], ◌∷◌, length, refl, sym, ◌∙◌, arith}
use Rattle.std.specs.Prelude.{◌==◌, nat_lt, Result, Ok, Err}
use Rattle.std.proofs.lemmas.Bool.Decides.{nat_tests}
use Rattle.tb_prim.specs.declared.place.Place.{Place}
use Rattle.tb_sexp.specs.declared.token.Mark.{Mark}
use Rattle.tb_sexp.specs.declared.token.Token.{Token}
use Rattle.tb_sexp.specs.declared.token.Token.TheVariants as token
use Rattle.tb_sexp.specs.declared.refusal.ReadRefusal.{ReadRefusal}
use Rattle.tb_sexp.specs.declared.refusal.ReadRefusal.TheVariants.{Syntax, TooDeep}
use Rattle.tb_sexp.specs.calls.Scanning.{blanks}
use Rattle.tb_sexp.specs.calls.Frames.{Frame, InMark, InList, AfterDot, AfterTail, InVector, State, give}
use Rattle.tb_sexp.specs.ListShapes.{list_of, dotted}
use Rattle.tb_sexp.specs.Grammar.{Atom, of_bool, of_fix, of_char, of_str, of_name}
use Rattle.tb_sexp.specs.calls.Reading.{takes_datum, close, dot, accept}
use Rattle.tb_sexp.specs.Tree.{Tree, At, Shape, Vector}
use Rattle.tb_sexp.specs.View.{trees}

-- a token that begins something, and what is then open
pub data Begins : Place → Token → Frame → Type 0 where
  begins_list : {p : Place} → Begins p token.Open (InList p [])
  begins_vector : {p : Place} → Begins p token.OpenVector (InVector p [])
  begins_mark : {p : Place} {m : Mark} → Begins p (token.Mark m) (InMark p m)

-- what a token does to the data so far and to what is open, where at most `l` may be open
pub data Step (l : ℕ) : List Tree → List Frame → Place → Token → State → Type 0 where
  begin_step : {ds : List Tree} {fs : List Frame} {p : Place} {t : Token} {f : Frame} →
      takes_datum fs ≡ true → length fs < l → Begins p t f → Step l ds fs p t (record { finished = ds; frames = f ∷ fs })
  atom_step : {ds : List Tree} {fs : List Frame} {p : Place} {t : Token} {s : Shape} →
      takes_datum fs ≡ true → Atom t s → Step l ds fs p t (give ds fs (At p s))
  list_step : {ds es : List Tree} {fs : List Frame} {p q : Place} → Step l ds (InList q es ∷ fs) p token.Close (give ds fs (At q (list_of es)))
  dotted_step : {ds es : List Tree} {d : Tree} {fs : List Frame} {p q : Place} → Step l ds (AfterTail q es d ∷ fs) p token.Close (give ds fs (At q (dotted es d)))
  vector_step : {ds es : List Tree} {fs : List Frame} {p q : Place} → Step l ds (InVector q es ∷ fs) p token.Close (give ds fs (At q (Vector (trees es))))
  dot_step : {ds es : List Tree} {fs : List Frame} {p q : Place} → es ≢ [] → Step l ds (InList q es ∷ fs) p token.Dot (record { finished = ds; frames = AfterDot q es ∷ fs })

pub step_higher : {l : ℕ} {ds : List Tree} {fs : List Frame} {p : Place} {t : Token} {s : State} (k : ℕ) → l ≤ k → Step l ds fs p t s → Step k ds fs p t s
step_higher k le (begin_step takes low b) = begin_step takes (omega arith) b
step_higher k le (atom_step takes a) = atom_step takes a
step_higher k le list_step = list_step
step_higher k le dotted_step = dotted_step
step_higher k le vector_step = vector_step
step_higher k le (dot_step some) = dot_step some

-- an answer to a token
pub data Answer (s : State) (p : Place) (t : Token) (rest : List ℕ) : Result State ReadRefusal → Type 0 where
  goes : {s' : State} → Step 256 s.finished s.frames p t s' → Answer s p t rest (Ok s')
  wrong : ((l : ℕ) (s' : State) → Step l s.finished s.frames p t s' → ⊥) → Answer s p t rest (Err (Syntax p))
  wrong_mark : {m : Mark} → t ≡ token.Mark m → takes_datum s.frames ≡ true → 256 ≤ length s.frames → blanks rest ≡ length rest → Answer s p t rest (Err (Syntax p))
  deep : {f : Frame} → Begins p t f → takes_datum s.frames ≡ true → 256 ≤ length s.frames → ((m : Mark) → t ≡ token.Mark m → blanks rest ≢ length rest) → Answer s p t rest (Err (TooDeep p))

false_true : (b : Bool) → b ≡ false → b ≡ true → ⊥
false_true b f t = let e : ◌≡◌ {A = Bool} false true = sym f ∙ t in cc

below : (a b : ℕ) → nat_lt a b ≡ true → a < b
below a b h = grind (arith, nat_tests)

not_below : (a b : ℕ) → nat_lt a b ≡ false → b ≤ a
not_below a b h = grind (arith, nat_tests)

same_by : (a b : ℕ) → (a == b) ≡ true → a ≡ b
same_by a b h = grind (arith, nat_tests)

other_by : (a b : ℕ) → (a == b) ≡ false → a ≢ b
other_by a b h = grind (arith, nat_tests)

-- where no datum may stand, no atom does
pub atom_only : {l : ℕ} {ds : List Tree} {fs : List Frame} {p : Place} {t : Token} {s : Shape} {s' : State} → takes_datum fs ≡ false → Atom t s → Step l ds fs p t s' → ⊥
atom_only full a (begin_step takes low b) = false_true _ full takes
atom_only full a (atom_step takes b) = false_true _ full takes
atom_only full a list_step = elim a [ ]
atom_only full a dotted_step = elim a [ ]
atom_only full a vector_step = elim a [ ]
atom_only full a (dot_step some) = elim a [ ]

-- a beginning token
begin_answer : (s : State) (p : Place) (t : Token) (rest : List ℕ) (f : Frame) (refusal : ReadRefusal) (takes low : Bool) → Begins p t f → takes_datum s.frames ≡ takes → nat_lt (length s.frames) 256 ≡ low →
    (takes_datum s.frames ≡ true → 256 ≤ length s.frames → Answer s p t rest (Err refusal)) →
    ((l : ℕ) (s' : State) → Step l s.finished s.frames p t s' → takes_datum s.frames ≡ true) →
    Answer s p t rest (cond takes (cond low (Ok (record { finished = s.finished; frames = f ∷ s.frames })) (Err refusal)) (Err (Syntax p)))
begin_answer s p t rest f refusal true true b takes low is_deep needs = goes (begin_step takes (below _ _ low) b)
begin_answer s p t rest f refusal true false b takes low is_deep needs = is_deep takes (not_below _ _ low)
begin_answer s p t rest f refusal false low b takes e is_deep needs = wrong (λ l s' x. false_true _ takes (needs l s' x))

open_needs : (ds : List Tree) (fs : List Frame) (p : Place) (l : ℕ) (s' : State) → Step l ds fs p token.Open s' → takes_datum fs ≡ true
open_needs ds fs p l s' (begin_step takes low b) = takes
open_needs ds fs p l s' (atom_step takes a) = takes

vector_needs : (ds : List Tree) (fs : List Frame) (p : Place) (l : ℕ) (s' : State) → Step l ds fs p token.OpenVector s' → takes_datum fs ≡ true
vector_needs ds fs p l s' (begin_step takes low b) = takes
vector_needs ds fs p l s' (atom_step takes a) = takes

mark_needs : (ds : List Tree) (fs : List Frame) (p : Place) (m : Mark) (l : ℕ) (s' : State) → Step l ds fs p (token.Mark m) s' → takes_datum fs ≡ true
mark_needs ds fs p m l s' (begin_step takes low b) = takes
mark_needs ds fs p m l s' (atom_step takes a) = takes

deep_mark_answer : (s : State) (p : Place) (m : Mark) (rest : List ℕ) (last : Bool) → (blanks rest == length rest) ≡ last → takes_datum s.frames ≡ true → 256 ≤ length s.frames →
    Answer s p (token.Mark m) rest (Err (cond last (Syntax p) (TooDeep p)))
deep_mark_answer s p m rest true e takes full = wrong_mark refl takes full (same_by _ _ e)
deep_mark_answer s p m rest false e takes full = deep begins_mark takes full (λ n is. other_by _ _ e)

atom_answer : (s : State) (p : Place) (t : Token) (shape : Shape) (rest : List ℕ) (takes : Bool) → Atom t shape → takes_datum s.frames ≡ takes →
    Answer s p t rest (cond takes (Ok (give s.finished s.frames (At p shape))) (Err (Syntax p)))
atom_answer s p t shape rest true a takes = goes (atom_step takes a)
atom_answer s p t shape rest false a takes = wrong (λ l s' x. atom_only takes a x)

open_no_mark : (m : Mark) → token.Open ≢ token.Mark m
open_no_mark m e = cc

vector_no_mark : (m : Mark) → token.OpenVector ≢ token.Mark m
vector_no_mark m e = cc

nothing_closes : (ds : List Tree) (p : Place) (l : ℕ) (s' : State) → Step l ds [] p token.Close s' → ⊥
nothing_closes ds p l s' (begin_step takes low b) = elim b [ ]
nothing_closes ds p l s' (atom_step takes a) = elim a [ ]

mark_not_closed : (ds : List Tree) (fs : List Frame) (q p : Place) (m : Mark) (l : ℕ) (s' : State) → Step l ds (InMark q m ∷ fs) p token.Close s' → ⊥
mark_not_closed ds fs q p m l s' (begin_step takes low b) = elim b [ ]
mark_not_closed ds fs q p m l s' (atom_step takes a) = elim a [ ]

dot_not_closed : (ds es : List Tree) (fs : List Frame) (q p : Place) (l : ℕ) (s' : State) → Step l ds (AfterDot q es ∷ fs) p token.Close s' → ⊥
dot_not_closed ds es fs q p l s' (begin_step takes low b) = elim b [ ]
dot_not_closed ds es fs q p l s' (atom_step takes a) = elim a [ ]

close_answer : (ds : List Tree) (p : Place) (rest : List ℕ) (fs : List Frame) → Answer (record { finished = ds; frames = fs }) p token.Close rest (close ds fs p)
close_answer ds p rest [] = wrong (nothing_closes ds p)
close_answer ds p rest (InMark q m ∷ fs) = wrong (mark_not_closed ds fs q p m)
close_answer ds p rest (InList q es ∷ fs) = goes list_step
close_answer ds p rest (AfterDot q es ∷ fs) = wrong (dot_not_closed ds es fs q p)
close_answer ds p rest (AfterTail q es d ∷ fs) = goes dotted_step
close_answer ds p rest (InVector q es ∷ fs) = goes vector_step

-- what a dot needs on top
pub data TakesDot : List Frame → Type 0 where
  takes_dot : {q : Place} {es : List Tree} {fs : List Frame} → es ≢ [] → TakesDot (InList q es ∷ fs)

dot_needs : (ds : List Tree) (fs : List Frame) (p : Place) (l : ℕ) (s' : State) → Step l ds fs p token.Dot s' → TakesDot fs
dot_needs ds fs p l s' (begin_step takes low b) = elim b [ ]
dot_needs ds fs p l s' (atom_step takes a) = elim a [ ]
dot_needs ds fs p l s' (dot_step some) = takes_dot some

empty_takes_no_dot : (q : Place) (es : List Tree) (fs : List Frame) → es ≡ [] → TakesDot (InList q es ∷ fs) → ⊥
empty_takes_no_dot q es fs e (takes_dot some) = some e

empty_by : (es : List Tree) → (length es == 0) ≡ true → es ≡ []
empty_by [] h = refl
empty_by (e ∷ es) h = grind (arith, nat_tests)

some_by : (es : List Tree) → (length es == 0) ≡ false → es ≢ []
some_by [] h is = let e : ◌≡◌ {A = Bool} true false = h in cc
some_by (e ∷ es) h is = cc

dot_list_answer : (ds es : List Tree) (q p : Place) (rest : List ℕ) (fs : List Frame) (empty : Bool) → (length es == 0) ≡ empty →
    Answer (record { finished = ds; frames = InList q es ∷ fs }) p token.Dot rest (cond empty (Err (Syntax p)) (Ok (record { finished = ds; frames = AfterDot q es ∷ fs })))
dot_list_answer ds es q p rest fs true e = wrong (λ l s' x. empty_takes_no_dot q es fs (empty_by es e) (dot_needs ds (InList q es ∷ fs) p l s' x))
dot_list_answer ds es q p rest fs false e = goes (dot_step (some_by es e))

takes_no_dot : (ds : List Tree) (fs : List Frame) (p : Place) (rest : List ℕ) → (TakesDot fs → ⊥) → Answer (record { finished = ds; frames = fs }) p token.Dot rest (Err (Syntax p))
takes_no_dot ds fs p rest none = wrong (λ l s' x. none (dot_needs ds fs p l s' x))

dot_answer : (ds : List Tree) (p : Place) (rest : List ℕ) (fs : List Frame) → Answer (record { finished = ds; frames = fs }) p token.Dot rest (dot ds fs p)
dot_answer ds p rest [] = takes_no_dot ds [] p rest (elim [ ])
dot_answer ds p rest (InMark q m ∷ fs) = takes_no_dot ds (InMark q m ∷ fs) p rest (elim [ ])
dot_answer ds p rest (InList q es ∷ fs) = dot_list_answer ds es q p rest fs (length es == 0) refl
dot_answer ds p rest (AfterDot q es ∷ fs) = takes_no_dot ds (AfterDot q es ∷ fs) p rest (elim [ ])
dot_answer ds p rest (AfterTail q es d ∷ fs) = takes_no_dot ds (AfterTail q es d ∷ fs) p rest (elim [ ])
dot_answer ds p rest (InVector q es ∷ fs) = takes_no_dot ds (InVector q es ∷ fs) p rest (elim [ ])

-- each answer is one of the four
pub answer : (s : State) (p : Place) (t : Token) (rest : List ℕ) → Answer s p t rest (accept s p t rest)
answer s p token.Open rest = begin_answer s p token.Open rest (InList p []) (TooDeep p) _ _ begins_list refl refl (λ takes full. deep begins_list takes full (λ m e. absurd (open_no_mark m e))) (open_needs s.finished s.frames p)
answer s p token.OpenVector rest = begin_answer s p token.OpenVector rest (InVector p []) (TooDeep p) _ _ begins_vector refl refl (λ takes full. deep begins_vector takes full (λ m e. absurd (vector_no_mark m e))) (vector_needs s.finished s.frames p)
answer s p token.Close rest = close_answer s.finished p rest s.frames
answer s p (token.Mark m) rest = begin_answer s p (token.Mark m) rest (InMark p m) _ _ _ begins_mark refl refl (deep_mark_answer s p m rest _ refl) (mark_needs s.finished s.frames p m)
answer s p token.Dot rest = dot_answer s.finished p rest s.frames
answer s p (token.Bool b) rest = atom_answer s p _ _ rest _ of_bool refl
answer s p (token.Fix n) rest = atom_answer s p _ _ rest _ of_fix refl
answer s p (token.Char c) rest = atom_answer s p _ _ rest _ of_char refl
answer s p (token.Str text) rest = atom_answer s p _ _ rest _ of_str refl
answer s p (token.Name text) rest = atom_answer s p _ _ rest _ of_name refl
