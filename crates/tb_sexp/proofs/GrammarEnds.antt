-- What each answer says about the row of tokens, and each row about the answer.
use Rattle.std.proofs.Common.{◌≡◌, ◌≢◌, ◌≤◌, ◌⊎◌, inl, inr, ℕ, List, [], ◌∷◌, ◌++◌, length, refl, ap, ◌∙◌, subst}
use Rattle.std.specs.Prelude.{Result, Ok, Err}
use Rattle.tb_prim.specs.declared.place.Place.{Place}
use Rattle.tb_sexp.specs.declared.token.Mark.{Mark}
use Rattle.tb_sexp.specs.declared.token.Token.{Token}
use Rattle.tb_sexp.specs.declared.token.Token.TheVariants as token
use Rattle.tb_sexp.specs.declared.refusal.ReadRefusal.{ReadRefusal}
use Rattle.tb_sexp.specs.declared.refusal.ReadRefusal.TheVariants.{Syntax, Unclosed, TooDeep}
use Rattle.tb_sexp.specs.calls.Scanning.{blanks}
use Rattle.tb_sexp.specs.calls.Frames.{Frame, InMark, InList, AfterDot, AfterTail, InVector, State}
use Rattle.tb_sexp.specs.Grammar.{Placed, placed, AreData, CanGoOn, CanGoOnSomehow, OpenedLast, EndsWith}
use Rattle.tb_sexp.specs.calls.Reached.{Reaches, one_more, in_list, after_dot, after_tail, in_vector}
use Rattle.tb_sexp.specs.calls.Reading.{accept, finish}
use Rattle.tb_sexp.specs.Tree.{Tree}
use Rattle.tb_sexp.proofs.GrammarOpens.{run_whole, data_run, go_on_runs, run_goes_on}
use Rattle.tb_sexp.proofs.GrammarLaws.{whole, only, one_state, goes_on, runs_higher, syntax_law, deep_law, no_other, mark_last, bracket_last}

abbrev pub MarkAtEnd : List Placed → Place → Type 0
MarkAtEnd ts q = (m : Mark) × EndsWith ts (placed q (token.Mark m)) × ((n : ℕ) (ds : List Tree) → AreData n ts ds → ⊥)

abbrev pub BracketOpen : List Placed → Place → Type 0
BracketOpen ts q = OpenedLast ts q × ((p : Place) (m : Mark) → EndsWith ts (placed p (token.Mark m)) → ⊥) × ((n : ℕ) (ds : List Tree) → AreData n ts ds → ⊥)

-- an answer at the end of the text
pub data Ends (ts : List Placed) : Result (List Tree) ReadRefusal → Type 0 where
  ends_whole : {ds : List Tree} → AreData 256 ts ds → Ends ts (Ok ds)
  ends_at_mark : {q : Place} → MarkAtEnd ts q → Ends ts (Err (Syntax q))
  ends_open : {q : Place} → BracketOpen ts q → Ends ts (Err (Unclosed q))

pub ended : (ts : List Placed) (s : State) (fs : List Frame) → Reaches ts s → s.frames ≡ fs → Ends ts (finish s.finished fs)
ended ts s [] reached is = ends_whole (whole ts s reached is)
ended ts s (InMark q m ∷ fs) reached is = let x = mark_last ts s q m fs reached is in ends_at_mark (m, x.0, x.1)
ended ts s (InList q es ∷ fs) reached is = ends_open (bracket_last ts s q (InList q es) fs reached is in_list)
ended ts s (AfterDot q es ∷ fs) reached is = ends_open (bracket_last ts s q (AfterDot q es) fs reached is after_dot)
ended ts s (AfterTail q es d ∷ fs) reached is = ends_open (bracket_last ts s q (AfterTail q es d) fs reached is after_tail)
ended ts s (InVector q es ∷ fs) reached is = ends_open (bracket_last ts s q (InVector q es) fs reached is in_vector)

ends_by : (ts : List Placed) (s : State) (r : Result (List Tree) ReadRefusal) → Reaches ts s → finish s.finished s.frames ≡ r → Ends ts r
ends_by ts s r reached e = subst (λ a. Ends ts a) e (ended ts s s.frames reached refl)

of_whole : {ts : List Placed} {ds : List Tree} → Ends ts (Ok ds) → AreData 256 ts ds
of_whole (ends_whole x) = x

of_mark : {ts : List Placed} {q : Place} → Ends ts (Err (Syntax q)) → MarkAtEnd ts q
of_mark (ends_at_mark x) = x

of_open : {ts : List Placed} {q : Place} → Ends ts (Err (Unclosed q)) → BracketOpen ts q
of_open (ends_open x) = x

of_refusal : {ts : List Placed} {e : ReadRefusal} → Ends ts (Err e) → (q : Place) × ((e ≡ Syntax q) ⊎ (e ≡ Unclosed q))
of_refusal (ends_at_mark {q = q} x) = (q, inl refl)
of_refusal (ends_open {q = q} x) = (q, inr refl)

pub finish_whole : (ts : List Placed) (s : State) (ds : List Tree) → Reaches ts s → finish s.finished s.frames ≡ Ok ds → AreData 256 ts ds
finish_whole ts s ds reached e = of_whole (ends_by ts s (Ok ds) reached e)

pub finish_only : (ts : List Placed) (s : State) (ds : List Tree) → Reaches ts s → AreData 256 ts ds → finish s.finished s.frames ≡ Ok ds
finish_only ts s ds reached x = ap (λ (r : State). finish r.finished r.frames) (one_state ts s (record { finished = ds; frames = [] }) reached (only ts ds x))

pub finish_mark : (ts : List Placed) (s : State) (q : Place) → Reaches ts s → finish s.finished s.frames ≡ Err (Syntax q) → MarkAtEnd ts q
finish_mark ts s q reached e = of_mark (ends_by ts s (Err (Syntax q)) reached e)

pub finish_open : (ts : List Placed) (s : State) (q : Place) → Reaches ts s → finish s.finished s.frames ≡ Err (Unclosed q) → BracketOpen ts q
finish_open ts s q reached e = of_open (ends_by ts s (Err (Unclosed q)) reached e)

pub finish_refusal : (ts : List Placed) (s : State) (e : ReadRefusal) → Reaches ts s → finish s.finished s.frames ≡ Err e → (q : Place) × ((e ≡ Syntax q) ⊎ (e ≡ Unclosed q))
finish_refusal ts s e reached is = of_refusal (ends_by ts s (Err e) reached is)

-- a token behind which no row can go on as deep is refused
refused : (ts : List Placed) (s : State) (p : Place) (t : Token) (rest : List ℕ) (r : Result State ReadRefusal) → Reaches ts s → (CanGoOn 256 (ts ++ placed p t ∷ []) → ⊥) → accept s p t rest ≡ r →
    (accept s p t rest ≡ Err (Syntax p)) ⊎ (accept s p t rest ≡ Err (TooDeep p))
refused ts s p t rest (Ok z) reached never e = absurd (never (goes_on (ts ++ placed p t ∷ []) z (one_more p t rest reached e)))
refused ts s p t rest (Err x) reached never e = elim (no_other s p t rest x e) [ inl is ↦ inl (e ∙ ap (λ (y : ReadRefusal). Err y) is) | inr is ↦ inr (e ∙ ap (λ (y : ReadRefusal). Err y) is) ]

-- no row goes on behind the token
pub refused_everywhere : (ts : List Placed) (s : State) (p : Place) (t : Token) (rest : List ℕ) → Reaches ts s → (CanGoOnSomehow (ts ++ placed p t ∷ []) → ⊥) → accept s p t rest ≡ Err (Syntax p)
refused_everywhere ts s p t rest reached never =
    elim (refused ts s p t rest _ reached (λ c. never (256, c)) refl) [ inl e ↦ e | inr e ↦ absurd (never (deep_law ts s p p t rest reached e).1) ]

-- a row goes on behind the token, but not with so few levels
pub refused_as_deep : (ts : List Placed) (s : State) (p : Place) (t : Token) (rest : List ℕ) → Reaches ts s → CanGoOnSomehow (ts ++ placed p t ∷ []) → (CanGoOn 256 (ts ++ placed p t ∷ []) → ⊥) →
    ((m : Mark) → t ≡ token.Mark m → blanks rest ≢ length rest) → accept s p t rest ≡ Err (TooDeep p)
refused_as_deep ts s p t rest reached some never more =
    elim (refused ts s p t rest _ reached never refl) [ inl e ↦ absurd (elim (syntax_law ts s p p t rest reached e).1 [ inl none ↦ none some | inr last ↦ more last.mark.0 last.mark.1 last.last ]) | inr e ↦ e ]

-- the same of a mark behind which no token stands
pub refused_at_end : (ts : List Placed) (s : State) (p : Place) (m : Mark) (rest : List ℕ) → Reaches ts s → (CanGoOn 256 (ts ++ placed p (token.Mark m) ∷ []) → ⊥) → blanks rest ≡ length rest →
    accept s p (token.Mark m) rest ≡ Err (Syntax p)
refused_at_end ts s p m rest reached never blank =
    elim (refused ts s p (token.Mark m) rest _ reached never refl) [ inl e ↦ e | inr e ↦ absurd ((deep_law ts s p p (token.Mark m) rest reached e).3 m refl blank) ]

-- more levels
pub data_deeper : (n m : ℕ) (ts : List Placed) (ds : List Tree) → n ≤ m → AreData n ts ds → AreData m ts ds
data_deeper n m ts ds le x = run_whole (runs_higher m le (data_run x)) refl

pub goes_on_deeper : (n m : ℕ) (ts : List Placed) → n ≤ m → CanGoOn n ts → CanGoOn m ts
goes_on_deeper n m ts le c = run_goes_on (runs_higher m le (go_on_runs c).run)
