-- The states that reading comes to are those of the fronts of rows that spell data.
use Rattle.std.proofs.Common.{◌≡◌, ◌≢◌, ◌⊎◌, inl, inr, ℕ, suc, ◌≤◌, true, false, List, [], ◌∷◌, ◌++◌, length, refl, sym, ap, ◌∙◌, subst, arith}
use Rattle.std.specs.Prelude.{Ok, Err}
use Rattle.tb_prim.specs.declared.place.Place.{Place}
use Rattle.tb_sexp.specs.declared.token.Mark.{Mark}
use Rattle.tb_sexp.specs.declared.token.Token.{Token}
use Rattle.tb_sexp.specs.declared.token.Token.TheVariants as token
use Rattle.tb_sexp.specs.declared.refusal.ReadRefusal.{ReadRefusal}
use Rattle.tb_sexp.specs.declared.refusal.ReadRefusal.TheVariants.{Syntax, TooDeep}
use Rattle.tb_sexp.specs.calls.Scanning.{blanks}
use Rattle.tb_sexp.specs.calls.Frames.{Frame, InMark, State}
use Rattle.tb_sexp.specs.Grammar.{Placed, placed, Atom, an_atom, AreData, CanGoOn, CanGoOnSomehow, OpenedLast, EndsWith}
use Rattle.tb_sexp.specs.calls.Reached.{Reaches, IsOpenAt, in_list, after_dot, after_tail, in_vector, IsLastMark}
use Rattle.tb_sexp.specs.calls.Reading.{takes_datum, accept}
use Rattle.tb_sexp.specs.calls.Runs.{nothing}
use Rattle.tb_sexp.specs.Tree.{Tree, Shape}
use Rattle.tb_sexp.proofs.GrammarSteps.{Begins, begins_mark, Step, begin_step, atom_step, step_higher, Answer, wrong, wrong_mark, deep, answer, atom_only}
use Rattle.tb_sexp.proofs.GrammarRuns.{Runs, done, next, runs_then, runs_same, reaches_runs, runs_reach, parted, last_step, full_step, accept_step}
use Rattle.tb_sexp.proofs.GrammarOpens.{Opens, run_opens, run_goes_on, run_whole, data_run, go_on_runs, go_on_steps, goes_on_with}
use Rattle.tb_sexp.proofs.GrammarBrackets.{mark_at_end, opened_at}

pub whole : (ts : List Placed) (s : State) → Reaches ts s → s.frames ≡ [] → AreData 256 ts s.finished
whole ts s reached e = run_whole (reaches_runs reached) e

pub only : (ts : List Placed) (ds : List Tree) → AreData 256 ts ds → Reaches ts (record { finished = ds; frames = [] })
only ts ds x = runs_reach (data_run x)

pub unique : (n m : ℕ) (ts : List Placed) (ds es : List Tree) → AreData n ts ds → AreData m ts es → ds ≡ es
unique n m ts ds es x y = ap (λ (s : State). s.finished) (runs_same (data_run x) (data_run y))

pub goes_on : (ts : List Placed) (s : State) → Reaches ts s → CanGoOn 256 ts
goes_on ts s reached = run_goes_on (reaches_runs reached)

pub reached_on : (ts : List Placed) → CanGoOn 256 ts → (s : State) × Reaches ts s
reached_on ts c = let on = go_on_runs c in (on.state, runs_reach on.run)

pub one_state : (ts : List Placed) (s r : State) → Reaches ts s → Reaches ts r → s ≡ r
one_state ts s r x y = runs_same (reaches_runs x) (reaches_runs y)

-- a limit that is higher
pub runs_higher : {l : ℕ} {ts : List Placed} {s z : State} (k : ℕ) → l ≤ k → Runs l s ts z → Runs k s ts z
runs_higher k le done = done
runs_higher k le (next step run) = next (step_higher k le step) (runs_higher k le run)

within : {l : ℕ} {ts : List Placed} {s : State} → Runs l nothing ts s → length s.frames ≤ l
within run = let o = run_opens run in let levels = o.levels in omega arith

is_full : {ts : List Placed} {s : State} → Runs 256 nothing ts s → 256 ≤ length s.frames → length s.frames ≡ 256
is_full run full = let most = within run in omega arith

-- what a token refused as Syntax says
abbrev pub SyntaxSays : List Placed → State → Place → Token → List ℕ → Place → Type 0
SyntaxSays ts s p t rest q = (q ≡ p) × ((CanGoOnSomehow (ts ++ placed p t ∷ []) → ⊥) ⊎ IsLastMark s t rest)

syntax_by : {ts : List Placed} {s : State} {p : Place} {t : Token} {rest : List ℕ} {q : Place} → Runs 256 nothing ts s → Answer s p t rest (Err (Syntax q)) → SyntaxSays ts s p t rest q
syntax_by {p = p} {t = t} run (wrong never) = (refl, inl (λ c. let x = go_on_steps p t run c.1 in never c.0 x.state x.step))
syntax_by run (wrong_mark {m = m} is takes full blank) = (refl, inr (record { mark = (m, is); full = is_full run full; last = blank }))

pub syntax_law : (ts : List Placed) (s : State) (p q : Place) (t : Token) (rest : List ℕ) → Reaches ts s → accept s p t rest ≡ Err (Syntax q) → SyntaxSays ts s p t rest q
syntax_law ts s p q t rest reached e = syntax_by (reaches_runs reached) (subst (λ r. Answer s p t rest r) e (answer s p t rest))

-- what a token refused as TooDeep says
abbrev pub DeepSays : List Placed → Place → Token → List ℕ → Place → Type 0
DeepSays ts p t rest q = (q ≡ p) × CanGoOnSomehow (ts ++ placed p t ∷ []) × (CanGoOn 256 (ts ++ placed p t ∷ []) → ⊥) × ((m : Mark) → t ≡ token.Mark m → blanks rest ≢ length rest)

deep_by : {ts : List Placed} {s : State} {p : Place} {t : Token} {rest : List ℕ} {q : Place} → Runs 256 nothing ts s → Answer s p t rest (Err (TooDeep q)) → DeepSays ts p t rest q
deep_by {s = s} {p = p} {t = t} run (deep b takes full last) =
    let n = suc (length s.frames) in
    let higher = runs_higher n (omega arith) run in
    (refl, (n, run_goes_on (runs_then higher (next {x = placed p t} (begin_step takes (omega arith) b) done))), λ c. full_step b full (go_on_steps p t run c).step, last)

pub deep_law : (ts : List Placed) (s : State) (p q : Place) (t : Token) (rest : List ℕ) → Reaches ts s → accept s p t rest ≡ Err (TooDeep q) → DeepSays ts p t rest q
deep_law ts s p q t rest reached e = deep_by (reaches_runs reached) (subst (λ r. Answer s p t rest r) e (answer s p t rest))

other_by : {s : State} {p : Place} {t : Token} {rest : List ℕ} {e : ReadRefusal} → Answer s p t rest (Err e) → (e ≡ Syntax p) ⊎ (e ≡ TooDeep p)
other_by (wrong never) = inl refl
other_by (wrong_mark is takes full blank) = inl refl
other_by (deep b takes full last) = inr refl

pub no_other : (s : State) (p : Place) (t : Token) (rest : List ℕ) (e : ReadRefusal) → accept s p t rest ≡ Err e → (e ≡ Syntax p) ⊎ (e ≡ TooDeep p)
no_other s p t rest e is = other_by (subst (λ r. Answer s p t rest r) is (answer s p t rest))

pub accepted : (ts : List Placed) (s : State) (p : Place) (t : Token) (rest : List ℕ) → Reaches ts s → CanGoOn 256 (ts ++ placed p t ∷ []) → (r : State) × (accept s p t rest ≡ Ok r)
accepted ts s p t rest reached c = let x = go_on_steps p t (reaches_runs reached) c in (x.state, accept_step s x.state p t rest x.step)

pub atom_taken : (ts : List Placed) (s : State) (p : Place) (t : Token) (shape : Shape) → Reaches ts s → takes_datum s.frames ≡ true → Atom t shape → CanGoOn 256 (ts ++ placed p t ∷ [])
atom_taken ts s p t shape reached takes a = let o = run_opens (reaches_runs reached) in goes_on_with o.opens o.levels takes (an_atom a)

pub atom_refused : (ts : List Placed) (s : State) (p : Place) (t : Token) (shape : Shape) → Reaches ts s → takes_datum s.frames ≡ false → Atom t shape → CanGoOnSomehow (ts ++ placed p t ∷ []) → ⊥
atom_refused ts s p t shape reached takes a c = atom_only takes a (go_on_steps p t (reaches_runs reached) c.1).step

-- while something is open, the tokens spell no data
unfinished : {ts : List Placed} {s : State} {f : Frame} {fs : List Frame} → Runs 256 nothing ts s → s.frames ≡ f ∷ fs → (n : ℕ) (ds : List Tree) → AreData n ts ds → ⊥
unfinished {f = f} {fs = fs} run is n ds x = let e : [] ≡ f ∷ fs = ap (λ (r : State). r.frames) (runs_same (data_run x) run) ∙ is in cc

pub mark_last : (ts : List Placed) (s : State) (q : Place) (m : Mark) (fs : List Frame) → Reaches ts s → s.frames ≡ InMark q m ∷ fs →
    EndsWith ts (placed q (token.Mark m)) × ((n : ℕ) (ds : List Tree) → AreData n ts ds → ⊥)
mark_last ts s q m fs reached is = let run = reaches_runs reached in let o = run_opens run in (mark_at_end (subst (λ gs. Opens o.left ts s.finished gs) is o.opens), unfinished run is)

frame_of_mark : {p : Place} {m : Mark} {f : Frame} → Begins p (token.Mark m) f → f ≡ InMark p m
frame_of_mark begins_mark = refl

pub marked_frames : {l : ℕ} {ds : List Tree} {fs : List Frame} {p : Place} {m : Mark} {s : State} → Step l ds fs p (token.Mark m) s → s.frames ≡ InMark p m ∷ fs
marked_frames {fs = fs} (begin_step takes low b) = ap (λ f. f ∷ fs) (frame_of_mark b)
marked_frames (atom_step takes a) = elim a [ ]

open_no_mark : {q p : Place} {m : Mark} {f : Frame} → IsOpenAt f q → f ≢ InMark p m
open_no_mark in_list e = cc
open_no_mark after_dot e = cc
open_no_mark after_tail e = cc
open_no_mark in_vector e = cc

-- behind a mark the mark is open
no_mark_last : {ts : List Placed} {s : State} {f : Frame} {fs : List Frame} {q : Place} → Runs 256 nothing ts s → s.frames ≡ f ∷ fs → IsOpenAt f q → (p : Place) (m : Mark) → EndsWith ts (placed p (token.Mark m)) → ⊥
no_mark_last {s = s} {f = f} {fs = fs} run is o p m e =
    let parts = parted nothing s e.front (placed p (token.Mark m) ∷ []) (subst (λ us. Runs 256 nothing us s) e.is run) in
    let frames : f ∷ fs ≡ InMark p m ∷ parts.middle.frames = sym is ∙ marked_frames (last_step parts.second) in
    open_no_mark {p = p} {m = m} o (cc)

pub bracket_last : (ts : List Placed) (s : State) (q : Place) (f : Frame) (fs : List Frame) → Reaches ts s → s.frames ≡ f ∷ fs → IsOpenAt f q →
    OpenedLast ts q × ((p : Place) (m : Mark) → EndsWith ts (placed p (token.Mark m)) → ⊥) × ((n : ℕ) (ds : List Tree) → AreData n ts ds → ⊥)
bracket_last ts s q f fs reached is at_q =
    let run = reaches_runs reached in let o = run_opens run in
    (opened_at at_q (subst (λ gs. Opens o.left ts s.finished gs) is o.opens), no_mark_last run is at_q, unfinished run is)
