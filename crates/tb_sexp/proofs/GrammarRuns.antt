-- Runs of tokens: each is determined, and the tokens of a datum give it to what waits for it.
use Rattle.std.proofs.Common.{◌≡◌, ℕ, suc, ◌+◌, ◌≤◌, true, List, [], ◌∷◌, ◌++◌, length, refl, sym, ap, subst, arith, append_assoc, append-nil}
use Rattle.std.specs.Prelude.{Result, Ok}
use Rattle.tb_prim.specs.declared.place.Place.{Place}
use Rattle.tb_sexp.specs.declared.token.Token.{Token}
use Rattle.tb_sexp.specs.declared.refusal.ReadRefusal.{ReadRefusal}
use Rattle.tb_sexp.specs.calls.Frames.{Frame, InMark, InList, AfterDot, InVector, State, give}
use Rattle.tb_sexp.specs.Grammar.{Placed, placed, Atom, of_bool, of_fix, of_char, of_str, of_name, IsDatum, an_atom, a_mark, a_list, a_dotted_list, a_vector, AreData, no_data, more_data}
use Rattle.tb_sexp.specs.calls.Reached.{Reaches, start, one_more}
use Rattle.tb_sexp.specs.calls.Reading.{takes_datum, accept}
use Rattle.tb_sexp.specs.calls.Runs.{nothing}
use Rattle.tb_sexp.specs.Tree.{Tree, At, Shape}
use Rattle.tb_sexp.proofs.GrammarSteps.{Begins, begins_list, begins_vector, begins_mark, Step, begin_step, atom_step, list_step, dotted_step, vector_step, dot_step, Answer, goes, wrong, wrong_mark, deep, answer}

same_frame : {p : Place} {t : Token} {f g : Frame} → Begins p t f → Begins p t g → f ≡ g
same_frame begins_list begins_list = refl
same_frame begins_vector begins_vector = refl
same_frame begins_mark begins_mark = refl

same_shape : {t : Token} {s r : Shape} → Atom t s → Atom t r → s ≡ r
same_shape of_bool of_bool = refl
same_shape of_fix of_fix = refl
same_shape of_char of_char = refl
same_shape of_str of_str = refl
same_shape of_name of_name = refl

begins_no_atom : {p : Place} {t : Token} {f : Frame} {s : Shape} → Begins p t f → Atom t s → ⊥
begins_no_atom begins_list a = elim a [ ]
begins_no_atom begins_vector a = elim a [ ]
begins_no_atom begins_mark a = elim a [ ]

-- a token leads to one state, whatever the limits are
pub step_same : {l k : ℕ} {ds : List Tree} {fs : List Frame} {p : Place} {t : Token} {s r : State} → Step l ds fs p t s → Step k ds fs p t r → s ≡ r
step_same {ds = ds} {fs = fs} (begin_step _ _ b) (begin_step _ _ c) = ap (λ f. record { finished = ds; frames = f ∷ fs }) (same_frame b c)
step_same (begin_step _ _ b) (atom_step _ a) = absurd (begins_no_atom b a)
step_same (begin_step _ _ b) list_step = elim b [ ]
step_same (begin_step _ _ b) dotted_step = elim b [ ]
step_same (begin_step _ _ b) vector_step = elim b [ ]
step_same (begin_step _ _ b) (dot_step some) = elim b [ ]
step_same (atom_step _ a) (begin_step _ _ b) = absurd (begins_no_atom b a)
step_same {ds = ds} {fs = fs} {p = p} (atom_step _ a) (atom_step _ b) = ap (λ s. give ds fs (At p s)) (same_shape a b)
step_same (atom_step _ a) list_step = elim a [ ]
step_same (atom_step _ a) dotted_step = elim a [ ]
step_same (atom_step _ a) vector_step = elim a [ ]
step_same (atom_step _ a) (dot_step some) = elim a [ ]
step_same list_step (begin_step _ _ b) = elim b [ ]
step_same list_step (atom_step _ a) = elim a [ ]
step_same list_step list_step = refl
step_same dotted_step (begin_step _ _ b) = elim b [ ]
step_same dotted_step (atom_step _ a) = elim a [ ]
step_same dotted_step dotted_step = refl
step_same vector_step (begin_step _ _ b) = elim b [ ]
step_same vector_step (atom_step _ a) = elim a [ ]
step_same vector_step vector_step = refl
step_same (dot_step _) (begin_step _ _ b) = elim b [ ]
step_same (dot_step _) (atom_step _ a) = elim a [ ]
step_same (dot_step _) (dot_step _) = refl

-- where `l` are open, nothing more begins
pub full_step : {l : ℕ} {ds : List Tree} {fs : List Frame} {p : Place} {t : Token} {f : Frame} {s : State} → Begins p t f → l ≤ length fs → Step l ds fs p t s → ⊥
full_step b full (begin_step takes low c) = omega arith
full_step b full (atom_step takes a) = begins_no_atom b a
full_step b full list_step = elim b [ ]
full_step b full dotted_step = elim b [ ]
full_step b full vector_step = elim b [ ]
full_step b full (dot_step some) = elim b [ ]

stepped : {s s' : State} {p : Place} {t : Token} {rest : List ℕ} {r : Result State ReadRefusal} → Answer s p t rest r → Step 256 s.finished s.frames p t s' → r ≡ Ok s'
stepped {s' = s'} (goes {s' = a} x) step = let e : a ≡ s' = step_same x step in cc
stepped {s' = s'} (wrong never) step = absurd (never 256 s' step)
stepped {s = s} {s' = s'} {p = p} (wrong_mark {m = m} is takes full blank) step = absurd (full_step (begins_mark {p = p} {m = m}) full (subst (λ u. Step 256 s.finished s.frames p u s') is step))
stepped (deep b takes full last) step = absurd (full_step b full step)

-- `accept` is the step with the limit 256
pub accept_step : (s s' : State) (p : Place) (t : Token) (rest : List ℕ) → Step 256 s.finished s.frames p t s' → accept s p t rest ≡ Ok s'
accept_step s s' p t rest step = stepped (answer s p t rest) step

went : {s s' : State} {p : Place} {t : Token} {rest : List ℕ} → Answer s p t rest (Ok s') → Step 256 s.finished s.frames p t s'
went (goes x) = x

pub step_accept : (s s' : State) (p : Place) (t : Token) (rest : List ℕ) → accept s p t rest ≡ Ok s' → Step 256 s.finished s.frames p t s'
step_accept s s' p t rest e = went (subst (λ r. Answer s p t rest r) e (answer s p t rest))

-- tokens lead from a state to a state
pub data Runs (l : ℕ) : State → List Placed → State → Type 0 where
  done : {s : State} → Runs l s [] s
  next : {s r z : State} {x : Placed} {ts : List Placed} → Step l s.finished s.frames x.place x.token r → Runs l r ts z → Runs l s (x ∷ ts) z

pub runs_then : {l : ℕ} {s r z : State} {ts us : List Placed} → Runs l s ts r → Runs l r us z → Runs l s (ts ++ us) z
runs_then done more = more
runs_then (next step run) more = next step (runs_then run more)

-- what tokens in two parts do
pub record Parted (l : ℕ) (s : State) (ts us : List Placed) (z : State) : Type 0 where
  pub middle : State
  pub first : Runs l s ts middle
  pub second : Runs l middle us z

behind_one : {l : ℕ} {s r z : State} {x : Placed} {ts us : List Placed} → Step l s.finished s.frames x.place x.token r → Parted l r ts us z → Parted l s (x ∷ ts) us z
behind_one step p = record { middle = p.middle; first = next step p.first; second = p.second }

pub parted : {l : ℕ} (s z : State) (ts us : List Placed) → Runs l s (ts ++ us) z → Parted l s ts us z
parted s z [] us run = record { middle = s; first = done; second = run }
parted s z (x ∷ ts) us (next {r = r} step run) = behind_one step (parted r z ts us run)

pub runs_same : {l k : ℕ} {s y z : State} {ts : List Placed} → Runs l s ts y → Runs k s ts z → y ≡ z
runs_same done done = refl
runs_same {k = k} {z = z} (next step run) (next {ts = ts} other more) = runs_same run (subst (λ r. Runs k r ts z) (sym (step_same step other)) more)

pub last_step : {l : ℕ} {s z : State} {x : Placed} → Runs l s (x ∷ []) z → Step l s.finished s.frames x.place x.token z
last_step (next step done) = step

pub reaches_runs : {ts : List Placed} {s : State} → Reaches ts s → Runs 256 nothing ts s
reaches_runs start = done
reaches_runs (one_more {s = s} {s' = s'} p t rest reached e) = runs_then (reaches_runs reached) (next {x = placed p t} (step_accept s s' p t rest e) done)

reaches_on : {us ts : List Placed} {s z : State} → Reaches us s → Runs 256 s ts z → Reaches (us ++ ts) z
reaches_on {us = us} {z = z} reached done = subst (λ vs. Reaches vs z) (sym (append-nil us)) reached
reaches_on {us = us} {s = s} {z = z} reached (next {r = r} {x = x} {ts = ts} step run) =
    subst (λ vs. Reaches vs z) (append_assoc us (x ∷ []) ts) (reaches_on (one_more x.place x.token [] reached (accept_step s r x.place x.token [] step)) run)

pub runs_reach : {ts : List Placed} {s : State} → Runs 256 nothing ts s → Reaches ts s
runs_reach run = reaches_on start run

-- states to which data are given one after another: what is behind each row of data
pub record Collects (n l : ℕ) (behind : List Tree → State) : Type 0 where
  pub takes : (es : List Tree) → takes_datum (behind es).frames ≡ true
  pub room : (es : List Tree) → n + length (behind es).frames ≤ l
  pub given : (es : List Tree) (d : Tree) → give (behind es).finished (behind es).frames d ≡ behind (es ++ d ∷ [])

collects_less : {n l : ℕ} {behind : List Tree → State} → Collects (suc n) l behind → Collects n l behind
collects_less c = record { takes = c.takes; room = λ es. let r = c.room es in omega arith; given = c.given }

run_at : {l : ℕ} {s y z : State} {ts : List Placed} → y ≡ z → Runs l s ts y → Runs l s ts z
run_at {l = l} {s = s} {ts = ts} e run = subst (λ r. Runs l s ts r) e run

in_a_list : {n l : ℕ} {ds : List Tree} {fs : List Frame} {p : Place} → suc n + length fs ≤ l → Collects n l (λ es. record { finished = ds; frames = InList p es ∷ fs })
in_a_list room = record { takes = λ es. refl; room = λ es. omega arith; given = λ es d. refl }

in_a_vector : {n l : ℕ} {ds : List Tree} {fs : List Frame} {p : Place} → suc n + length fs ≤ l → Collects n l (λ es. record { finished = ds; frames = InVector p es ∷ fs })
in_a_vector room = record { takes = λ es. refl; room = λ es. omega arith; given = λ es d. refl }

mutual
  -- the tokens of a datum, where it is waited for and may be as deep, give the datum
  pub datum_runs : {n : ℕ} {ts : List Placed} {d : Tree} → IsDatum n ts d → (l : ℕ) (ds : List Tree) (fs : List Frame) → takes_datum fs ≡ true → n + length fs ≤ l →
      Runs l (record { finished = ds; frames = fs }) ts (give ds fs d)
  datum_runs (an_atom a) l ds fs takes room = next (atom_step takes a) done
  datum_runs (a_mark x) l ds fs takes room = next (begin_step takes (omega arith) begins_mark) (datum_runs x l ds (InMark _ _ ∷ fs) refl (omega arith))
  datum_runs (a_list {n = n} {p = p} q x) l ds fs takes room =
      next (begin_step takes (omega arith) begins_list) (runs_then (data_runs x l (λ es. record { finished = ds; frames = InList p es ∷ fs }) [] (in_a_list room)) (next list_step done))
  datum_runs (a_dotted_list {p = p} {ds = es} q r x some y) l ds fs takes room =
      next (begin_step takes (omega arith) begins_list) (runs_then (data_runs x l (λ es. record { finished = ds; frames = InList p es ∷ fs }) [] (in_a_list room))
      (next (dot_step some) (runs_then (datum_runs y l ds (AfterDot p es ∷ fs) refl (omega arith)) (next dotted_step done))))
  datum_runs (a_vector {p = p} q x) l ds fs takes room =
      next (begin_step takes (omega arith) begins_vector) (runs_then (data_runs x l (λ es. record { finished = ds; frames = InVector p es ∷ fs }) [] (in_a_vector room)) (next vector_step done))

  pub data_runs : {n : ℕ} {ts : List Placed} {es : List Tree} → AreData n ts es → (l : ℕ) (behind : List Tree → State) (before : List Tree) → Collects n l behind →
      Runs l (behind before) ts (behind (before ++ es))
  data_runs no_data l behind before c = run_at (ap behind (sym (append-nil before))) done
  data_runs (more_data {us = us} {d = d} {ds = es} x more) l behind before c =
      runs_then (run_at (c.given before d) (datum_runs x l (behind before).finished (behind before).frames (c.takes before) (c.room before)))
      (run_at (ap behind (append_assoc before (d ∷ []) es)) (data_runs more l behind (before ++ d ∷ []) c))
