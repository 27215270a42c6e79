-- Which tokens made the data so far, and each list, vector and mark that is open.
use Rattle.std.proofs.Common.{◌≡◌, ◌≢◌, ℕ, zero, suc, ◌+◌, ◌<◌, Bool, true, false, List, [], ◌∷◌, ◌++◌, length, refl, sym, ◌∙◌, subst, arith, append_assoc, append-nil}
use Rattle.tb_prim.specs.declared.place.Place.{Place}
use Rattle.tb_sexp.specs.declared.token.Mark.{Mark}
use Rattle.tb_sexp.specs.declared.token.Token.{Token}
use Rattle.tb_sexp.specs.declared.token.Token.TheVariants as token
use Rattle.tb_sexp.specs.calls.Frames.{Frame, InMark, InList, AfterDot, AfterTail, InVector, State, give}
use Rattle.tb_sexp.specs.ListShapes.{list_of, dotted}
use Rattle.tb_sexp.specs.Grammar.{Placed, placed, of_bool, IsDatum, an_atom, a_mark, a_list, a_dotted_list, a_vector, AreData, no_data, more_data, CanGoOn}
use Rattle.tb_sexp.specs.calls.Reading.{takes_datum}
use Rattle.tb_sexp.specs.calls.Runs.{nothing}
use Rattle.tb_sexp.specs.Tree.{Tree, At, Vector}
use Rattle.tb_sexp.specs.View.{trees}
use Rattle.tb_sexp.proofs.GrammarSteps.{Begins, begins_list, begins_vector, begins_mark, Step, begin_step, atom_step, list_step, dotted_step, vector_step, dot_step}
use Rattle.tb_sexp.proofs.GrammarRuns.{Runs, done, next, Collects, data_runs, parted, last_step, runs_same}

-- the tokens that made the data and the frames, where `n` levels are left
pub data Opens : ℕ → List Placed → List Tree → List Frame → Type 0 where
  outside : {n : ℕ} {ts : List Placed} {ds : List Tree} → AreData n ts ds → Opens n ts ds []
  behind_mark : {n : ℕ} {ts : List Placed} {ds : List Tree} {fs : List Frame} {p : Place} {m : Mark} → Opens (suc n) ts ds fs → takes_datum fs ≡ true →
      Opens n (ts ++ placed p (token.Mark m) ∷ []) ds (InMark p m ∷ fs)
  inside_list : {n : ℕ} {ts us : List Placed} {ds es : List Tree} {fs : List Frame} {p : Place} → Opens (suc n) ts ds fs → takes_datum fs ≡ true → AreData n us es →
      Opens n (ts ++ placed p token.Open ∷ us) ds (InList p es ∷ fs)
  behind_dot : {n : ℕ} {ts us : List Placed} {ds es : List Tree} {fs : List Frame} {p : Place} (q : Place) → Opens (suc n) ts ds fs → takes_datum fs ≡ true → AreData n us es → es ≢ [] →
      Opens n (ts ++ placed p token.Open ∷ (us ++ placed q token.Dot ∷ [])) ds (AfterDot p es ∷ fs)
  behind_tail : {n : ℕ} {ts us vs : List Placed} {ds es : List Tree} {d : Tree} {fs : List Frame} {p : Place} (q : Place) → Opens (suc n) ts ds fs → takes_datum fs ≡ true → AreData n us es → es ≢ [] → IsDatum n vs d →
      Opens n (ts ++ placed p token.Open ∷ (us ++ placed q token.Dot ∷ vs)) ds (AfterTail p es d ∷ fs)
  inside_vector : {n : ℕ} {ts us : List Placed} {ds es : List Tree} {fs : List Frame} {p : Place} → Opens (suc n) ts ds fs → takes_datum fs ≡ true → AreData n us es →
      Opens n (ts ++ placed p token.OpenVector ∷ us) ds (InVector p es ∷ fs)

-- the same of a state, where `l` may be open
pub record OpensState (l : ℕ) (ts : List Placed) (s : State) : Type 0 where
  pub left : ℕ
  pub levels : left + length s.frames ≡ l
  pub opens : Opens left ts s.finished s.frames

opens_at : {n : ℕ} {ts us : List Placed} {ds : List Tree} {fs : List Frame} → ts ≡ us → Opens n ts ds fs → Opens n us ds fs
opens_at {n = n} {ds = ds} {fs = fs} e o = subst (λ vs. Opens n vs ds fs) e o

state_at : {l : ℕ} {ts us : List Placed} {s : State} → ts ≡ us → OpensState l ts s → OpensState l us s
state_at {l = l} {s = s} e o = subst (λ vs. OpensState l vs s) e o

go_on_at : {n : ℕ} {ts us : List Placed} → ts ≡ us → CanGoOn n ts → CanGoOn n us
go_on_at {n = n} e c = subst (λ vs. CanGoOn n vs) e c

data_at : {n : ℕ} {ts us : List Placed} {ds : List Tree} → ts ≡ us → AreData n ts ds → AreData n us ds
data_at {n = n} {ds = ds} e x = subst (λ vs. AreData n vs ds) e x

datum_at : {n : ℕ} {ts us : List Placed} {d : Tree} → ts ≡ us → IsDatum n ts d → IsDatum n us d
datum_at {n = n} {d = d} e x = subst (λ vs. IsDatum n vs d) e x

-- one datum more at the end
pub data_last : {n : ℕ} {ts us : List Placed} {ds : List Tree} {d : Tree} → AreData n ts ds → IsDatum n us d → AreData n (ts ++ us) (ds ++ d ∷ [])
data_last {us = us} no_data y = data_at (append-nil us) (more_data y no_data)
data_last {us = vs} (more_data {ts = ts} {us = us} x more) y = data_at (sym (append_assoc ts us vs)) (more_data x (data_last more y))

-- a datum that is given
given : {n l : ℕ} {ts us : List Placed} {ds : List Tree} {fs : List Frame} {d : Tree} → Opens n ts ds fs → n + length fs ≡ l → takes_datum fs ≡ true → IsDatum n us d → OpensState l (ts ++ us) (give ds fs d)
given {n = n} (outside x) levels takes y = record { left = n; levels = levels; opens = outside (data_last x y) }
given {us = us} (behind_mark {ts = ts} {p = p} {m = m} o outer) levels takes y =
    state_at (sym (append_assoc ts (placed p (token.Mark m) ∷ []) us)) (given o (omega arith) outer (a_mark y))
given {n = n} {us = vs} (inside_list {ts = ts} {us = us} {p = p} o outer x) levels takes y =
    record { left = n; levels = levels; opens = opens_at (sym (append_assoc ts (placed p token.Open ∷ us) vs)) (inside_list o outer (data_last x y)) }
given {n = n} {us = vs} (behind_dot {ts = ts} {us = us} {p = p} q o outer x some) levels takes y =
    record { left = n; levels = levels; opens = opens_at (simp append_assoc) (behind_tail q o outer x some y) }
given (behind_tail q o outer x some z) levels takes y = absurd (let e : ◌≡◌ {A = Bool} false true = takes in cc)
given {n = n} {us = vs} (inside_vector {ts = ts} {us = us} {p = p} o outer x) levels takes y =
    record { left = n; levels = levels; opens = opens_at (sym (append_assoc ts (placed p token.OpenVector ∷ us) vs)) (inside_vector o outer (data_last x y)) }

begun : {n l : ℕ} {ts : List Placed} {ds : List Tree} {fs : List Frame} {p : Place} {t : Token} {f : Frame} → Opens n ts ds fs → n + length fs ≡ l → takes_datum fs ≡ true → length fs < l → Begins p t f →
    OpensState l (ts ++ placed p t ∷ []) (record { finished = ds; frames = f ∷ fs })
begun {n = zero} o levels takes low b = absurd (omega arith)
begun {n = suc n} o levels takes low begins_list = record { left = n; levels = omega arith; opens = inside_list o takes no_data }
begun {n = suc n} o levels takes low begins_vector = record { left = n; levels = omega arith; opens = inside_vector o takes no_data }
begun {n = suc n} o levels takes low begins_mark = record { left = n; levels = omega arith; opens = behind_mark o takes }

list_ended : {n l : ℕ} {ts : List Placed} {ds es : List Tree} {fs : List Frame} {q : Place} (p : Place) → Opens n ts ds (InList q es ∷ fs) → n + suc (length fs) ≡ l →
    OpensState l (ts ++ placed p token.Close ∷ []) (give ds fs (At q (list_of es)))
list_ended {q = q} p (inside_list {ts = ts} {us = us} o outer x) levels =
    state_at (sym (append_assoc ts (placed q token.Open ∷ us) (placed p token.Close ∷ []))) (given o (omega arith) outer (a_list p x))

vector_ended : {n l : ℕ} {ts : List Placed} {ds es : List Tree} {fs : List Frame} {q : Place} (p : Place) → Opens n ts ds (InVector q es ∷ fs) → n + suc (length fs) ≡ l →
    OpensState l (ts ++ placed p token.Close ∷ []) (give ds fs (At q (Vector (trees es))))
vector_ended {q = q} p (inside_vector {ts = ts} {us = us} o outer x) levels =
    state_at (sym (append_assoc ts (placed q token.OpenVector ∷ us) (placed p token.Close ∷ []))) (given o (omega arith) outer (a_vector p x))

tail_ended : {n l : ℕ} {ts : List Placed} {ds es : List Tree} {d : Tree} {fs : List Frame} {q : Place} (p : Place) → Opens n ts ds (AfterTail q es d ∷ fs) → n + suc (length fs) ≡ l →
    OpensState l (ts ++ placed p token.Close ∷ []) (give ds fs (At q (dotted es d)))
tail_ended {q = q} p (behind_tail {ts = ts} {us = us} {vs = vs} r o outer x some y) levels =
    state_at (simp append_assoc) (given o (omega arith) outer (a_dotted_list r p x some y))

dotted_now : {n l : ℕ} {ts : List Placed} {ds es : List Tree} {fs : List Frame} {q : Place} (p : Place) → es ≢ [] → Opens n ts ds (InList q es ∷ fs) → n + suc (length fs) ≡ l →
    OpensState l (ts ++ placed p token.Dot ∷ []) (record { finished = ds; frames = AfterDot q es ∷ fs })
dotted_now {n = n} {q = q} p some (inside_list {ts = ts} {us = us} o outer x) levels =
    record { left = n; levels = levels; opens = opens_at (sym (append_assoc ts (placed q token.Open ∷ us) (placed p token.Dot ∷ []))) (behind_dot p o outer x some) }

-- each token keeps it
opens_step : {n l : ℕ} {ts : List Placed} {ds : List Tree} {fs : List Frame} {p : Place} {t : Token} {s : State} → Step l ds fs p t s → Opens n ts ds fs → n + length fs ≡ l → OpensState l (ts ++ placed p t ∷ []) s
opens_step (begin_step takes low b) o levels = begun o levels takes low b
opens_step (atom_step takes a) o levels = given o levels takes (an_atom a)
opens_step {p = p} list_step o levels = list_ended p o levels
opens_step {p = p} dotted_step o levels = tail_ended p o levels
opens_step {p = p} vector_step o levels = vector_ended p o levels
opens_step {p = p} (dot_step some) o levels = dotted_now p some o levels

opens_runs : {l : ℕ} {us ts : List Placed} {s z : State} → Runs l s ts z → OpensState l us s → OpensState l (us ++ ts) z
opens_runs {us = us} done o = state_at (sym (append-nil us)) o
opens_runs {us = us} (next {x = x} {ts = ts} step run) o = state_at (append_assoc us (x ∷ []) ts) (opens_runs run (opens_step step o.opens o.levels))

pub run_opens : {l : ℕ} {ts : List Placed} {s : State} → Runs l nothing ts s → OpensState l ts s
run_opens {l = l} run = opens_runs run (record { left = l; levels = omega arith; opens = outside no_data })

closed_list : (ts us vs rest : List Placed) (x y : Placed) → (ts ++ x ∷ ((us ++ vs) ++ y ∷ [])) ++ rest ≡ ((ts ++ x ∷ us) ++ vs) ++ y ∷ rest
closed_list ts us vs rest x y = simp append_assoc

closed_tail : (ts us vs rest : List Placed) (x y z : Placed) → (ts ++ x ∷ (us ++ y ∷ (vs ++ z ∷ []))) ++ rest ≡ ((ts ++ x ∷ (us ++ y ∷ [])) ++ vs) ++ z ∷ rest
closed_tail ts us vs rest x y z = simp append_assoc

closed_after : (ts us vs rest : List Placed) (x y z : Placed) → (ts ++ x ∷ (us ++ y ∷ (vs ++ z ∷ []))) ++ rest ≡ (ts ++ x ∷ (us ++ y ∷ vs)) ++ z ∷ rest
closed_after ts us vs rest x y z = simp append_assoc

-- where a datum may stand, and the tokens of one stand there, the rest can come
pub goes_on_with : {n l : ℕ} {ts us : List Placed} {ds : List Tree} {fs : List Frame} {d : Tree} → Opens n ts ds fs → n + length fs ≡ l → takes_datum fs ≡ true → IsDatum n us d → CanGoOn l (ts ++ us)
goes_on_with {n = n} {ts = ts} {us = us} {ds = ds} {d = d} (outside x) levels takes y =
    let e : n ≡ n + 0 = omega arith in
    subst (λ k. CanGoOn k (ts ++ us)) (e ∙ levels) (record { rest = []; elements = ds ++ d ∷ []; spelled = data_at (sym (append-nil (ts ++ us))) (data_last x y) })
goes_on_with {us = us} (behind_mark {ts = ts} {p = p} {m = m} o outer) levels takes y =
    go_on_at (sym (append_assoc ts (placed p (token.Mark m) ∷ []) us)) (goes_on_with o (omega arith) outer (a_mark y))
goes_on_with {us = vs} (inside_list {ts = ts} {us = us} {p = p} o outer x) levels takes y =
    let c = goes_on_with o (omega arith) outer (a_list {p = p} p (data_last x y)) in
    record { rest = placed p token.Close ∷ c.rest; elements = c.elements; spelled = data_at (closed_list ts us vs c.rest (placed p token.Open) (placed p token.Close)) c.spelled }
goes_on_with {us = vs} (behind_dot {ts = ts} {us = us} {p = p} q o outer x some) levels takes y =
    let c = goes_on_with o (omega arith) outer (a_dotted_list {p = p} q p x some y) in
    record { rest = placed p token.Close ∷ c.rest; elements = c.elements; spelled = data_at (closed_tail ts us vs c.rest (placed p token.Open) (placed q token.Dot) (placed p token.Close)) c.spelled }
goes_on_with (behind_tail q o outer x some z) levels takes y = absurd (let e : ◌≡◌ {A = Bool} false true = takes in cc)
goes_on_with {us = vs} (inside_vector {ts = ts} {us = us} {p = p} o outer x) levels takes y =
    let c = goes_on_with o (omega arith) outer (a_vector {p = p} p (data_last x y)) in
    record { rest = placed p token.Close ∷ c.rest; elements = c.elements; spelled = data_at (closed_list ts us vs c.rest (placed p token.OpenVector) (placed p token.Close)) c.spelled }

pub shorter : {n : ℕ} (ts us : List Placed) → CanGoOn n (ts ++ us) → CanGoOn n ts
shorter ts us c = record { rest = us ++ c.rest; elements = c.elements; spelled = data_at (append_assoc ts us c.rest) c.spelled }

-- behind the tail of a dotted list its bracket can come
tail_goes_on : {n l : ℕ} {ts : List Placed} {ds es : List Tree} {d : Tree} {fs : List Frame} {q : Place} → Opens n ts ds (AfterTail q es d ∷ fs) → n + suc (length fs) ≡ l → CanGoOn l ts
tail_goes_on {q = q} (behind_tail {ts = ts} {us = us} {vs = vs} r o outer x some y) levels =
    let c = goes_on_with o (omega arith) outer (a_dotted_list {p = q} r q x some y) in
    record { rest = placed q token.Close ∷ c.rest; elements = c.elements; spelled = data_at (closed_after ts us vs c.rest (placed q token.Open) (placed r token.Dot) (placed q token.Close)) c.spelled }

any_place : Place
any_place = record { library = false; line = 1; column = 1 }

opens_go_on : {n l : ℕ} {ts : List Placed} {ds : List Tree} (fs : List Frame) → Opens n ts ds fs → n + length fs ≡ l → CanGoOn l ts
opens_go_on {ts = ts} [] o levels = shorter ts _ (goes_on_with o levels refl (an_atom {p = any_place} (of_bool {b = true})))
opens_go_on {ts = ts} (InMark p m ∷ fs) o levels = shorter ts _ (goes_on_with o levels refl (an_atom {p = any_place} (of_bool {b = true})))
opens_go_on {ts = ts} (InList p es ∷ fs) o levels = shorter ts _ (goes_on_with o levels refl (an_atom {p = any_place} (of_bool {b = true})))
opens_go_on {ts = ts} (AfterDot p es ∷ fs) o levels = shorter ts _ (goes_on_with o levels refl (an_atom {p = any_place} (of_bool {b = true})))
opens_go_on {ts = ts} (AfterTail p es d ∷ fs) o levels = tail_goes_on o levels
opens_go_on {ts = ts} (InVector p es ∷ fs) o levels = shorter ts _ (goes_on_with o levels refl (an_atom {p = any_place} (of_bool {b = true})))

-- the rows that tokens run through are the fronts of rows that spell data
pub run_goes_on : {l : ℕ} {ts : List Placed} {s : State} → Runs l nothing ts s → CanGoOn l ts
run_goes_on {s = s} run = let o = run_opens run in opens_go_on s.frames o.opens o.levels

whole_opens : {n l : ℕ} {ts : List Placed} {ds : List Tree} {fs : List Frame} → Opens n ts ds fs → n + length fs ≡ l → fs ≡ [] → AreData l ts ds
whole_opens {n = n} {ts = ts} {ds = ds} (outside x) levels e = let same : n ≡ n + 0 = omega arith in subst (λ k. AreData k ts ds) (same ∙ levels) x
whole_opens (behind_mark o outer) levels e = absurd (cc)
whole_opens (inside_list o outer x) levels e = absurd (cc)
whole_opens (behind_dot q o outer x some) levels e = absurd (cc)
whole_opens (behind_tail q o outer x some y) levels e = absurd (cc)
whole_opens (inside_vector o outer x) levels e = absurd (cc)

pub run_whole : {l : ℕ} {ts : List Placed} {s : State} → Runs l nothing ts s → s.frames ≡ [] → AreData l ts s.finished
run_whole run e = let o = run_opens run in whole_opens o.opens o.levels e

-- data at the top
at_top : (l : ℕ) → Collects l l (λ es. record { finished = es; frames = [] })
at_top l = record { takes = λ es. refl; room = λ es. omega arith; given = λ es d. refl }

pub data_run : {l : ℕ} {ts : List Placed} {ds : List Tree} → AreData l ts ds → Runs l nothing ts (record { finished = ds; frames = [] })
data_run {l = l} x = data_runs x l (λ es. record { finished = es; frames = [] }) [] (at_top l)

-- the state behind a row that can go on
pub record RunsOn (l : ℕ) (ts : List Placed) : Type 0 where
  pub state : State
  pub run : Runs l nothing ts state

pub go_on_runs : {l : ℕ} {ts : List Placed} → CanGoOn l ts → RunsOn l ts
go_on_runs {ts = ts} c = let p = parted nothing (record { finished = c.elements; frames = [] }) ts c.rest (data_run c.spelled) in record { state = p.middle; run = p.first }

-- the step that a row takes which can go on
pub record Steps (n : ℕ) (s : State) (p : Place) (t : Token) : Type 0 where
  pub state : State
  pub step : Step n s.finished s.frames p t state

pub go_on_steps : {k n : ℕ} {ts : List Placed} {s : State} (p : Place) (t : Token) → Runs k nothing ts s → CanGoOn n (ts ++ placed p t ∷ []) → Steps n s p t
go_on_steps {k = k} {n = n} {ts = ts} {s = s} p t run c =
    let on = go_on_runs c in
    let parts = parted nothing on.state ts (placed p t ∷ []) on.run in
    record { state = on.state; step = subst (λ (r : State). Step n r.finished r.frames p t on.state) (runs_same parts.first run) (last_step parts.second) }
