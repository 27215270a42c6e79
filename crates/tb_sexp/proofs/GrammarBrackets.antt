-- Brackets: what spells data is balanced, and one place at most is that of the list or vector opened last.
use Rattle.std.proofs.Common.{◌≡◌, ℕ, Bool, true, false, List, [], ◌∷◌, ◌++◌, refl, sym, ap, ◌∙◌, subst, append_assoc}
use Rattle.tb_prim.specs.declared.place.Place.{Place}
use Rattle.tb_sexp.specs.declared.token.Mark.{Mark}
use Rattle.tb_sexp.specs.declared.token.Token.{Token}
use Rattle.tb_sexp.specs.declared.token.Token.TheVariants as token
use Rattle.tb_sexp.specs.calls.Frames.{Frame, InMark}
use Rattle.tb_sexp.specs.Grammar.{Placed, placed, Atom, of_bool, of_fix, of_char, of_str, of_name, IsDatum, an_atom, a_mark, a_list, a_dotted_list, a_vector, AreData, no_data, more_data, is_opening, is_bracket, Balanced, no_bracket, other_token, closed, OpenedLast, EndsWith}
use Rattle.tb_sexp.specs.calls.Reached.{IsOpenAt, in_list, after_dot, after_tail, in_vector}
use Rattle.tb_sexp.specs.Tree.{Tree, Shape}
use Rattle.tb_sexp.proofs.GrammarOpens.{Opens, behind_mark, inside_list, behind_dot, behind_tail, inside_vector}

balanced_then : {ts us : List Placed} → Balanced ts → Balanced us → Balanced (ts ++ us)
balanced_then no_bracket more = more
balanced_then (other_token e b) more = other_token e (balanced_then b more)
balanced_then {us = vs} (closed {p = p} {t = t} {ts = ts} {us = us} q e b c) more =
    subst (λ (ws : List Placed). Balanced (placed p t ∷ ws)) (sym (append_assoc ts (placed q token.Close ∷ us) vs)) (closed q e b (balanced_then c more))

atom_no_bracket : {t : Token} {s : Shape} → Atom t s → is_bracket t ≡ false
atom_no_bracket of_bool = refl
atom_no_bracket of_fix = refl
atom_no_bracket of_char = refl
atom_no_bracket of_str = refl
atom_no_bracket of_name = refl

mutual
  datum_balanced : {n : ℕ} {ts : List Placed} {d : Tree} → IsDatum n ts d → Balanced ts
  datum_balanced (an_atom a) = other_token (atom_no_bracket a) no_bracket
  datum_balanced (a_mark x) = other_token refl (datum_balanced x)
  datum_balanced (a_list q x) = closed q refl (data_balanced x) no_bracket
  datum_balanced (a_dotted_list {p = p} {ts = ts} {us = us} q r x some y) =
      subst (λ (ws : List Placed). Balanced (placed p token.Open ∷ ws)) (append_assoc ts (placed q token.Dot ∷ us) (placed r token.Close ∷ []))
      (closed r refl (balanced_then (data_balanced x) (other_token refl (datum_balanced y))) no_bracket)
  datum_balanced (a_vector q x) = closed q refl (data_balanced x) no_bracket

  data_balanced : {n : ℕ} {ts : List Placed} {ds : List Tree} → AreData n ts ds → Balanced ts
  data_balanced no_data = no_bracket
  data_balanced (more_data x more) = balanced_then (datum_balanced x) (data_balanced more)

pub mark_at_end : {n : ℕ} {ts : List Placed} {ds : List Tree} {fs : List Frame} {q : Place} {m : Mark} → Opens n ts ds (InMark q m ∷ fs) → EndsWith ts (placed q (token.Mark m))
mark_at_end (behind_mark {ts = ts} o outer) = record { front = ts; is = refl }

pub opened_at : {n : ℕ} {ts : List Placed} {ds : List Tree} {f : Frame} {fs : List Frame} {q : Place} → IsOpenAt f q → Opens n ts ds (f ∷ fs) → OpenedLast ts q
opened_at in_list (inside_list {ts = ts} {us = us} o outer x) = record { front = ts; opening = token.Open; inside = us; is = refl; opens = refl; balanced = data_balanced x }
opened_at after_dot (behind_dot {ts = ts} {us = us} r o outer x some) =
    record { front = ts; opening = token.Open; inside = us ++ placed r token.Dot ∷ []; is = refl; opens = refl; balanced = balanced_then (data_balanced x) (other_token refl no_bracket) }
opened_at after_tail (behind_tail {ts = ts} {us = us} {vs = vs} r o outer x some y) =
    record { front = ts; opening = token.Open; inside = us ++ placed r token.Dot ∷ vs; is = refl; opens = refl; balanced = balanced_then (data_balanced x) (other_token refl (datum_balanced y)) }
opened_at in_vector (inside_vector {ts = ts} {us = us} o outer x) = record { front = ts; opening = token.OpenVector; inside = us; is = refl; opens = refl; balanced = data_balanced x }

-- the places that are open, the innermost first, behind tokens
rest_of : List Place → List Place
rest_of [] = []
rest_of (p ∷ ps) = ps

abbrev open_behind : List Place → Place → Token → List Place
open_behind ps p token.Open = p ∷ ps
open_behind ps p token.OpenVector = p ∷ ps
open_behind ps p token.Close = rest_of ps
open_behind ps p (token.Mark m) = ps
open_behind ps p token.Dot = ps
open_behind ps p (token.Bool b) = ps
open_behind ps p (token.Fix n) = ps
open_behind ps p (token.Char c) = ps
open_behind ps p (token.Str text) = ps
open_behind ps p (token.Name text) = ps

abbrev all_open : List Place → List Placed → List Place
all_open ps [] = ps
all_open ps (x ∷ ts) = all_open (open_behind ps x.place x.token) ts

rest_behind : (p : Place) (ps : List Place) → rest_of (p ∷ ps) ≡ ps
unfolding rest_of
rest_behind p ps = refl

opens_one : (ps : List Place) (p : Place) (t : Token) → is_opening t ≡ true → open_behind ps p t ≡ p ∷ ps
opens_one ps p token.Open e = refl
opens_one ps p token.OpenVector e = refl
opens_one ps p token.Close e = absurd (let f : ◌≡◌ {A = Bool} false true = e in cc)
opens_one ps p (token.Mark m) e = absurd (let f : ◌≡◌ {A = Bool} false true = e in cc)
opens_one ps p token.Dot e = absurd (let f : ◌≡◌ {A = Bool} false true = e in cc)
opens_one ps p (token.Bool b) e = absurd (let f : ◌≡◌ {A = Bool} false true = e in cc)
opens_one ps p (token.Fix n) e = absurd (let f : ◌≡◌ {A = Bool} false true = e in cc)
opens_one ps p (token.Char c) e = absurd (let f : ◌≡◌ {A = Bool} false true = e in cc)
opens_one ps p (token.Str text) e = absurd (let f : ◌≡◌ {A = Bool} false true = e in cc)
opens_one ps p (token.Name text) e = absurd (let f : ◌≡◌ {A = Bool} false true = e in cc)

opens_none : (ps : List Place) (p : Place) (t : Token) → is_bracket t ≡ false → open_behind ps p t ≡ ps
opens_none ps p token.Open e = absurd (let f : ◌≡◌ {A = Bool} true false = e in cc)
opens_none ps p token.OpenVector e = absurd (let f : ◌≡◌ {A = Bool} true false = e in cc)
opens_none ps p token.Close e = absurd (let f : ◌≡◌ {A = Bool} true false = e in cc)
opens_none ps p (token.Mark m) e = refl
opens_none ps p token.Dot e = refl
opens_none ps p (token.Bool b) e = refl
opens_none ps p (token.Fix n) e = refl
opens_none ps p (token.Char c) e = refl
opens_none ps p (token.Str text) e = refl
opens_none ps p (token.Name text) e = refl

all_open_then : (ps : List Place) (ts us : List Placed) → all_open ps (ts ++ us) ≡ all_open (all_open ps ts) us
all_open_then ps [] us = refl
all_open_then ps (x ∷ ts) us = all_open_then (open_behind ps x.place x.token) ts us

balanced_opens : {ts : List Placed} → Balanced ts → (ps : List Place) → all_open ps ts ≡ ps
balanced_opens no_bracket ps = refl
balanced_opens (other_token {p = p} {t = t} {ts = ts} e b) ps = ap (λ qs. all_open qs ts) (opens_none ps p t e) ∙ balanced_opens b ps
balanced_opens (closed {p = p} {t = t} {ts = ts} {us = us} q e b c) ps =
    ap (λ qs. all_open qs (ts ++ placed q token.Close ∷ us)) (opens_one ps p t e) ∙ all_open_then (p ∷ ps) ts (placed q token.Close ∷ us)
    ∙ ap (λ qs. all_open (rest_of qs) us) (balanced_opens b (p ∷ ps)) ∙ ap (λ qs. all_open qs us) (rest_behind p ps) ∙ balanced_opens c ps

opened_first : {ts : List Placed} {q : Place} → (o : OpenedLast ts q) → all_open [] ts ≡ q ∷ all_open [] o.front
opened_first {ts = ts} {q = q} o =
    let ps = all_open [] o.front in
    ap (λ us. all_open [] us) o.is ∙ all_open_then [] o.front (placed q o.opening ∷ o.inside) ∙ balanced_opens o.balanced (open_behind ps q o.opening) ∙ opens_one ps q o.opening o.opens

pub opened_once : (ts : List Placed) (q r : Place) → OpenedLast ts q → OpenedLast ts r → q ≡ r
opened_once ts q r o u = let e = sym (opened_first o) ∙ opened_first u in cc

-- in tokens that spell data nothing is open
pub whole_closed : {n : ℕ} {ts : List Placed} {ds : List Tree} {q : Place} → AreData n ts ds → OpenedLast ts q → ⊥
whole_closed x o = let e = sym (balanced_opens (data_balanced x) []) ∙ opened_first o in cc
