-- What the grammar says of a text is what reading answers.
use Rattle.std.proofs.Common.{◌≡◌, inl, inr, ℕ, Bool, true, false, List, [], ◌∷◌, ◌++◌, refl, sym, ap, ◌∙◌, subst, append_assoc, append-nil}
use Rattle.std.specs.Prelude.{cond, Result, Ok, Err}
use Rattle.tb_prim.specs.declared.place.Place.{Place}
use Rattle.tb_sexp.specs.declared.token.Mark.{Mark}
use Rattle.tb_sexp.specs.declared.token.Token.{Token}
use Rattle.tb_sexp.specs.declared.token.Token.TheVariants as token
use Rattle.tb_sexp.specs.declared.token.Fault.{Fault}
use Rattle.tb_sexp.specs.declared.refusal.ReadRefusal.{ReadRefusal}
use Rattle.tb_sexp.specs.declared.refusal.ReadRefusal.TheVariants.{Syntax, Unclosed}
use Rattle.tb_sexp.specs.Blanks.{Blank, BlankEnd}
use Rattle.tb_sexp.specs.calls.Frames.{State}
use Rattle.tb_sexp.specs.Grammar.{Placed, placed, of_bool, AreData, CanGoOn, OpenedLast}
use Rattle.tb_sexp.specs.calls.Reached.{Reaches, start, one_more}
use Rattle.tb_sexp.specs.Places.{text_start, behind_all}
use Rattle.tb_sexp.specs.calls.Reading.{takes_datum, accept, failed, finish}
use Rattle.tb_sexp.specs.Faults.{refusal_of}
use Rattle.tb_sexp.specs.calls.Runs.{ReadsFrom, nothing}
use Rattle.tb_sexp.specs.Texts.{Begins, no_tokens, one_token, IsText, StandsBefore, NextToken, TakesDatum, EndsInMark, IsMarkAlone, mark_alone, IsRefused, no_front, a_mark_alone, too_deep, faulty, out_of_place, unclosed}
use Rattle.tb_sexp.specs.Tokens.{Spells, EndsAt, Faulty}
use Rattle.tb_sexp.specs.Tree.{Tree, Truth}
use Rattle.tb_sexp.proofs.GrammarBrackets.{opened_once, whole_closed}
use Rattle.tb_sexp.proofs.GrammarEnds.{Ends, ends_whole, ends_at_mark, ends_open, ended, finish_only, refused_everywhere, refused_as_deep}
use Rattle.tb_sexp.proofs.GrammarLaws.{no_other, deep_law, accepted, atom_taken, atom_refused, marked_frames}
use Rattle.tb_sexp.proofs.GrammarOpens.{shorter}
use Rattle.tb_sexp.proofs.GrammarRuns.{step_accept}
use Rattle.tb_sexp.proofs.TextsTurns.{all_blank, reads_end, reads_token, reads_refused, reads_fault}
use Rattle.tb_sexp.proofs.TokensBlanks.{end_only}

-- reading goes over tokens that can go on to data
record ReadTo (us ts : List Placed) (s : State) (p : Place) (bs : List ℕ) (q : Place) (left : List ℕ) : Type 0 where
  state : State
  reached : Reaches (us ++ ts) state
  onward : (r : Result (List Tree) ReadRefusal) → ReadsFrom state q left r → ReadsFrom s p bs r

over_one : {us ts : List Placed} {s z : State} {p q : Place} {left : List ℕ} (front word rest : List ℕ) (t : Token) →
    ((r : Result (List Tree) ReadRefusal) → ReadsFrom z (behind_all p (front ++ word)) rest r → ReadsFrom s p (front ++ (word ++ rest)) r) →
    ReadTo (us ++ placed (behind_all p front) t ∷ []) ts z (behind_all p (front ++ word)) rest q left → ReadTo us (placed (behind_all p front) t ∷ ts) s p (front ++ (word ++ rest)) q left
over_one {us = us} {ts = ts} {p = p} front word rest t one to = record {
  state = to.state;
  reached = subst (λ vs. Reaches vs to.state) (append_assoc us (placed (behind_all p front) t ∷ []) ts) to.reached;
  onward = λ r x. one r (to.onward r x);
}

read_to : {p q : Place} {bs left : List ℕ} {ts : List Placed} → Begins p bs ts q left → (us : List Placed) (s : State) → Reaches us s → CanGoOn 256 (us ++ ts) → ReadTo us ts s p bs q left
read_to no_tokens us s reached good = record { state = s; reached = subst (λ vs. Reaches vs s) (sym (append-nil us)) reached; onward = λ r x. x }
read_to (one_token {p = p} {ts = ts} front word rest t bl sp en more) us s reached good =
    let here = behind_all p front in
    let longer : CanGoOn 256 ((us ++ placed here t ∷ []) ++ ts) = subst (λ vs. CanGoOn 256 vs) (sym (append_assoc us (placed here t ∷ []) ts)) good in
    let a = accepted us s here t rest reached (shorter (us ++ placed here t ∷ []) ts longer) in
    over_one front word rest t (λ r x. reads_token front word rest t bl sp en a.1 x)
    (read_to more (us ++ placed here t ∷ []) a.0 (one_more here t rest reached a.1) longer)

-- the tokens at the front of a text, read
record ReadFront (library : Bool) (text : List ℕ) (ts : List Placed) (q : Place) (left : List ℕ) : Type 0 where
  state : State
  reached : Reaches ts state
  onward : (r : Result (List Tree) ReadRefusal) → ReadsFrom state q left r → ReadsFrom nothing (text_start library) text r

read_front : {library : Bool} {text left : List ℕ} {ts : List Placed} {q : Place} → Begins (text_start library) text ts q left → CanGoOn 256 ts → ReadFront library text ts q left
read_front begins good = let to = read_to begins [] nothing start good in record { state = to.state; reached = to.reached; onward = to.onward }

all_goes_on : {ts : List Placed} {ds : List Tree} → AreData 256 ts ds → CanGoOn 256 ts
all_goes_on {ts = ts} {ds = ds} x = record { rest = []; elements = ds; spelled = subst (λ us. AreData 256 us ds) (sym (append-nil ts)) x }

pub text_only : (library : Bool) (text : List ℕ) (ds : List Tree) → IsText library text ds → ReadsFrom nothing (text_start library) text (Ok ds)
text_only library text ds x =
    let read = x.read in
    let to = read_front read.begins (all_goes_on x.spelled) in
    to.onward (Ok ds) (subst (λ r. ReadsFrom to.state read.place read.left r) (finish_only x.tokens to.state ds to.reached x.spelled) (reads_end read.ends))

-- a token that is refused
token_refused : {library : Bool} {text rest : List ℕ} {ts : List Placed} {p : Place} {t : Token} {e : ReadRefusal} → NextToken library text ts p t rest →
    ((s : State) → Reaches ts s → accept s p t rest ≡ Err e) → ReadsFrom nothing (text_start library) text (Err e)
token_refused {library = library} {text = text} {rest = rest} {ts = ts} {t = t} {e = e} x refuses =
    let stands = x.stands in
    let begins = subst (λ o. Begins (text_start library) text ts stands.from (stands.blanks ++ o)) x.cut stands.begins in
    let to = read_front begins stands.good in
    to.onward (Err e) (reads_refused stands.blanks x.word rest t stands.blank x.spelled x.ended
    (subst (λ q. accept to.state q t rest ≡ Err e) stands.place (refuses to.state to.reached)))

-- a mark that nothing follows
open_mark : (rest : List ℕ) (s z : State) (p : Place) (m : Mark) → accept s p (token.Mark m) rest ≡ Ok z → finish z.finished z.frames ≡ Err (Syntax p)
open_mark rest s z p m e = ap (λ fs. finish z.finished fs) (marked_frames (step_accept s z p (token.Mark m) rest e))

mark_by : {rest : List ℕ} {ts : List Placed} {s : State} {from p : Place} {m : Mark} (front word : List ℕ) (a : Result State ReadRefusal) → accept s p (token.Mark m) rest ≡ a → Reaches ts s → p ≡ behind_all from front →
    Blank front → Spells word (token.Mark m) → EndsAt (token.Mark m) rest → BlankEnd rest → ReadsFrom s from (front ++ (word ++ rest)) (Err (Syntax p))
mark_by {rest = rest} {s = s} {from = from} {p = p} {m = m} front word (Ok z) e reached is bl sp en ends =
    reads_token front word rest (token.Mark m) bl sp en (subst (λ q. accept s q (token.Mark m) rest ≡ Ok z) is e)
    (subst (λ r. ReadsFrom z (behind_all from (front ++ word)) rest r) (open_mark rest s z p m e) (reads_end ends))
mark_by {rest = rest} {ts = ts} {s = s} {from = from} {p = p} {m = m} front word (Err x) e reached is bl sp en ends =
    let refusal : x ≡ Syntax p = elim (no_other s p (token.Mark m) rest x e) [ inl same ↦ same | inr same ↦ absurd ((deep_law ts s p p (token.Mark m) rest reached (e ∙ ap (λ (y : ReadRefusal). Err y) same)).3 m refl (end_only rest ends).0) ] in
    reads_refused front word rest (token.Mark m) bl sp en (subst (λ q. accept s q (token.Mark m) rest ≡ Err (Syntax p)) is (e ∙ ap (λ (y : ReadRefusal). Err y) refusal))

mark_refused : {library : Bool} {text rest : List ℕ} {ts : List Placed} {p : Place} {t : Token} → NextToken library text ts p t rest → IsMarkAlone t rest → ReadsFrom nothing (text_start library) text (Err (Syntax p))
mark_refused {library = library} {text = text} {ts = ts} {p = p} x (mark_alone {m = m} {rest = rest} ends) =
    let stands = x.stands in
    let begins = subst (λ o. Begins (text_start library) text ts stands.from (stands.blanks ++ o)) x.cut stands.begins in
    let to = read_front begins stands.good in
    to.onward (Err (Syntax p)) (mark_by stands.blanks x.word (accept to.state p (token.Mark m) rest) refl to.reached stands.place stands.blank x.spelled x.ended ends)

-- a fault
fault_refused : {library : Bool} {text rest : List ℕ} {ts : List Placed} {p : Place} {byte : ℕ} {f : Fault} {e : ReadRefusal} → StandsBefore library text ts p byte rest → Faulty (byte ∷ rest) f →
    ((s : State) → Reaches ts s → failed s f p (byte ∷ rest) ≡ e) → ReadsFrom nothing (text_start library) text (Err e)
fault_refused {rest = rest} {byte = byte} {f = f} {e = e} x h fails =
    let to = read_front x.begins x.good in
    to.onward (Err e) (subst (λ y. ReadsFrom to.state x.from (x.blanks ++ byte ∷ rest) (Err y)) (ap (λ q. failed to.state f q (byte ∷ rest)) (sym x.place) ∙ fails to.state to.reached)
    (reads_fault x.blanks byte rest x.blank x.no_blank h))

takes_fault : {ts : List Placed} (rest : List ℕ) (p : Place) (f : Fault) (s : State) (b : Bool) → takes_datum s.frames ≡ b → Reaches ts s → TakesDatum ts p → failed s f p rest ≡ refusal_of f p rest
takes_fault rest p f s true e reached takes = ap (λ b. cond b (refusal_of f p rest) (Syntax p)) e
takes_fault {ts = ts} rest p f s false e reached takes = absurd (atom_refused ts s p (token.Bool true) (Truth true) reached e of_bool (256, takes))

other_fault : {ts : List Placed} (rest : List ℕ) (p : Place) (f : Fault) (s : State) (b : Bool) → takes_datum s.frames ≡ b → Reaches ts s → (TakesDatum ts p → ⊥) → failed s f p rest ≡ Syntax p
other_fault {ts = ts} rest p f s true e reached never = absurd (never (atom_taken ts s p (token.Bool true) (Truth true) reached e of_bool))
other_fault rest p f s false e reached never = ap (λ b. cond b (refusal_of f p rest) (Syntax p)) e

-- the end
open_end : {ts : List Placed} {r : Result (List Tree) ReadRefusal} (p : Place) → Ends ts r → OpenedLast ts p → (EndsInMark ts → ⊥) → r ≡ Err (Unclosed p)
open_end p (ends_whole x) o no_mark = absurd (whole_closed x o)
open_end p (ends_at_mark {q = q} x) o no_mark = absurd (no_mark (q, x.0, x.1))
open_end {ts = ts} p (ends_open {q = q} x) o no_mark = ap (λ (s : Place). Err (Unclosed s)) (opened_once ts q p x.0 o)

pub refused_only : (library : Bool) (text : List ℕ) (e : ReadRefusal) → IsRefused library text e → ReadsFrom nothing (text_start library) text (Err e)
refused_only library text e (no_front ts p t rest x never) = token_refused x (λ s reached. refused_everywhere ts s p t rest reached never)
refused_only library text e (a_mark_alone ts p t rest x some alone) = mark_refused x alone
refused_only library text e (too_deep ts p t rest x some not_alone never) =
    token_refused x (λ s reached. refused_as_deep ts s p t rest reached some never (λ m is bl. not_alone (subst (λ u. IsMarkAlone u rest) (sym is) (mark_alone (all_blank rest bl)))))
refused_only library text e (faulty ts p byte rest f x h takes) = fault_refused x h (λ s reached. takes_fault (byte ∷ rest) p f s (takes_datum s.frames) refl reached takes)
refused_only library text e (out_of_place ts p byte rest f x h never) = fault_refused x h (λ s reached. other_fault (byte ∷ rest) p f s (takes_datum s.frames) refl reached never)
refused_only library text e (unclosed ts p has good o no_mark) =
    let to = read_front has.begins good in
    to.onward (Err (Unclosed p)) (subst (λ r. ReadsFrom to.state has.place has.left r) (open_end p (ended ts to.state to.state.frames to.reached refl) o no_mark) (reads_end has.ends))
