-- What reading answers about a text is what the grammar says of it.
use Rattle.std.proofs.Common.{◌≡◌, ℕ, suc, ◌≤◌, Bool, true, false, List, [], ◌∷◌, ◌++◌, length, take, drop, refl, sym, ap, ◌∙◌, subst, arith, take-append-drop}
use Rattle.std.specs.Prelude.{cond, Result, Ok, Err}
use Rattle.std.proofs.lemmas.List.{take_at, drop_at}
use Rattle.tb_prim.specs.declared.place.Place.{Place}
use Rattle.tb_sexp.specs.declared.token.Mark.{Mark}
use Rattle.tb_sexp.specs.declared.token.Token.{Token}
use Rattle.tb_sexp.specs.declared.token.Token.TheVariants as token
use Rattle.tb_sexp.specs.declared.token.Fault.{Fault}
use Rattle.tb_sexp.specs.declared.refusal.ReadRefusal.{ReadRefusal}
use Rattle.tb_sexp.specs.declared.refusal.ReadRefusal.TheVariants.{Syntax}
use Rattle.tb_sexp.specs.Blanks.{Blank, BlankEnd}
use Rattle.tb_sexp.specs.calls.Scanning.{blanks}
use Rattle.tb_sexp.specs.calls.Frames.{Frame, State}
use Rattle.tb_sexp.specs.Grammar.{Placed, placed, of_bool, CanGoOn, CanGoOnSomehow, EndsWith}
use Rattle.tb_sexp.specs.calls.Reached.{Reaches, start, one_more}
use Rattle.tb_sexp.specs.calls.Lexing.{token_at}
use Rattle.tb_sexp.specs.Places.{text_start, behind_all}
use Rattle.tb_sexp.specs.calls.Reading.{takes_datum, accept, failed}
use Rattle.tb_sexp.specs.Faults.{refusal_of}
use Rattle.tb_sexp.specs.calls.Runs.{with_size, with_token, ReadsFrom, blank, refused, taken, nothing}
use Rattle.tb_sexp.specs.Texts.{Begins, no_tokens, one_token, IsText, StandsBefore, NextToken, IsMarkAlone, mark_alone, IsRefused, no_front, a_mark_alone, too_deep, faulty, out_of_place, unclosed}
use Rattle.tb_sexp.specs.Tokens.{Spells, EndsAt, TokenAt, Faulty}
use Rattle.tb_sexp.specs.Tree.{Tree, Truth}
use Rattle.tb_sexp.proofs.GrammarEnds.{Ends, ends_whole, ends_at_mark, ends_open, ended}
use Rattle.tb_sexp.proofs.GrammarLaws.{goes_on, runs_higher, atom_taken, atom_refused}
use Rattle.tb_sexp.proofs.GrammarOpens.{go_on_steps, run_goes_on, shorter}
use Rattle.tb_sexp.proofs.GrammarRuns.{next, done, runs_then, reaches_runs, full_step}
use Rattle.tb_sexp.proofs.GrammarSteps.{Begins as Opens, begins_mark, begin_step, Answer, wrong, wrong_mark, deep, answer}
use Rattle.tb_sexp.proofs.TextsTurns.{behind_then, begins_then, in_two, next_token, last_token, all_blank}
use Rattle.tb_sexp.proofs.TokensApart.{token_found, fault_found}
use Rattle.tb_sexp.proofs.TokensBlanks.{front_found, end_found, end_only}

-- what an answer says of a text
abbrev pub Outcome : Bool → List ℕ → Result (List Tree) ReadRefusal → Type 0
Outcome library text (Ok ds) = IsText library text ds
Outcome library text (Err e) = IsRefused library text e

-- at the end of the text
mark_end : {library : Bool} {text left : List ℕ} {ts : List Placed} {p q : Place} {m : Mark} → Begins (text_start library) text ts p left → BlankEnd left → CanGoOn 256 ts → EndsWith ts (placed q (token.Mark m)) →
    IsRefused library text (Syntax q)
mark_end {library = library} {text = text} {left = left} {ts = ts} {p = p} {q = q} {m = m} begins ends good e =
    let whole : CanGoOn 256 (e.front ++ placed q (token.Mark m) ∷ []) = subst (λ us. CanGoOn 256 us) e.is good in
    let two = in_two e.front (placed q (token.Mark m) ∷ []) (subst (λ us. Begins (text_start library) text us p left) e.is begins) in
    a_mark_alone e.front q (token.Mark m) left (last_token two.first (shorter e.front (placed q (token.Mark m) ∷ []) whole) two.second) (256, whole) (mark_alone ends)

at_end : {library : Bool} {text left : List ℕ} {ts : List Placed} {p : Place} {r : Result (List Tree) ReadRefusal} → Begins (text_start library) text ts p left → BlankEnd left → CanGoOn 256 ts → Ends ts r → Outcome library text r
at_end {left = left} {ts = ts} {p = p} begins ends good (ends_whole x) = record { tokens = ts; read = record { place = p; left = left; begins = begins; ends = ends }; spelled = x }
at_end begins ends good (ends_at_mark x) = mark_end begins ends good x.1
at_end {left = left} {ts = ts} {p = p} begins ends good (ends_open {q = q} x) =
    unclosed ts q (record { place = p; left = left; begins = begins; ends = ends }) good x.0 (λ e. x.1 e.0 e.1 e.2)

-- at a token that is refused
begun_somehow : {ts : List Placed} {s : State} {p : Place} {t : Token} {f : Frame} → Reaches ts s → Opens p t f → takes_datum s.frames ≡ true → 256 ≤ length s.frames → CanGoOnSomehow (ts ++ placed p t ∷ [])
begun_somehow {ts = ts} {s = s} {p = p} {t = t} reached b takes full =
    let n = suc (length s.frames) in
    let higher = runs_higher n (omega arith) (reaches_runs reached) in
    (n, run_goes_on (runs_then higher (next {x = placed p t} (begin_step takes (omega arith) b) done)))

alone_says : {t : Token} {rest : List ℕ} → IsMarkAlone t rest → (m : Mark) × (t ≡ token.Mark m) × (blanks rest ≡ length rest)
alone_says (mark_alone {m = m} {rest = rest} e) = (m, refl, (end_only rest e).0)

mark_somehow : {ts : List Placed} {s : State} (p : Place) {t : Token} {m : Mark} → Reaches ts s → t ≡ token.Mark m → takes_datum s.frames ≡ true → 256 ≤ length s.frames → CanGoOnSomehow (ts ++ placed p t ∷ [])
mark_somehow {ts = ts} p reached is takes full = subst (λ u. CanGoOnSomehow (ts ++ placed p u ∷ [])) (sym is) (begun_somehow reached begins_mark takes full)

refused_token : {library : Bool} {text rest : List ℕ} {ts : List Placed} {s : State} {p : Place} {t : Token} {e : ReadRefusal} → Reaches ts s → NextToken library text ts p t rest → Answer s p t rest (Err e) → IsRefused library text e
refused_token {rest = rest} {ts = ts} {p = p} {t = t} reached x (wrong never) =
    no_front ts p t rest x (λ c. let on = go_on_steps p t (reaches_runs reached) c.1 in never c.0 on.state on.step)
refused_token {rest = rest} {ts = ts} {p = p} {t = t} reached x (wrong_mark is takes full bl) =
    a_mark_alone ts p t rest x (mark_somehow p reached is takes full) (subst (λ u. IsMarkAlone u rest) (sym is) (mark_alone (all_blank rest bl)))
refused_token {rest = rest} {ts = ts} {p = p} {t = t} reached x (deep b takes full last) =
    too_deep ts p t rest x (begun_somehow reached b takes full) (λ a. let says = alone_says a in last says.0 says.1 says.2)
    (λ c. full_step b full (go_on_steps p t (reaches_runs reached) c).step)

-- at a fault
fault_by : {library : Bool} {text rest : List ℕ} {ts : List Placed} {s : State} {p : Place} {byte : ℕ} {f : Fault} (takes : Bool) → takes_datum s.frames ≡ takes → Reaches ts s → StandsBefore library text ts p byte rest →
    Faulty (byte ∷ rest) f → IsRefused library text (failed s f p (byte ∷ rest))
fault_by {library = library} {text = text} {rest = rest} {ts = ts} {s = s} {p = p} {byte = byte} {f = f} true e reached x h =
    subst (λ (b : Bool). IsRefused library text (cond b (refusal_of f p (byte ∷ rest)) (Syntax p))) (sym e)
    (faulty ts p byte rest f x h (atom_taken ts s p (token.Bool true) (Truth true) reached e of_bool))
fault_by {library = library} {text = text} {rest = rest} {ts = ts} {s = s} {p = p} {byte = byte} {f = f} false e reached x h =
    subst (λ (b : Bool). IsRefused library text (cond b (refusal_of f p (byte ∷ rest)) (Syntax p))) (sym e)
    (out_of_place ts p byte rest f x h (λ c. atom_refused ts s p (token.Bool true) (Truth true) reached e of_bool (256, c)))

-- the token behind the blanks of a text, which has so many bytes
record TokenBehind (bs : List ℕ) (t : Token) (n : ℕ) : Type 0 where
  empty : Blank (take (blanks bs) bs)
  spells : Spells (take n (drop (blanks bs) bs)) t
  ends : EndsAt t (drop n (drop (blanks bs) bs))
  whole : bs ≡ take (blanks bs) bs ++ (take n (drop (blanks bs) bs) ++ drop n (drop (blanks bs) bs))

token_behind : (bs : List ℕ) (t : Token) (n : ℕ) → Blank (take (blanks bs) bs) → TokenAt (drop (blanks bs) bs) t n → TokenBehind bs t n
token_behind bs t n bl x =
    let others = drop (blanks bs) bs in
    let word : take n others ≡ x.word = ap (λ o. take n o) x.whole ∙ take_at x.word x.rest n x.size in
    let rest : drop n others ≡ x.rest = ap (λ o. drop n o) x.whole ∙ drop_at x.word x.rest n x.size in
    record {
      empty = bl;
      spells = subst (λ w. Spells w t) (sym word) x.spells;
      ends = subst (λ r. EndsAt t r) (sym rest) x.ends;
      whole = sym (take-append-drop (blanks bs) bs) ∙ ap (λ o. take (blanks bs) bs ++ o) (sym (take-append-drop n others));
    }

-- tokens at the front of a text, and the state behind them
record Front (library : Bool) (text : List ℕ) (s : State) (p : Place) (bs : List ℕ) : Type 0 where
  tokens : List Placed
  begins : Begins (text_start library) text tokens p bs
  reached : Reaches tokens s

abbrev After : Place → List ℕ → Place
After p bs = behind_all p (take (blanks bs) bs)

sized_ok : (a : Result State ReadRefusal) (k n : ℕ) (z : State) → with_size a k ≡ Ok (z, n) → (a ≡ Ok z) × (k ≡ n)
sized_ok (Ok s) k n z h = let e : ◌≡◌ {A = State × ℕ} (s, k) (z, n) = cc in (ap (λ (x : State × ℕ). Ok x.0) e, ap (λ (x : State × ℕ). x.1) e)
sized_ok (Err x) k n z h = absurd (cc)

sized_err : (a : Result State ReadRefusal) (k : ℕ) (e : ReadRefusal) → with_size a k ≡ Err e → a ≡ Err e
sized_err (Ok s) k e h = absurd (cc)
sized_err (Err x) k e h = let is : x ≡ e = cc in ap (λ (y : ReadRefusal). Err y) is

one_further : {library : Bool} {text : List ℕ} {s z : State} {p : Place} {bs : List ℕ} {t : Token} {n : ℕ} (f : Front library text s p bs) → TokenBehind bs t n →
    accept s (After p bs) t (drop n (drop (blanks bs) bs)) ≡ Ok z → Front library text z (behind_all (After p bs) (take n (drop (blanks bs) bs))) (drop n (drop (blanks bs) bs))
one_further {library = library} {text = text} {s = s} {z = z} {p = p} {bs = bs} {t = t} {n = n} f x h =
    let front = take (blanks bs) bs in
    let word = take n (drop (blanks bs) bs) in
    let rest = drop n (drop (blanks bs) bs) in
    let here : Begins p (front ++ (word ++ rest)) (placed (After p bs) t ∷ []) (behind_all (After p bs) word) rest =
    subst (λ q. Begins p (front ++ (word ++ rest)) (placed (After p bs) t ∷ []) q rest) (behind_then p front word) (one_token front word rest t x.empty x.spells x.ends no_tokens) in
    record {
      tokens = f.tokens ++ placed (After p bs) t ∷ [];
      begins = begins_then (subst (λ cs. Begins (text_start library) text f.tokens p cs) x.whole f.begins) here;
      reached = one_more (After p bs) t rest f.reached h;
    }

taken_by : {library : Bool} {text : List ℕ} {s z : State} {p : Place} {bs : List ℕ} {n : ℕ} (f : Front library text s p bs) (x : Result (Token × ℕ) Fault) → Blank (take (blanks bs) bs) → token_at (drop (blanks bs) bs) ≡ x →
    with_token s (After p bs) (drop (blanks bs) bs) x ≡ Ok (z, n) → Front library text z (behind_all (After p bs) (take n (drop (blanks bs) bs))) (drop n (drop (blanks bs) bs))
taken_by {library = library} {text = text} {s = s} {z = z} {p = p} {bs = bs} {n = n} f (Ok x) bl e h =
    let others = drop (blanks bs) bs in
    let a = sized_ok (accept s (After p bs) x.0 (drop x.1 others)) x.1 n z h in
    subst (λ k. Front library text z (behind_all (After p bs) (take k others)) (drop k others)) a.1
    (one_further f (token_behind bs x.0 x.1 bl (token_found others x.0 x.1 e)) a.0)
taken_by f (Err x) bl e h = absurd (cc)

refused_at : {library : Bool} {text : List ℕ} {s : State} {p : Place} {bs : List ℕ} {e : ReadRefusal} (f : Front library text s p bs) (b : ℕ) (rest : List ℕ) (x : Result (Token × ℕ) Fault) → drop (blanks bs) bs ≡ b ∷ rest →
    token_at (drop (blanks bs) bs) ≡ x → with_token s (After p bs) (drop (blanks bs) bs) x ≡ Err e → IsRefused library text e
refused_at {library = library} {text = text} {s = s} {p = p} {bs = bs} {e = e} f b rest (Ok x) is at h =
    let others = drop (blanks bs) bs in
    let t = token_behind bs x.0 x.1 (front_found bs rest b is).0 (token_found others x.0 x.1 at) in
    let left = drop x.1 others in
    let a = sized_err (accept s (After p bs) x.0 left) x.1 e h in
    refused_token f.reached
    (next_token (take (blanks bs) bs) (take x.1 others) left x.0 (subst (λ cs. Begins (text_start library) text f.tokens p cs) t.whole f.begins) t.empty t.spells t.ends (goes_on f.tokens s f.reached))
    (subst (λ r. Answer s (After p bs) x.0 left r) a (answer s (After p bs) x.0 left))
refused_at {library = library} {text = text} {s = s} {p = p} {bs = bs} {e = e} f b rest (Err x) is at h =
    let others = drop (blanks bs) bs in
    let found = front_found bs rest b is in
    let whole : bs ≡ take (blanks bs) bs ++ b ∷ rest = sym (take-append-drop (blanks bs) bs) ∙ ap (λ o. take (blanks bs) bs ++ o) is in
    let there : StandsBefore library text f.tokens (After p bs) b rest =
    record { from = p; blanks = take (blanks bs) bs; begins = subst (λ cs. Begins (text_start library) text f.tokens p cs) whole f.begins; blank = found.0; no_blank = found.1; place = refl; good = goes_on f.tokens s f.reached } in
    let says : IsRefused library text (failed s x (After p bs) (b ∷ rest)) =
    fault_by (takes_datum s.frames) refl f.reached there (subst (λ o. Faulty o x) is (fault_found others x at)) in
    let same : failed s x (After p bs) (b ∷ rest) ≡ e = ap (λ o. failed s x (After p bs) o) (sym is) ∙ cc in
    subst (λ r. IsRefused library text r) same says

-- the answer to a text
outcome_from : {s : State} {p : Place} {bs : List ℕ} {r : Result (List Tree) ReadRefusal} → ReadsFrom s p bs r → (library : Bool) (text : List ℕ) → Front library text s p bs → Outcome library text r
outcome_from (blank {s = s} {bs = bs} h) library text f = at_end f.begins (end_found bs h) (goes_on f.tokens s f.reached) (ended f.tokens s s.frames f.reached refl)
outcome_from (refused {bs = bs} b rest is h) library text f = refused_at f b rest (token_at (drop (blanks bs) bs)) is refl h
outcome_from (taken {bs = bs} b rest is h more) library text f = outcome_from more library text (taken_by f (token_at (drop (blanks bs) bs)) (front_found bs rest b is).0 refl h)

pub outcome : (library : Bool) (text : List ℕ) (r : Result (List Tree) ReadRefusal) → ReadsFrom nothing (text_start library) text r → Outcome library text r
outcome library text r x = outcome_from x library text (record { tokens = []; begins = no_tokens; reached = start })
