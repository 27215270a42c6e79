use Rattle.std.proofs.Common.{ℕ, true, List, [], ◌∷◌, ◌++◌, codes, pos, refl, arith}
use Rattle.tb_prim.specs.declared.place.Place.{Place}
use Rattle.tb_sexp.specs.declared.token.Mark.{Mark}
use Rattle.tb_sexp.specs.declared.token.Mark.TheVariants.{Quote}
use Rattle.tb_sexp.specs.declared.token.Token.TheVariants as token
use Rattle.tb_sexp.specs.calls.Frames.{Frame, InMark, InList, AfterDot, State}
use Rattle.tb_sexp.specs.Grammar.{Placed, placed, of_bool, of_fix, of_name, IsDatum, an_atom, a_mark, a_list, a_dotted_list, a_vector, AreData, no_data, more_data, CanGoOn, CanGoOnSomehow, OpenedLast, no_bracket, closed}
use Rattle.tb_sexp.specs.GrammarRows.{row, joined_row, joined_data, quoted_row, quoted_data}
use Rattle.tb_sexp.specs.calls.Runs.{nothing}
use Rattle.tb_sexp.specs.Tree.{Tree, At, Name}
use Rattle.tb_sexp.specs.declared.token.Fault.TheVariants.{Syntax}
use Rattle.tb_sexp.specs.Blanks.{nothing as nothing_blank, whitespace, comment}
use Rattle.tb_sexp.specs.Tokens.{number, numeral, based, minus, name, text, plain, escaped, no_more}
use Rattle.tb_sexp.proofs.TokensApart.{no_token_at, fault_found}
use Rattle.tb_sexp.proofs.GrammarSteps.{begins_list, begins_mark, Step, begin_step, atom_step, dot_step}
use Rattle.tb_sexp.proofs.GrammarRuns.{Runs, done, next}
use Rattle.tb_sexp.proofs.GrammarOpens.{go_on_steps, shorter}
use Rattle.tb_sexp.proofs.examples.worked_rows.Goals as goal

one : {n : ℕ} {ts : List Placed} {d : Tree} → IsDatum n ts d → AreData n (ts ++ []) (d ∷ [])
one x = more_data x no_data

joined_spelled : (p : Place) → AreData 2 (row p joined_row) (joined_data p)
joined_spelled p =
    let a : AreData 1 (placed p (token.Name (codes "a")) ∷ []) (At p (Name (codes "a") 0) ∷ []) = one (an_atom of_name) in
    let b : AreData 0 (placed p (token.Name (codes "b")) ∷ []) (At p (Name (codes "b") 0) ∷ []) = one (an_atom of_name) in
    one (a_dotted_list {p = p} p p a (λ e. cc) (a_list {p = p} p b))

quoted_spelled : (p : Place) → AreData 2 (row p quoted_row) (quoted_data p)
quoted_spelled p = more_data (a_mark {p = p} {m = Quote} (a_vector {p = p} p (one (an_atom {p = p} (of_fix {n = pos 1}))))) (one (an_atom {p = p} (of_bool {b = true})))

-- a list is begun
begun : (p : Place) → Runs 1 nothing (placed p token.Open ∷ []) (record { finished = []; frames = InList p [] ∷ [] })
begun p = next (begin_step refl (omega arith) begins_list) done

no_dot : {l : ℕ} {ds : List Tree} {fs : List Frame} {p q : Place} {s : State} → Step l ds (InList q [] ∷ fs) p token.Dot s → ⊥
no_dot (begin_step takes low b) = elim b [ ]
no_dot (atom_step takes a) = elim a [ ]
no_dot (dot_step some) = some refl

no_close : {l : ℕ} {ds : List Tree} {p : Place} {s : State} → Step l ds [] p token.Close s → ⊥
no_close (begin_step takes low b) = elim b [ ]
no_close (atom_step takes a) = elim a [ ]

mark_not_closed : {l : ℕ} {ds : List Tree} {fs : List Frame} {p q : Place} {m : Mark} {s : State} → Step l ds (InMark q m ∷ fs) p token.Close s → ⊥
mark_not_closed (begin_step takes low b) = elim b [ ]
mark_not_closed (atom_step takes a) = elim a [ ]

one_level : {ds : List Tree} {f : Frame} {p : Place} {s : State} → Step 1 ds (f ∷ []) p token.Open s → ⊥
one_level (begin_step takes low b) = omega arith
one_level (atom_step takes a) = elim a [ ]

one_level_row : (p : Place) → CanGoOn 1 (placed p token.Open ∷ placed p token.Open ∷ []) → ⊥
one_level_row p c = one_level (go_on_steps {ts = placed p token.Open ∷ []} p token.Open (begun p) c).step

joined_front : (p : Place) → Runs 1 nothing (placed p token.Open ∷ placed p (token.Name (codes "a")) ∷ placed p token.Dot ∷ []) (record { finished = []; frames = AfterDot p (At p (Name (codes "a") 0) ∷ []) ∷ [] })
joined_front p = next (begin_step refl (omega arith) begins_list) (next (atom_step refl of_name) (next (dot_step (λ e. cc)) done))

joined_deep_row : (p : Place) → CanGoOn 1 (row p joined_row) → ⊥
joined_deep_row p c =
    let front = placed p token.Open ∷ placed p (token.Name (codes "a")) ∷ placed p token.Dot ∷ [] in
    one_level (go_on_steps {ts = front} p token.Open (joined_front p) (shorter (front ++ placed p token.Open ∷ []) (placed p (token.Name (codes "b")) ∷ placed p token.Close ∷ placed p token.Close ∷ []) c)).step

no_first_row : (p : Place) → CanGoOnSomehow (placed p token.Open ∷ placed p token.Dot ∷ []) → ⊥
no_first_row p c = no_dot (go_on_steps {ts = placed p token.Open ∷ []} p token.Dot (begun p) c.1).step

no_opening_row : (p : Place) → CanGoOnSomehow (placed p token.Close ∷ []) → ⊥
no_opening_row p c = no_close (go_on_steps {k = 0} {ts = []} p token.Close done c.1).step

no_datum_row : (p : Place) (m : Mark) → CanGoOnSomehow (placed p (token.Mark m) ∷ placed p token.Close ∷ []) → ⊥
no_datum_row p m c =
    let run : Runs 1 nothing (placed p (token.Mark m) ∷ []) (record { finished = []; frames = InMark p m ∷ [] }) = next (begin_step refl (omega arith) begins_mark) done in
    mark_not_closed (go_on_steps {ts = placed p (token.Mark m) ∷ []} p token.Close run c.1).step

two_levels_row : (p : Place) → CanGoOn 2 (placed p token.Open ∷ placed p token.Open ∷ [])
two_levels_row p = record { rest = placed p token.Close ∷ placed p token.Close ∷ []; elements = _; spelled = one (a_list {p = p} p (one (a_list {p = p} p (no_data {n = 0})))) }

opened_last_row : (p q r s : Place) → OpenedLast (placed p token.Open ∷ placed q token.OpenVector ∷ placed r token.Open ∷ placed s token.Close ∷ []) q
opened_last_row p q r s = record { front = placed p token.Open ∷ []; opening = token.OpenVector; inside = placed r token.Open ∷ placed s token.Close ∷ []; is = refl; opens = refl; balanced = closed s refl no_bracket no_bracket }

pub returns : goal.returns
returns c = record {
  joined = joined_spelled;
  joined_deep = joined_deep_row;
  quoted = quoted_spelled;
  no_first = no_first_row;
  no_opening = no_opening_row;
  no_datum = no_datum_row;
  two_levels = two_levels_row;
  one_level = one_level_row;
  last = opened_last_row;
  number = number (numeral {ds = codes "1f"} (based {b = 88} refl) minus refl) refl;
  text = text (plain (λ e. omega arith) (λ e. omega arith) (escaped {b = 110} refl no_more)) (omega arith);
  name = name {w = codes "Ab+"} refl (omega arith);
  digits = no_token_at (codes "1+") Syntax refl;
  character = no_token_at (codes "#\\spac") Syntax refl;
  escape = fault_found (codes "\"a\\q\"") _ refl;
  blank = whitespace {b = 32} refl (comment (codes "x") refl (whitespace {b = 9} refl nothing_blank));
}
