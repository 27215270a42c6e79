-- Lambda expressions that are known by the mentions of their names.
use Rattle.std.proofs.Common.{◌≡◌, refl, sym, ap, ◌∙◌, ℕ, suc, ◌+◌, ◌<◌, Bool, true, false, cond, ◌==◌, ◌&&◌, ◌||◌, not, eqb-true, List, ◌∷◌, length, drop, drop-cons, add-one, get_or, Option, Some, None, ◌++◌, [], map, append_assoc}
use Rattle.tb_core.specs.declared.program.Lambda.{Lambda as LambdaCode}
use Rattle.tb_core.specs.View.{view_lambda}
use Rattle.tb_core.specs.Tree.{LambdaTree}
use Rattle.tb_liftable.specs.declared.mentions.Mention.{Mention}
use Rattle.tb_liftable.specs.declared.procedures.Use.{Use}
use Rattle.tb_liftable.specs.Procedures.{fits_mention, only_called, is_known, is_known_by, known_from, name_in}
use Rattle.tb_liftable.specs.calls.Uses.{fits_use, is_known_in, is_known_with}

known_by : (ms : List Mention) (uses : ℕ → Option Use) (m : LambdaTree) → ((x n : ℕ) → fits_use n (uses x) ≡ only_called ms x n) → (r o : Option ℕ) → is_known_in uses m r o ≡ is_known_by ms m r o
known_by ms uses m h (Some r) o = refl
known_by ms uses m h None None = refl
known_by ms uses m h None (Some x) = h x (length m.formals)

pub known_same : (ms : List Mention) (names : ℕ → Option ℕ) (uses : ℕ → Option Use) (m : LambdaTree) (l : ℕ) → names l ≡ name_in ms l → ((x n : ℕ) → fits_use n (uses x) ≡ only_called ms x n) → is_known_with names uses m l ≡ is_known ms m l
known_same ms names uses m l e h = ap (is_known_in uses m m.rest) e ∙ known_by ms uses m h m.rest (name_in ms l)

-- a further mention
noted_by : (old new : ℕ → Option Use) (v x n : ℕ) (u : Use) (c : Bool) → new x ≡ cond (v == x) (Some u) (old x) → fits_use n (Some u) ≡ (c && fits_use n (old v)) → (b : Bool) → (v == x) ≡ b → fits_use n (new x) ≡ ((not b || c) && fits_use n (old x))
noted_by old new v x n u c e h true t = ap (fits_use n) (e ∙ ap (λ k. cond k (Some u) (old x)) t) ∙ (h ∙ ap (λ k. c && fits_use n (old k)) (eqb-true v x t))
noted_by old new v x n u c e h false t = ap (fits_use n) (e ∙ ap (λ k. cond k (Some u) (old x)) t)

pub note_called : (old new : ℕ → Option Use) (v count : ℕ) (u : Use) → ((x : ℕ) → new x ≡ cond (v == x) (Some u) (old x)) → ((n : ℕ) → fits_use n (Some u) ≡ ((count == n) && fits_use n (old v))) → (x n : ℕ) → fits_use n (new x) ≡ ((not (v == x) || (count == n)) && fits_use n (old x))
note_called old new v count u e h x n = noted_by old new v x n u (count == n) (e x) (h n) (v == x) refl

or_false : (a : Bool) → (not a || false) ≡ not a
or_false true = refl
or_false false = refl

pub note_other : (old new : ℕ → Option Use) (v : ℕ) → ((x : ℕ) → new x ≡ cond (v == x) (Some Use.Other) (old x)) → (x n : ℕ) → fits_use n (new x) ≡ (not (v == x) && fits_use n (old x))
note_other old new v e x n = noted_by old new v x n Use.Other false (e x) refl (v == x) refl ∙ ap (λ k. k && fits_use n (old x)) (or_false (v == x))

-- a step of the loop over the mentions
pub and_moved : (f o u : Bool) → ((f && o) && u) ≡ (o && (f && u))
and_moved true o u = refl
and_moved false true u = refl
and_moved false false u = refl

pub and_true : (a : Bool) → (a && true) ≡ a
and_true true = refl
and_true false = refl

pub use_step : (ms : List Mention) (i : ℕ) (m : Mention) (x n : ℕ) (old new whole : Bool) → i < length ms → get_or ms i m ≡ m → new ≡ (fits_mention x n m && old) → (only_called (drop i ms) x n && old) ≡ whole → (only_called (drop (i + 1) ms) x n && new) ≡ whole
use_step ms i m x n old new whole lt e q h =
    let rest = only_called (drop (i + 1) ms) x n in
    let left : drop i ms ≡ m ∷ drop (i + 1) ms = drop-cons ms i m lt ∙ (ap (λ k. k ∷ drop (suc i) ms) e ∙ ap (λ k. m ∷ drop k ms) (sym (add-one i))) in
    ap (λ k. rest && k) q ∙ (sym (and_moved (fits_mention x n m) rest old) ∙ (ap (λ (k : List Mention). only_called k x n && old) (sym left) ∙ h))

-- a step of the loop over the lambda expressions
put_by : (at : ℕ) (out rest whole : List ℕ) (b : Bool) → out ++ cond b (at ∷ rest) rest ≡ whole → cond b (out ++ at ∷ []) out ++ rest ≡ whole
put_by at out rest whole true h = append_assoc out (at ∷ []) rest ∙ h
put_by at out rest whole false h = h

pub candidate_step : (ms : List Mention) (ls : List LambdaCode) (at : ℕ) (m : LambdaCode) (b : Bool) (out new whole : List ℕ) → at < length ls → m ≡ get_or ls at m → b ≡ is_known ms (view_lambda m) at → new ≡ cond b (out ++ at ∷ []) out → out ++ known_from ms (map view_lambda (drop at ls)) at ≡ whole → new ++ known_from ms (map view_lambda (drop (at + 1) ls)) (at + 1) ≡ whole
candidate_step ms ls at m b out new whole lt is known put h =
    let rest = known_from ms (map view_lambda (drop (suc at) ls)) (suc at) in
    let next : known_from ms (map view_lambda (drop (at + 1) ls)) (at + 1) ≡ rest = ap (λ k. known_from ms (map view_lambda (drop k ls)) k) (add-one at) in
    let left : known_from ms (map view_lambda (drop at ls)) at ≡ cond b (at ∷ rest) rest =
    ap (λ (v : List LambdaCode). known_from ms (map view_lambda v) at) (drop-cons ls at m lt)
    ∙ (ap (λ (v : LambdaCode). cond (is_known ms (view_lambda v) at) (at ∷ rest) rest) (sym is) ∙ ap (λ v. cond v (at ∷ rest) rest) (sym known)) in
    ap (λ v. new ++ v) next ∙ (ap (λ v. v ++ rest) put ∙ put_by at out rest whole b (ap (λ v. out ++ v) (sym left) ∙ h))
