-- Lists of captured variables that are found by their number.
use Rattle.std.proofs.Common.{◌≡◌, refl, sym, ap, ◌∙◌, ℕ, suc, ◌<◌, Bool, true, false, cond, ◌==◌, ◌||◌, is_some, List, length, map, drop, get_or, Option, Some}
use Rattle.std.proofs.Math.Seq.{drop-cons}
use Rattle.std.proofs.lemmas.Option.{slice_get-get_or}
use Rattle.tb_core.specs.FreeVariables.{is_in}
use Rattle.tb_core.specs.Lifting.{Lifted, view_lifted}
use Rattle.tb_core.specs.declared.lift_set.LiftLine.{LiftLine}
use Rattle.tb_ir.specs.FreeVariables.{added_to}
use Rattle.tb_anf.specs.calls.Captures.{added_by, added_in}

-- one more line, before those that are found already
pub lift-step : (set : List LiftLine) (i j : ℕ) (d : LiftLine) (l : ℕ) (rest : Option ℕ) → i < length set → j ≡ suc i →
    added_in set rest ≡ added_to (map view_lifted (drop j set)) l →
    added_in set (cond ((get_or set i d).lambda == l) (Some i) rest) ≡ added_to (map view_lifted (drop i set)) l
lift-step set i j d l rest lt e h =
    let m = get_or set i d in
    by_test (m.lambda == l)
    ∙ ap (λ xs. cond (m.lambda == l) m.added xs) (h ∙ ap (λ n. added_to (map view_lifted (drop n set)) l) e)
    ∙ ap (λ ls. added_to (map view_lifted ls) l) (sym (drop-cons set i d lt))
  where
    by_test : (b : Bool) → added_in set (cond b (Some i) rest) ≡ cond b (get_or set i d).added (added_in set rest)
    by_test true = ap added_by (slice_get-get_or set i d lt)
    by_test false = refl

pub lifted-step : (set : List LiftLine) (i j : ℕ) (d : LiftLine) (l : ℕ) (rest : Option ℕ) → i < length set → j ≡ suc i →
    is_some rest ≡ is_in (map (λ (m : Lifted). m.lambda) (map view_lifted (drop j set))) l →
    is_some (cond ((get_or set i d).lambda == l) (Some i) rest) ≡ is_in (map (λ (m : Lifted). m.lambda) (map view_lifted (drop i set))) l
lifted-step set i j d l rest lt e h =
    by_test ((get_or set i d).lambda == l)
    ∙ ap (λ b. (get_or set i d).lambda == l || b) (h ∙ ap (λ n. is_in (map (λ (m : Lifted). m.lambda) (map view_lifted (drop n set))) l) e)
    ∙ ap (λ ls. is_in (map (λ (m : Lifted). m.lambda) (map view_lifted ls)) l) (sym (drop-cons set i d lt))
  where
    by_test : (b : Bool) → is_some (cond b (Some i) rest) ≡ (b || is_some rest)
    by_test true = refl
    by_test false = refl
