-- Rows of data as plain data, by their length.
use Rattle.std.proofs.Common.{◌≡◌, refl, ℕ, ◌<◌, ◌≢◌, arith, List, [], ◌∷◌, length, drop, get_or, Option, Some, None}
use Rattle.tb_sexp.specs.declared.datum.Datum.{Datum}
use Rattle.tb_sexp.specs.View as data_view
use Rattle.tb_rules.specs.Rules.{rule_in}
use Rattle.tb_rules.specs.Compiled.{parts_in}
use Rattle.tb_rules.specs.View.{data_of}

pub no_rule : (ds : List Datum) → length ds ≢ 2 → rule_in (Some (data_of ds)) ≡ None
no_rule [] h = refl
no_rule (x ∷ []) h = refl
no_rule (x ∷ y ∷ []) h = absurd (h refl)
no_rule (x ∷ y ∷ z ∷ ds) h = refl

pub no_parts : (ds : List Datum) → length ds < 2 → parts_in (Some (data_of ds)) ≡ None
no_parts [] h = refl
no_parts (x ∷ []) h = refl
no_parts (x ∷ y ∷ ds) h = absurd (omega arith)
