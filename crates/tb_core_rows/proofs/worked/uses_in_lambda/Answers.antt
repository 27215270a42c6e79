use Rattle.std.proofs.Common.{[], ◌∷◌, map, ap, ◌∙◌}
use Rattle.tb_core.specs.View.{view_lambda}
use Rattle.tb_core_rows.specs.Worked.{uses_form, uses_lambda}
use Rattle.tb_core_rows.proofs.Quiets.{worked_keep}
use Rattle.tb_core_rows.proofs.worked.uses_in_lambda.Goals as goal

pub of_one-requires : goal.of_one-requires
of_one-requires c = worked_keep [] _ (uses_lambda ∷ []) _ uses_form c.in_ok-form.form c.new.ensures.items (ap (map view_lambda) c.in_ok-lambdas.ensures.items ∙ ap (λ l. l ∷ []) c.in_ok-uses_inner.ensures) c.in_ok-form.ensures c.worked_rules.ensures.uses
