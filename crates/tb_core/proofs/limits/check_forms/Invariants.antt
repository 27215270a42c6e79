use Rattle.std.proofs.Common.{◌≡◌, map, drop, Ok}
use Rattle.tb_core.specs.Limits.{forms_measures, judge, no_widths, IsSmall}
use Rattle.tb_core.specs.View.{view, trees, view_lambda}
use Rattle.tb_core.proofs.limits.check_forms.Given as goal

abbrev pub invariant-loop-form : goal.invariant-loop-form
invariant-loop-form l = record {
  value : judge (Ok l.totals) (forms_measures (map view_lambda l.lambdas) (trees (map view (drop l.form-index l.forms)))) ≡ judge (Ok no_widths) (forms_measures (map view_lambda l.lambdas) (trees (map view l.forms)));
  small : IsSmall l.totals;
}
