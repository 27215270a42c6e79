use Rattle.std.proofs.Common.{[], map, ap}
use Rattle.tb_core.specs.View.{view_lambda}
use Rattle.tb_core_rows.specs.Worked.{cons_form, cons_statics}
use Rattle.tb_core_rows.proofs.Quiets.{worked_keep}
use Rattle.tb_core_rows.proofs.worked.cons_of_car.Goals as goal

pub of_one-requires : goal.of_one-requires
of_one-requires c = worked_keep cons_statics _ [] _ cons_form c.in_ok-form.form c.in_ok-statics.ensures.items (ap (map view_lambda) c.new.ensures.items) c.in_ok-form.ensures c.worked_rules.ensures.cons
