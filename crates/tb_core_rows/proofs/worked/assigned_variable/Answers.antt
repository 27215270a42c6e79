use Rattle.std.proofs.Common.{[], map, ap}
use Rattle.tb_core.specs.View.{view_lambda}
use Rattle.tb_core_rows.specs.Worked.{assigned_form}
use Rattle.tb_core_rows.proofs.Quiets.{worked_keep}
use Rattle.tb_core_rows.proofs.worked.assigned_variable.Goals as goal

pub of_one-requires : goal.of_one-requires
of_one-requires c = worked_keep [] _ [] _ assigned_form c.in_ok-form.form c.new.ensures.items (ap (map view_lambda) c.new-2.ensures.items) c.in_ok-form.ensures c.worked_rules.ensures.assigned
