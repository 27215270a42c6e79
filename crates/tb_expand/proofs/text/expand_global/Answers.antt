use Rattle.tb_expand.specs.View.{view_defined, view_state}
use Rattle.tb_expand.proofs.TopForms.{value_refused}
use Rattle.tb_expand.proofs.text.expand_global.Goals as goal

pub returns-in-Err-expand_defined : goal.returns-in-Err-expand_defined
returns-in-Err-expand_defined c =
    value_refused (view_state c.args.state.now) (view_state c.open_node.new.state) c.args.context c.args.place (view_defined c.args.value.now) c.in-Err-expand_defined.refusal c.in-Ok.ensures (rw c.inner.ensures at c.in-Err-expand_defined.ensures)
