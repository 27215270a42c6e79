use Rattle.std.proofs.Common.{ap, ◌∙◌}
use Rattle.tb_expand.specs.Trees.{At, Local}
use Rattle.tb_expand.specs.View.{view_state, view_variable}
use Rattle.tb_expand.proofs.Views.{view_node, view_local}
use Rattle.tb_expand.proofs.Expanding.{name_gives, name_not_opened}
use Rattle.tb_expand.proofs.node.make_local.Goals as goal

pub returns-in-Ok : goal.returns-in-Ok
returns-in-Ok c = name_gives _ _ _ _ _ _ c.in-Ok.ensures (view_node _ ∙ ap (At c.args.place) (view_local c.args.variable))

pub returns-in-Err : goal.returns-in-Err
returns-in-Err c = name_not_opened (view_state c.args.state.now) c.args.context c.args.place (Local (view_variable c.args.variable)) _ c.in-Err.ensures
