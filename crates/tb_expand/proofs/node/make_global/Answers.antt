use Rattle.std.proofs.Common.{ap, ◌∙◌}
use Rattle.tb_expand.specs.Trees.{At, Global}
use Rattle.tb_expand.specs.View.{view_state}
use Rattle.tb_expand.proofs.Views.{view_node, view_global}
use Rattle.tb_expand.proofs.Expanding.{name_gives, name_not_opened}
use Rattle.tb_expand.proofs.node.make_global.Goals as goal

pub returns-in-Ok : goal.returns-in-Ok
returns-in-Ok c = name_gives _ _ _ _ _ _ c.in-Ok.ensures (view_node _ ∙ ap (At c.args.place) (view_global c.args.text))

pub returns-in-Err : goal.returns-in-Err
returns-in-Err c = name_not_opened (view_state c.args.state.now) c.args.context c.args.place (Global c.args.text.now) _ c.in-Err.ensures
