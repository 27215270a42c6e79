use Rattle.std.proofs.Common.{ap, ◌∙◌}
use Rattle.tb_sexp.specs.View as data_view
use Rattle.tb_expand.specs.Trees.{At}
use Rattle.tb_expand.specs.View.{view_state}
use Rattle.tb_expand.proofs.Views.{view_node, view_constant}
use Rattle.tb_expand.proofs.Expanding.{constant_gives, constant_not_opened, constant_has_no_room}
use Rattle.tb_expand.proofs.node.make_constant.Goals as goal

pub returns-in-Ok-count_constant : goal.returns-in-Ok-count_constant
returns-in-Ok-count_constant c =
    constant_gives _ _ _ _ _ _ _ c.in-Ok.ensures c.in-Ok-count_constant.ensures (view_node _ ∙ ap (At c.args.place) (view_constant c.args.node))

pub returns-in-Err-count_constant : goal.returns-in-Err-count_constant
returns-in-Err-count_constant c =
    constant_has_no_room (view_state c.args.state.now) (view_state c.open_node.new.state) c.args.context c.args.place (data_view.view_node c.args.node.now) _ c.in-Ok.ensures c.in-Err-count_constant.ensures

pub returns-in-Err : goal.returns-in-Err
returns-in-Err c = constant_not_opened (view_state c.args.state.now) c.args.context c.args.place (data_view.view_node c.args.node.now) _ c.in-Err.ensures
