use Rattle.std.proofs.Common.{sym, ◌∙◌, arith}
use Rattle.tb_expand.specs.View.{view, view_core}
use Rattle.tb_expand.proofs.Views.{view_node}
use Rattle.tb_expand.proofs.Levels.{deep_inside}
use Rattle.tb_expand.proofs.walks.+deep.Goals as goal

pub first_deep-returns-else-levels-eq0 : goal.first_deep-returns-else-levels-eq0
first_deep-returns-else-levels-eq0 t c =
    c.first_deep_in.ensures ∙ sym (deep_inside c.args.levels (view c.args.node.now) c.args.node.now.place (view_core c.args.node.now.core) (omega arith) (view_node c.args.node.now))
