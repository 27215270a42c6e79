use Rattle.std.proofs.Common.{◌≡◌, ◌+◌, [], ◌∷◌, map, sym, ap, subst, ◌∙◌}
use Rattle.tb_core.specs.Examples.{spot}
use Rattle.tb_core.specs.Tree.{Node, Call}
use Rattle.tb_core.specs.View.{view, trees}
use Rattle.tb_core_rows.specs.Quiet.{IsQuiet}
use Rattle.tb_core_rows.proofs.Quiets.{quiet_call, quiet_constants}
use Rattle.tb_core_rows.proofs.Shown.{view_call}
use Rattle.tb_core_rows.proofs.trees.call.Goals as goal

pub returns : goal.returns
returns c =
    let es = c.in_ok-operands.operands.items in
    let k = c.args.count in
    let n = c.args.number in
    let f = c.constant.result in
    let shown : view c.node.result ≡ Node (spot n) n (Call (view f) (trees (map view es))) =
    c.node.ensures ∙ ap (Node (spot n) n) (view_call c.in_ok-operator.operator c.from_vec.result ∙ ap (λ xs. Call (view c.in_ok-operator.operator) (trees (map view xs))) c.from_vec.ensures ∙ ap (λ e. Call (view e) (trees (map view es))) c.in_ok-operator.ensures) in
    λ within. subst (IsQuiet within [] (n ∷ []) (k + 2)) (sym shown) (quiet_call within [] [] k (spot n) n (view f) (trees (map view es)) c.requires (c.constant.ensures within) (quiet_constants within k es c.in_ok-operands.ensures.count c.in_ok-operands.ensures.plain))
