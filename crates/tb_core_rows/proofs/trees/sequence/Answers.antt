use Rattle.std.proofs.Common.{◌≡◌, ◌+◌, [], map, sym, ap, subst, ◌∙◌}
use Rattle.tb_core.specs.Examples.{spot}
use Rattle.tb_core.specs.Tree.{Node, Seq}
use Rattle.tb_core.specs.View.{view, trees}
use Rattle.tb_core_rows.specs.Quiet.{IsQuiet}
use Rattle.tb_core_rows.proofs.Quiets.{quiet_sequence, quiet_constants, some_view}
use Rattle.tb_core_rows.proofs.Shown.{view_seq}
use Rattle.tb_core_rows.proofs.trees.sequence.Goals as goal

pub returns : goal.returns
returns c =
    let es = c.in_ok-exprs.exprs.items in
    let k = c.args.count in
    let n = c.args.number in
    let shown : view c.node.result ≡ Node (spot n) n (Seq (trees (map view es))) = c.node.ensures ∙ ap (Node (spot n) n) (view_seq c.from_vec.result ∙ ap (λ xs. Seq (trees (map view xs))) c.from_vec.ensures) in
    λ within. subst (IsQuiet within [] [] (k + 1)) (sym shown) (quiet_sequence within [] [] k (spot n) n (trees (map view es)) c.requires.number (some_view es k c.in_ok-exprs.ensures.count c.requires.some) (quiet_constants within k es c.in_ok-exprs.ensures.count c.in_ok-exprs.ensures.plain))
