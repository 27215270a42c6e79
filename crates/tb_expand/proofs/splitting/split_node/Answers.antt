use Rattle.std.proofs.Common.{ap, ◌∙◌, map}
use Rattle.tb_expand.specs.Trees.{joined}
use Rattle.tb_expand.specs.View.{nodes, view, view_bindings, view_variable}
use Rattle.tb_expand.specs.calls.Splitting.{assignments}
use Rattle.tb_expand.proofs.SplitLists.{node_made, nodes_joined}
use Rattle.tb_expand.proofs.splitting.split_node.Goals as goal

pub returns : goal.returns
returns c =
    let es = nodes (map view c.args.body.items) in
    let o = view_bindings c.args.others in
    let a = ap (map view_variable) (c.in_ok-variables.ensures.items ∙ c.as_slice.ensures.value) in
    let b = ap (λ xs. nodes (map view xs)) c.in_ok-append.ensures.items ∙ nodes_joined c.add_assignments.new.out.items c.args.body.items
    ∙ ap (λ xs. joined xs es) (c.in_ok-add_assignments.ensures ∙ ap (λ xs. joined (nodes (map view xs)) (assignments c.args.place o.variables o.values)) c.new-parts.ensures.items) in
    node_made c.args.place _ (view_bindings c.args.together) o _ es _ _ _ a b c.in_order.ensures c.in_ok-node.ensures c.in_ok-let_round.ensures
