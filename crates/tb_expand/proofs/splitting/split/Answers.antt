use Rattle.std.proofs.Common.{ap, ◌∙◌, ◌++◌, map}
use Rattle.tb_expand.specs.View.{nodes, view, view_variable}
use Rattle.tb_expand.specs.calls.Splitting.{assigned_all}
use Rattle.tb_expand.proofs.SplitLists.{same_bindings, split_made}
use Rattle.tb_expand.proofs.splitting.split.Goals as goal

pub returns : goal.returns
returns c =
    let es = nodes (map view c.args.body.now) in
    let a = ap (map view_variable) c.as_slice-2.ensures.value ∙ c.in_ok-add_all_assigned-2.ensures
    ∙ ap (λ xs. xs ++ assigned_all es) (c.in_ok-add_all_assigned.ensures ∙ ap (λ xs. map view_variable xs ++ assigned_all (nodes (map view c.as_slice.result.now))) c.new-assigned.ensures.items
    ∙ ap (λ vs. assigned_all (nodes (map view vs))) c.as_slice.ensures.value) in
    let n = same_bindings _ _ _ _ (ap (map view_variable) c.new.ensures.items) (ap (λ es. nodes (map view es)) c.new-2.ensures.items) in
    let m = same_bindings _ _ _ _ (ap (map view_variable) c.new-3.ensures.items) (ap (λ es. nodes (map view es)) c.new-4.ensures.items) in
    split_made c.as_slice-2.result.now (nodes (map view c.args.values.items)) es (map view_variable c.args.variables.items) _ _ _ _ a n m c.in_ok-split_bindings.ensures
