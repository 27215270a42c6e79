use Rattle.std.proofs.Common.{refl, sym, ap, ◌∙◌, map, length}
use Rattle.std.proofs.lemmas.List.{length-map}
use Rattle.tb_expand.specs.Splits.{Split, split, lambdas_among}
use Rattle.tb_expand.specs.View.{nodes, view, view_bindings, view_state, view_variable}
use Rattle.tb_expand.proofs.SplitLists.{Counts, same_split, split_finishes, split_past, how_many_nodes}
use Rattle.tb_expand.proofs.splitting.finish_split.Goals as goal

pub returns-in-Ok : goal.returns-in-Ok
returns-in-Ok c =
    let s = split (map view_variable c.args.variables.items) (nodes (map view c.args.values.items)) (nodes (map view c.args.body.items)) in
    let k = ap (λ es. split (map view_variable c.args.variables.items) (nodes (map view c.args.values.items)) (nodes (map view es))) c.as_slice.ensures.value in
    let r : Split = record { together = view_bindings c.in_ok-together.together; others = view_bindings c.in_ok-together.others; body = nodes (map view c.args.body.items) } in
    let q = same_split s _ _ _ _ (c.in_ok-together.ensures.0 ∙ ap (λ (s : Split). s.together) k) (c.in_ok-together.ensures.1 ∙ ap (λ (s : Split). s.others) k) refl refl in
    let m : Counts r (length c.as_slice-2.result.now) c.count_lambdas.result (length c.as_slice-4.result.now) (length c.as_slice-5.result.now) = record {
      others = ap length c.as_slice-2.ensures.value ∙ sym (length-map c.in_ok-together.others.variables.items view_variable);
      lambdas = c.count_lambdas.ensures ∙ ap (λ es. lambdas_among (nodes (map view es))) c.as_slice-3.ensures.value;
      together = ap length c.as_slice-4.ensures.value ∙ sym (length-map c.in_ok-together.together.variables.items view_variable);
      body = ap length c.as_slice-5.ensures.value ∙ sym (how_many_nodes c.args.body.items);
    } in
    split_finishes c.args.place s r c.args.context (view_state c.args.state.now) (view_state c.count_inserted.new.state) (view c.in_ok-node.node) c.first_deep.result _ _ _ _ q c.in_ok-node.ensures c.first_deep.ensures c.in-None.is m c.in-Ok.ensures

pub returns : goal.returns
returns c =
    let s = split (map view_variable c.args.variables.items) (nodes (map view c.args.values.items)) (nodes (map view c.args.body.items)) in
    let k = ap (λ es. split (map view_variable c.args.variables.items) (nodes (map view c.args.values.items)) (nodes (map view es))) c.as_slice.ensures.value in
    let r : Split = record { together = view_bindings c.in_ok-together.together; others = view_bindings c.in_ok-together.others; body = nodes (map view c.args.body.items) } in
    let q = same_split s _ _ _ _ (c.in_ok-together.ensures.0 ∙ ap (λ (s : Split). s.together) k) (c.in_ok-together.ensures.1 ∙ ap (λ (s : Split). s.others) k) refl refl in
    let m : Counts r (length c.as_slice-2.result.now) c.count_lambdas.result (length c.as_slice-4.result.now) (length c.as_slice-5.result.now) = record {
      others = ap length c.as_slice-2.ensures.value ∙ sym (length-map c.in_ok-together.others.variables.items view_variable);
      lambdas = c.count_lambdas.ensures ∙ ap (λ es. lambdas_among (nodes (map view es))) c.as_slice-3.ensures.value;
      together = ap length c.as_slice-4.ensures.value ∙ sym (length-map c.in_ok-together.together.variables.items view_variable);
      body = ap length c.as_slice-5.ensures.value ∙ sym (how_many_nodes c.args.body.items);
    } in
    split_past c.args.place s r c.args.context (view_state c.args.state.now) (view c.in_ok-node.node) c.first_deep.result _ _ _ _ c.in-Err.refusal q c.in_ok-node.ensures c.first_deep.ensures c.in-None.is m c.in-Err.ensures
