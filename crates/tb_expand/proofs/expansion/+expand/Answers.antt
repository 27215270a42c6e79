use Rattle.std.proofs.Common.{length, None, Some, true, ◌≡◌, sym, ap, ◌∙◌, map, drop, arith}
use Rattle.tb_sexp.specs.Tree as datum
use Rattle.tb_sexp.specs.View.{view as view_datum}
use Rattle.tb_expand.specs.Trees.{variables, nil, cons}
use Rattle.std.proofs.lemmas.List.{length-map}
use Rattle.tb_expand.specs.Names.{names, bound_twice}
use Rattle.tb_expand.specs.Scopes.{enter}
use Rattle.tb_expand.specs.Limits.{inner, within, valued}
use Rattle.tb_expand.specs.Shapes.{parameters}
use Rattle.tb_expand.proofs.Sizes.{size_all}
use Rattle.tb_expand.proofs.Expanding.{no_data, two_data}
use Rattle.tb_expand.specs.View.{data_of, nodes, view, view_binder, view_lists, pair_binder, view_build, view_core, view_defined, view_expression, view_formals, view_found, view_pairs, view_state, view_variable}
use Rattle.tb_expand.proofs.Scanning.{element_size}
use Rattle.tb_expand.proofs.Rows.{drop_none}
use Rattle.tb_expand.proofs.Views.{view_node}
use Rattle.tb_expand.proofs.Works.{weight_all, value_smaller, values_weigh, work_smaller, is_suited}
use Rattle.tb_expand.specs.Means.{a_value, a_procedure}
use Rattle.tb_expand.proofs.Forms as forms
use Rattle.tb_expand.proofs.expansion.+expand.Goals as goal

pub expand_all-expand_datum-requires : goal.expand_all-expand_datum-requires
expand_all-expand_datum-requires t c =
    let h = element_size c.args.datums.now c.loop-i.i c.index-datums-i.result (omega arith) c.index-datums-i.is in
    omega (arith, h, c.decreases)

pub expand_all-returns-in-Err : goal.expand_all-returns-in-Err
expand_all-returns-in-Err t c =
    forms.all_refused (view_state c.args.state.now) (view_state c.loop-i.state) c.args.context (data_of c.args.datums.now) c.args.datums.now c.loop-i.i (nodes (map view c.loop-i.parts.items)) c.index-datums-i.result c.in-Err.refusal
    (omega arith) c.index-datums-i.is c.loop-i.invariant c.in-Err.ensures

pub expand_all-loop-i-preserved : goal.expand_all-loop-i-preserved
expand_all-loop-i-preserved t c =
    let a = forms.all_going (view_state c.args.state.now) (view_state c.loop-i.state) (view_state c.expand_datum.new.state) c.args.context (data_of c.args.datums.now) c.args.datums.now c.loop-i.i c.loop-i.parts.items c.index-datums-i.result c.in-Ok.node
    (omega arith) c.index-datums-i.is c.loop-i.invariant c.in-Ok.ensures in
    rw c.in_ok-push-in-Ok.ensures.items a

pub expand_all-returns : goal.expand_all-returns
expand_all-returns t c =
    forms.all_end (view_state c.args.state.now) (view_state c.loop-i.state) c.args.context (data_of c.args.datums.now) (data_of (drop c.loop-i.i c.args.datums.now)) (nodes (map view c.loop-i.parts.items)) c.loop-i.invariant
    (ap data_of (drop_none c.args.datums.now c.loop-i.i (omega arith)))

pub expand_each-expand_defined-requires : goal.expand_each-expand_defined-requires
expand_each-expand_defined-requires t c =
    let h = value_smaller c.args.values.now c.loop-i.i c.index-values-i.result (omega arith) c.index-values-i.is in
    omega (arith, h, c.decreases)

pub expand_each-returns-in-Err : goal.expand_each-returns-in-Err
expand_each-returns-in-Err t c =
    forms.each_refused (view_state c.args.state.now) (view_state c.loop-i.state) c.args.context (map view_defined c.args.values.now) c.args.values.now c.loop-i.i (nodes (map view c.loop-i.parts.items)) c.index-values-i.result c.in-Err.refusal
    (omega arith) c.index-values-i.is c.loop-i.invariant c.in-Err.ensures

pub expand_each-loop-i-preserved : goal.expand_each-loop-i-preserved
expand_each-loop-i-preserved t c =
    let a = forms.each_going (view_state c.args.state.now) (view_state c.loop-i.state) (view_state c.expand_defined.new.state) c.args.context (map view_defined c.args.values.now) c.args.values.now c.loop-i.i c.loop-i.parts.items c.index-values-i.result c.in-Ok.node
    (omega arith) c.index-values-i.is c.loop-i.invariant c.in-Ok.ensures in
    rw c.in_ok-push-in-Ok.ensures.items a

pub expand_each-returns : goal.expand_each-returns
expand_each-returns t c =
    forms.each_end (view_state c.args.state.now) (view_state c.loop-i.state) c.args.context (map view_defined c.args.values.now) (map view_defined (drop c.loop-i.i c.args.values.now)) (nodes (map view c.loop-i.parts.items)) c.loop-i.invariant
    (ap (map view_defined) (drop_none c.args.values.now c.loop-i.i (omega arith)))

pub expand_datum-expand_form-requires : goal.expand_datum-expand_form-requires
expand_datum-expand_form-requires t c =
    let w = work_smaller (view_state c.args.state.now) c.args.context (view_datum c.args.datum.now) (view_expression c.in-Ok.expression) c.in-Ok.ensures in
    (omega (arith, w, c.decreases), is_suited (view_state c.args.state.now) c.args.context (view_datum c.args.datum.now) (view_expression c.in-Ok.expression) c.in-Ok.ensures)

pub expand_datum-returns-in-Err : goal.expand_datum-returns-in-Err
expand_datum-returns-in-Err t c = forms.datum_wrong (view_state c.args.state.now) c.args.context (view_datum c.args.datum.now) c.in-Err.refusal c.in-Err.ensures

pub expand_defined-returns-in-Ok : goal.expand_defined-returns-in-Ok
expand_defined-returns-in-Ok t c = rw c.in-Value.is (a_value c.in-Ok.ensures)

pub expand_defined-returns-in-Value : goal.expand_defined-returns-in-Value
expand_defined-returns-in-Value t c = rw c.in-Value.is (forms.value_refused (view_state c.args.state.now) c.args.context (view_datum c.in-Value.datum.now) c.in-Err.refusal c.in-Err.ensures)

pub expand_defined-returns-in-Some : goal.expand_defined-returns-in-Some
expand_defined-returns-in-Some t c =
    let e : bound_twice (parameters (view_formals c.in-Procedure.formals)) ≡ Some c.in-Some.second =
    ap bound_twice (sym c.in_ok-parameters-in-Procedure.ensures) ∙ ap (λ xs. bound_twice (map view_binder xs)) (sym c.as_slice.ensures.value) ∙ sym c.in_ok-second-in-Procedure.ensures ∙ c.in-Some.is in
    rw c.in-Procedure.is (forms.defined_twice_refused (view_state c.args.state.now) c.args.context c.in-Procedure.place c.in-Some.second (view_formals c.in-Procedure.formals) (data_of c.in-Procedure.body.now) e)

pub expand_defined-returns-in-Ok-expand_lambda : goal.expand_defined-returns-in-Ok-expand_lambda
expand_defined-returns-in-Ok-expand_lambda t c =
    let e : bound_twice (parameters (view_formals c.in-Procedure.formals)) ≡ None =
    ap bound_twice (sym c.in_ok-parameters-in-Procedure.ensures) ∙ ap (λ xs. bound_twice (map view_binder xs)) (sym c.as_slice.ensures.value) ∙ sym c.in_ok-second-in-Procedure.ensures ∙ c.in-None.is in
    rw c.in-Procedure.is (a_procedure e c.in-Ok-expand_lambda.ensures)

pub expand_defined-returns : goal.expand_defined-returns
expand_defined-returns t c =
    let e : bound_twice (parameters (view_formals c.in-Procedure.formals)) ≡ None =
    ap bound_twice (sym c.in_ok-parameters-in-Procedure.ensures) ∙ ap (λ xs. bound_twice (map view_binder xs)) (sym c.as_slice.ensures.value) ∙ sym c.in_ok-second-in-Procedure.ensures ∙ c.in-None.is in
    rw c.in-Procedure.is (forms.procedure_refused (view_state c.args.state.now) c.args.context c.in-Procedure.place (view_formals c.in-Procedure.formals) (data_of c.in-Procedure.body.now) c.in-Err-expand_lambda.refusal e c.in-Err-expand_lambda.ensures)

pub expand_form-returns-in-Ok : goal.expand_form-returns-in-Ok
expand_form-returns-in-Ok t c = rw c.in-Sequence.is (forms.sequence_gives _ _ _ _ _ _ c.in-Ok.ensures)

pub expand_form-returns-in-Sequence : goal.expand_form-returns-in-Sequence
expand_form-returns-in-Sequence t c = rw c.in-Sequence.is (forms.sequence_denied (view_state c.args.state.now) c.args.context c.args.place (data_of c.in-Sequence.datums.now) c.in-Err.refusal c.in-Err.ensures)

pub expand_form-returns-in-Ok-expand_lambda : goal.expand_form-returns-in-Ok-expand_lambda
expand_form-returns-in-Ok-expand_lambda t c = rw c.in-Procedure.is (forms.lambda_gives _ _ _ _ _ _ _ c.in-Ok-expand_lambda.ensures)

pub expand_form-returns-in-Procedure : goal.expand_form-returns-in-Procedure
expand_form-returns-in-Procedure t c = rw c.in-Procedure.is (forms.lambda_denied (view_state c.args.state.now) c.args.context c.args.place (view_formals c.in-Procedure.formals) (data_of c.in-Procedure.body.now) c.in-Err-expand_lambda.refusal c.in-Err-expand_lambda.ensures)

pub expand_assignment-returns-in-Ok-count_nodes : goal.expand_assignment-returns-in-Ok-count_nodes
expand_assignment-returns-in-Ok-count_nodes t c =
    let m = forms.one_means _ _ _ _ _ (rw c.inner.ensures at c.in-Ok-expand_datum.ensures) in
    let l = rw c.follows.ensures at c.in-Ok-count_nodes.ensures in
    let b = rw c.in_ok-parts-in-Ok-expand_datum.ensures.items at c.in_ok-build_core-in-Ok-count_nodes.ensures in
    forms.operands_give (view_state c.args.state.now) (view_state c.open_node.new.state) (view_state c.expand_datum.new.state) (view_state c.count_nodes.new.state) c.args.context c.args.place (view_build c.args.build) (datum.more (view_datum c.args.datum.now) datum.none) (cons (view c.in-Ok-expand_datum.value) nil) (view_core c.in_ok-build_core-in-Ok-count_nodes.field-0) _
    c.in-Ok.ensures m b l (view_node _)

pub expand_assignment-returns-in-Ok-expand_datum : goal.expand_assignment-returns-in-Ok-expand_datum
expand_assignment-returns-in-Ok-expand_datum t c =
    let m = forms.one_means _ _ _ _ _ (rw c.inner.ensures at c.in-Ok-expand_datum.ensures) in
    let l = rw c.follows.ensures at c.in-Err-count_nodes.ensures in
    forms.operands_not_counted (view_state c.args.state.now) (view_state c.open_node.new.state) (view_state c.expand_datum.new.state) c.args.context c.args.place (view_build c.args.build) (datum.more (view_datum c.args.datum.now) datum.none) (cons (view c.in-Ok-expand_datum.value) nil) c.in-Err-count_nodes.refusal c.requires c.in-Ok.ensures m l

pub expand_assignment-returns-in-Ok : goal.expand_assignment-returns-in-Ok
expand_assignment-returns-in-Ok t c =
    forms.operands_denied (view_state c.args.state.now) (view_state c.open_node.new.state) c.args.context c.args.place (view_build c.args.build) (datum.more (view_datum c.args.datum.now) datum.none) c.in-Err-expand_datum.refusal c.in-Ok.ensures
    (forms.one_refused (view_state c.open_node.new.state) (inner c.args.context) (view_datum c.args.datum.now) c.in-Err-expand_datum.refusal (rw c.inner.ensures at c.in-Err-expand_datum.ensures))

pub expand_assignment-returns : goal.expand_assignment-returns
expand_assignment-returns t c =
    forms.operands_not_opened (view_state c.args.state.now) c.args.context c.args.place (view_build c.args.build) (datum.more (view_datum c.args.datum.now) datum.none) c.in-Err.refusal c.in-Err.ensures

pub expand_body-expand_found-requires : goal.expand_body-expand_found-requires
expand_body-expand_found-requires t c =
    let q = forms.no_lists (record { variables = c.new.result; binders = c.new-2.result; values = c.new-3.result }) c.new.ensures.items c.new-2.ensures.items c.new-3.ensures.items in
    let g = rw (← c.in-Ok.scope-is, ← c.in-Ok.rest-is) at c.in-Ok.ensures in
    let w = forms.found_smaller (view_state c.args.state.now) (view_state c.scan_items.new.state) c.args.context (data_of c.args.items.now) _ (view_lists c.scan_items.new.found) c.in-Ok.scope (data_of c.in-Ok.rest.now) q g in
    omega (arith, w, c.decreases)

pub expand_body-returns-in-Ok : goal.expand_body-returns-in-Ok
expand_body-returns-in-Ok t c =
    let q = forms.no_lists (record { variables = c.new.result; binders = c.new-2.result; values = c.new-3.result }) c.new.ensures.items c.new-2.ensures.items c.new-3.ensures.items in
    let g = rw (← c.in-Ok.scope-is, ← c.in-Ok.rest-is) at c.in-Ok.ensures in
    forms.body_refused (view_state c.args.state.now) (view_state c.scan_items.new.state) c.args.context c.args.place (data_of c.args.items.now) _ (view_lists c.scan_items.new.found) c.in-Ok.scope (data_of c.in-Ok.rest.now) c.in-Err-expand_found.refusal q g c.in-Err-expand_found.ensures

pub expand_body-returns : goal.expand_body-returns
expand_body-returns t c =
    forms.scan_refused (view_state c.args.state.now) c.args.context c.args.place (data_of c.args.items.now) c.in-Err.refusal c.in-Err.ensures

pub expand_found-returns-in-Ok : goal.expand_found-returns-in-Ok
expand_found-returns-in-Ok t c =
    let n = forms.no_values c.args.found.now.values.items c.as_slice-defined.result.now c.as_slice-defined.ensures.value c.if-is_empty.ensures in
    forms.plain_gives (view_state c.args.state.now) (view_state c.expand_sequence.new.state) c.args.context c.args.place (view_found c.args.found.now c.args.scope (data_of c.args.rest.now)) (view c.in-Ok.node) n c.in-Ok.ensures

pub expand_found-returns-in-Err : goal.expand_found-returns-in-Err
expand_found-returns-in-Err t c =
    let n = forms.no_values c.args.found.now.values.items c.as_slice-defined.result.now c.as_slice-defined.ensures.value c.if-is_empty.ensures in
    forms.plain_denied (view_state c.args.state.now) c.args.context c.args.place (view_found c.args.found.now c.args.scope (data_of c.args.rest.now)) c.in-Err.refusal n c.in-Err.ensures

pub expand_found-returns-in-Ok-finish_split : goal.expand_found-returns-in-Ok-finish_split
expand_found-returns-in-Ok-finish_split t c =
    let n = forms.some_values c.args.found.now.values.items c.as_slice-defined.result.now c.as_slice-defined.ensures.value c.if-is_empty.ensures in
    let w = c.of_values-inside.ensures ∙ ap (valued true) c.within.ensures in
    let d = ap (map view_defined) c.as_slice-defined.ensures.value in
    let m = rw (w, d) at c.in-Ok-expand_each.ensures in
    let r = rw c.rest_context-behind.ensures at c.in-Ok-expand_all.ensures in
    let x = c.in_ok-variables-in-Ok-expand_all.ensures.items ∙ c.as_slice.ensures.value in
    forms.defining_gives (view_state c.args.state.now) (view_state c.open_definitions.new.state) (view_state c.expand_each.new.state) (view_state c.expand_all.new.state) (view_state c.finish_split.new.state) c.args.context c.args.place (view_found c.args.found.now c.args.scope (data_of c.args.rest.now)) (nodes (map view c.in-Ok-expand_each.values.items)) (nodes (map view c.in-Ok-expand_all.body.items)) (view c.in-Ok-finish_split.node) n c.in-Ok-open_definitions.ensures m r (rw x at c.in-Ok-finish_split.ensures)

pub expand_found-returns-in-Ok-expand_all : goal.expand_found-returns-in-Ok-expand_all
expand_found-returns-in-Ok-expand_all t c =
    let n = forms.some_values c.args.found.now.values.items c.as_slice-defined.result.now c.as_slice-defined.ensures.value c.if-is_empty.ensures in
    let w = c.of_values-inside.ensures ∙ ap (valued true) c.within.ensures in
    let d = ap (map view_defined) c.as_slice-defined.ensures.value in
    let m = rw (w, d) at c.in-Ok-expand_each.ensures in
    let r = rw c.rest_context-behind.ensures at c.in-Ok-expand_all.ensures in
    let x = c.in_ok-variables-in-Ok-expand_all.ensures.items ∙ c.as_slice.ensures.value in
    forms.body_split_denied (view_state c.args.state.now) (view_state c.open_definitions.new.state) (view_state c.expand_each.new.state) (view_state c.expand_all.new.state) c.args.context c.args.place (view_found c.args.found.now c.args.scope (data_of c.args.rest.now)) (nodes (map view c.in-Ok-expand_each.values.items)) (nodes (map view c.in-Ok-expand_all.body.items)) c.in-Err-finish_split.refusal n c.in-Ok-open_definitions.ensures m r (rw x at c.in-Err-finish_split.ensures)

pub expand_found-returns-in-Ok-expand_each : goal.expand_found-returns-in-Ok-expand_each
expand_found-returns-in-Ok-expand_each t c =
    let n = forms.some_values c.args.found.now.values.items c.as_slice-defined.result.now c.as_slice-defined.ensures.value c.if-is_empty.ensures in
    let w = c.of_values-inside.ensures ∙ ap (valued true) c.within.ensures in
    let d = ap (map view_defined) c.as_slice-defined.ensures.value in
    let m = rw (w, d) at c.in-Ok-expand_each.ensures in
    forms.body_rest_denied (view_state c.args.state.now) (view_state c.open_definitions.new.state) (view_state c.expand_each.new.state) c.args.context c.args.place (view_found c.args.found.now c.args.scope (data_of c.args.rest.now)) (nodes (map view c.in-Ok-expand_each.values.items)) c.in-Err-expand_all.refusal n c.in-Ok-open_definitions.ensures m (rw c.rest_context-behind.ensures at c.in-Err-expand_all.ensures)

pub expand_found-returns-in-Ok-open_definitions : goal.expand_found-returns-in-Ok-open_definitions
expand_found-returns-in-Ok-open_definitions t c =
    let n = forms.some_values c.args.found.now.values.items c.as_slice-defined.result.now c.as_slice-defined.ensures.value c.if-is_empty.ensures in
    let w = c.of_values-inside.ensures ∙ ap (valued true) c.within.ensures in
    let d = ap (map view_defined) c.as_slice-defined.ensures.value in
    forms.body_values_denied (view_state c.args.state.now) (view_state c.open_definitions.new.state) c.args.context c.args.place (view_found c.args.found.now c.args.scope (data_of c.args.rest.now)) c.in-Err-expand_each.refusal n c.in-Ok-open_definitions.ensures (rw (w, d) at c.in-Err-expand_each.ensures)

pub expand_found-returns : goal.expand_found-returns
expand_found-returns t c =
    let n = forms.some_values c.args.found.now.values.items c.as_slice-defined.result.now c.as_slice-defined.ensures.value c.if-is_empty.ensures in
    forms.definitions_denied (view_state c.args.state.now) c.args.context c.args.place (view_found c.args.found.now c.args.scope (data_of c.args.rest.now)) c.in-Err-open_definitions.refusal n c.in-Err-open_definitions.ensures

pub expand_lambda-returns-in-Ok-expand_body : goal.expand_lambda-returns-in-Ok-expand_body
expand_lambda-returns-in-Ok-expand_body t c =
    let bs = ap (map view_binder) c.as_slice-binders.ensures.value ∙ c.in_ok-parameters.ensures in
    let k : length c.as_slice-binders.result.now ≡ length (parameters (view_formals c.args.formals.now)) = sym (length-map c.as_slice-binders.result.now view_binder) ∙ ap length bs in
    let a = rw c.lambda_nodes.ensures at c.in-Ok.ensures in
    let j = c.in_ok-scope-in-Ok.ensures.1 ∙ ap (λ bs. enter (view_state c.open_node.new.state) c.args.context.scope (names bs)) bs in
    let w = c.within.ensures ∙ ap (within c.in_ok-scope-in-Ok.scope) c.inner.ensures in
    forms.closure_means (view_state c.args.state.now) (view_state c.open_node.new.state) (view_state c.enter.new.state) (view_state c.expand_body.new.state) c.args.context c.args.place (view_formals c.args.formals.now) c.in_ok-scope-in-Ok.scope _ (data_of c.args.body.now) (view c.in-Ok-expand_body.node) _ k a c.in_ok-scope-in-Ok.ensures.0 j
    (rw w at c.in-Ok-expand_body.ensures) c.in_ok-make_lambda-in-Ok-expand_body.ensures

pub expand_lambda-returns-in-Ok : goal.expand_lambda-returns-in-Ok
expand_lambda-returns-in-Ok t c =
    let bs = ap (map view_binder) c.as_slice-binders.ensures.value ∙ c.in_ok-parameters.ensures in
    let k : length c.as_slice-binders.result.now ≡ length (parameters (view_formals c.args.formals.now)) = sym (length-map c.as_slice-binders.result.now view_binder) ∙ ap length bs in
    let a = rw c.lambda_nodes.ensures at c.in-Ok.ensures in
    let j = c.in_ok-scope-in-Ok.ensures.1 ∙ ap (λ bs. enter (view_state c.open_node.new.state) c.args.context.scope (names bs)) bs in
    let w = c.within.ensures ∙ ap (within c.in_ok-scope-in-Ok.scope) c.inner.ensures in
    forms.closure_refused (view_state c.args.state.now) (view_state c.open_node.new.state) (view_state c.enter.new.state) c.args.context c.args.place (view_formals c.args.formals.now) c.in_ok-scope-in-Ok.scope _ (data_of c.args.body.now) c.in-Err-expand_body.refusal k a c.in_ok-scope-in-Ok.ensures.0 j (rw w at c.in-Err-expand_body.ensures)

pub expand_lambda-returns : goal.expand_lambda-returns
expand_lambda-returns t c =
    let bs = ap (map view_binder) c.as_slice-binders.ensures.value ∙ c.in_ok-parameters.ensures in
    let k : length c.as_slice-binders.result.now ≡ length (parameters (view_formals c.args.formals.now)) = sym (length-map c.as_slice-binders.result.now view_binder) ∙ ap length bs in
    forms.closure_not_opened (view_state c.args.state.now) c.args.context c.args.place (view_formals c.args.formals.now) _ (data_of c.args.body.now) c.in-Err.refusal k (rw c.lambda_nodes.ensures at c.in-Err.ensures)

pub expand_let-expand_each-requires : goal.expand_let-expand_each-requires
expand_let-expand_each-requires t c =
    let v = ap (map view_defined) c.as_slice.ensures.value ∙ c.in_ok-values-in-Ok.ensures in
    let w : weight_all (map view_defined c.as_slice.result.now) ≡ size_all (view_pairs c.args.pairs.now).values = ap weight_all v ∙ values_weigh (view_pairs c.args.pairs.now).values in
    omega (arith, w, c.decreases)

pub expand_let-returns-in-Ok-expand_body : goal.expand_let-returns-in-Ok-expand_body
expand_let-returns-in-Ok-expand_body t c =
    let k : length c.args.pairs.now ≡ length (view_pairs c.args.pairs.now).binders = sym (length-map c.args.pairs.now pair_binder) in
    let v = ap (map view_defined) c.as_slice.ensures.value ∙ c.in_ok-values-in-Ok.ensures in
    let m = forms.values_mean (view_state c.open_node.new.state) (view_state c.expand_each.new.state) (inner c.args.context) _ (view_pairs c.args.pairs.now).values (nodes (map view c.in-Ok-expand_each.values.items)) v (rw c.inner.ensures at c.in-Ok-expand_each.ensures) in
    let bs = ap (map view_binder) c.as_slice-binders.ensures.value ∙ c.in_ok-bound-in-Ok-expand_each.ensures in
    let j = c.in_ok-scope-in-Ok-expand_each.ensures.1 ∙ ap (λ bs. enter (view_state c.expand_each.new.state) c.args.context.scope (names bs)) bs in
    let w = c.within.ensures ∙ ap (within c.in_ok-scope-in-Ok-expand_each.scope) c.inner-in-Ok-expand_each.ensures in
    let x = c.in_ok-variables-in-Ok-expand_body.ensures ∙ ap (λ bs. variables c.in_ok-scope-in-Ok-expand_each.scope (names bs)) bs in
    forms.let_gives (view_state c.args.state.now) (view_state c.open_node.new.state) (view_state c.expand_each.new.state) (view_state c.enter.new.state) (view_state c.expand_body.new.state) c.args.context c.args.place (view_pairs c.args.pairs.now) (data_of c.args.body.now) _ c.in_ok-scope-in-Ok-expand_each.scope (map view_variable c.in_ok-variables-in-Ok-expand_body.variables.items) _ (view c.in-Ok-expand_body.node) _ k c.in-Ok.ensures m
    c.in_ok-scope-in-Ok-expand_each.ensures.0 j (rw w at c.in-Ok-expand_body.ensures) x c.in_ok-make_let-in-Ok-expand_body.ensures

pub expand_let-returns-in-Ok-expand_each : goal.expand_let-returns-in-Ok-expand_each
expand_let-returns-in-Ok-expand_each t c =
    let k : length c.args.pairs.now ≡ length (view_pairs c.args.pairs.now).binders = sym (length-map c.args.pairs.now pair_binder) in
    let v = ap (map view_defined) c.as_slice.ensures.value ∙ c.in_ok-values-in-Ok.ensures in
    let m = forms.values_mean (view_state c.open_node.new.state) (view_state c.expand_each.new.state) (inner c.args.context) _ (view_pairs c.args.pairs.now).values (nodes (map view c.in-Ok-expand_each.values.items)) v (rw c.inner.ensures at c.in-Ok-expand_each.ensures) in
    let bs = ap (map view_binder) c.as_slice-binders.ensures.value ∙ c.in_ok-bound-in-Ok-expand_each.ensures in
    let j = c.in_ok-scope-in-Ok-expand_each.ensures.1 ∙ ap (λ bs. enter (view_state c.expand_each.new.state) c.args.context.scope (names bs)) bs in
    let w = c.within.ensures ∙ ap (within c.in_ok-scope-in-Ok-expand_each.scope) c.inner-in-Ok-expand_each.ensures in
    forms.let_body_denied (view_state c.args.state.now) (view_state c.open_node.new.state) (view_state c.expand_each.new.state) (view_state c.enter.new.state) c.args.context c.args.place (view_pairs c.args.pairs.now) (data_of c.args.body.now) _ c.in_ok-scope-in-Ok-expand_each.scope _ c.in-Err-expand_body.refusal k c.in-Ok.ensures m c.in_ok-scope-in-Ok-expand_each.ensures.0 j (rw w at c.in-Err-expand_body.ensures)

pub expand_let-returns-in-Ok : goal.expand_let-returns-in-Ok
expand_let-returns-in-Ok t c =
    let k : length c.args.pairs.now ≡ length (view_pairs c.args.pairs.now).binders = sym (length-map c.args.pairs.now pair_binder) in
    let v = ap (map view_defined) c.as_slice.ensures.value ∙ c.in_ok-values-in-Ok.ensures in
    forms.let_values_denied (view_state c.args.state.now) (view_state c.open_node.new.state) c.args.context c.args.place (view_pairs c.args.pairs.now) (data_of c.args.body.now) _ c.in-Err-expand_each.refusal k c.in-Ok.ensures
    (forms.values_refused (view_state c.open_node.new.state) (inner c.args.context) _ (view_pairs c.args.pairs.now).values c.in-Err-expand_each.refusal v (rw c.inner.ensures at c.in-Err-expand_each.ensures))

pub expand_let-returns : goal.expand_let-returns
expand_let-returns t c =
    let k : length c.args.pairs.now ≡ length (view_pairs c.args.pairs.now).binders = sym (length-map c.args.pairs.now pair_binder) in
    forms.let_not_opened (view_state c.args.state.now) c.args.context c.args.place (view_pairs c.args.pairs.now) (data_of c.args.body.now) _ c.in-Err.refusal k c.in-Err.ensures

pub expand_letrec-expand_each-requires : goal.expand_letrec-expand_each-requires
expand_letrec-expand_each-requires t c =
    let v = ap (map view_defined) c.as_slice.ensures.value ∙ c.in_ok-values-in-Ok.ensures in
    let w : weight_all (map view_defined c.as_slice.result.now) ≡ size_all (view_pairs c.args.pairs.now).values = ap weight_all v ∙ values_weigh (view_pairs c.args.pairs.now).values in
    omega (arith, w, c.decreases)

pub expand_letrec-returns-in-Ok-finish_split : goal.expand_letrec-returns-in-Ok-finish_split
expand_letrec-returns-in-Ok-finish_split t c =
    let k : length c.args.pairs.now ≡ length (view_pairs c.args.pairs.now).binders = sym (length-map c.args.pairs.now pair_binder) in
    let v = ap (map view_defined) c.as_slice.ensures.value ∙ c.in_ok-values-in-Ok.ensures in
    let bs = ap (map view_binder) c.as_slice-binders.ensures.value ∙ c.in_ok-bound-in-Ok.ensures in
    let j = c.in_ok-scope-in-Ok.ensures.1 ∙ ap (λ bs. enter (view_state c.bind_together.new.state) c.args.context.scope (names bs)) bs in
    let w = c.of_values.ensures ∙ ap (valued true) c.within.ensures in
    let o : forms.Opened (view_state c.args.state.now) c.args.context c.args.place (view_pairs c.args.pairs.now) (length c.args.pairs.now) c.in_ok-scope-in-Ok.scope (view_state c.bind_together.new.state) (view_state c.enter.new.state) = record { count = k; limited = c.in-Ok.ensures; scope_is = c.in_ok-scope-in-Ok.ensures.0; entered = j } in
    let m = forms.values_mean (view_state c.enter.new.state) (view_state c.expand_each.new.state) (valued true (within c.in_ok-scope-in-Ok.scope c.args.context)) _ (view_pairs c.args.pairs.now).values (nodes (map view c.in-Ok-expand_each.values.items)) v (rw w at c.in-Ok-expand_each.ensures) in
    let z = rw c.letrec_body-inside.ensures at c.in-Ok-expand_body.ensures in
    let x = c.in_ok-variables-in-Ok-expand_body.ensures ∙ ap (λ bs. variables c.in_ok-scope-in-Ok.scope (names bs)) bs in
    forms.letrec_gives (view_state c.args.state.now) (view_state c.bind_together.new.state) (view_state c.enter.new.state) (view_state c.expand_each.new.state) (view_state c.expand_body.new.state) (view_state c.finish_split.new.state) c.args.context c.args.place (view_pairs c.args.pairs.now) (data_of c.args.body.now) (length c.args.pairs.now) c.in_ok-scope-in-Ok.scope (map view_variable c.in_ok-variables-in-Ok-expand_body.variables.items) (nodes (map view c.in-Ok-expand_each.values.items)) (view c.in-Ok-expand_body.node) (view c.in-Ok-finish_split.node) o m z x
    (rw c.in_ok-body-in-Ok-expand_body.ensures.items at c.in-Ok-finish_split.ensures)

pub expand_letrec-returns-in-Ok-expand_body : goal.expand_letrec-returns-in-Ok-expand_body
expand_letrec-returns-in-Ok-expand_body t c =
    let k : length c.args.pairs.now ≡ length (view_pairs c.args.pairs.now).binders = sym (length-map c.args.pairs.now pair_binder) in
    let v = ap (map view_defined) c.as_slice.ensures.value ∙ c.in_ok-values-in-Ok.ensures in
    let bs = ap (map view_binder) c.as_slice-binders.ensures.value ∙ c.in_ok-bound-in-Ok.ensures in
    let j = c.in_ok-scope-in-Ok.ensures.1 ∙ ap (λ bs. enter (view_state c.bind_together.new.state) c.args.context.scope (names bs)) bs in
    let w = c.of_values.ensures ∙ ap (valued true) c.within.ensures in
    let o : forms.Opened (view_state c.args.state.now) c.args.context c.args.place (view_pairs c.args.pairs.now) (length c.args.pairs.now) c.in_ok-scope-in-Ok.scope (view_state c.bind_together.new.state) (view_state c.enter.new.state) = record { count = k; limited = c.in-Ok.ensures; scope_is = c.in_ok-scope-in-Ok.ensures.0; entered = j } in
    let m = forms.values_mean (view_state c.enter.new.state) (view_state c.expand_each.new.state) (valued true (within c.in_ok-scope-in-Ok.scope c.args.context)) _ (view_pairs c.args.pairs.now).values (nodes (map view c.in-Ok-expand_each.values.items)) v (rw w at c.in-Ok-expand_each.ensures) in
    let z = rw c.letrec_body-inside.ensures at c.in-Ok-expand_body.ensures in
    let x = c.in_ok-variables-in-Ok-expand_body.ensures ∙ ap (λ bs. variables c.in_ok-scope-in-Ok.scope (names bs)) bs in
    forms.letrec_split_denied (view_state c.args.state.now) (view_state c.bind_together.new.state) (view_state c.enter.new.state) (view_state c.expand_each.new.state) (view_state c.expand_body.new.state) c.args.context c.args.place (view_pairs c.args.pairs.now) (data_of c.args.body.now) (length c.args.pairs.now) c.in_ok-scope-in-Ok.scope (map view_variable c.in_ok-variables-in-Ok-expand_body.variables.items) (nodes (map view c.in-Ok-expand_each.values.items)) (view c.in-Ok-expand_body.node) c.in-Err-finish_split.refusal o m z x
    (rw c.in_ok-body-in-Ok-expand_body.ensures.items at c.in-Err-finish_split.ensures)

pub expand_letrec-returns-in-Ok-expand_each : goal.expand_letrec-returns-in-Ok-expand_each
expand_letrec-returns-in-Ok-expand_each t c =
    let k : length c.args.pairs.now ≡ length (view_pairs c.args.pairs.now).binders = sym (length-map c.args.pairs.now pair_binder) in
    let v = ap (map view_defined) c.as_slice.ensures.value ∙ c.in_ok-values-in-Ok.ensures in
    let bs = ap (map view_binder) c.as_slice-binders.ensures.value ∙ c.in_ok-bound-in-Ok.ensures in
    let j = c.in_ok-scope-in-Ok.ensures.1 ∙ ap (λ bs. enter (view_state c.bind_together.new.state) c.args.context.scope (names bs)) bs in
    let w = c.of_values.ensures ∙ ap (valued true) c.within.ensures in
    let o : forms.Opened (view_state c.args.state.now) c.args.context c.args.place (view_pairs c.args.pairs.now) (length c.args.pairs.now) c.in_ok-scope-in-Ok.scope (view_state c.bind_together.new.state) (view_state c.enter.new.state) = record { count = k; limited = c.in-Ok.ensures; scope_is = c.in_ok-scope-in-Ok.ensures.0; entered = j } in
    let m = forms.values_mean (view_state c.enter.new.state) (view_state c.expand_each.new.state) (valued true (within c.in_ok-scope-in-Ok.scope c.args.context)) _ (view_pairs c.args.pairs.now).values (nodes (map view c.in-Ok-expand_each.values.items)) v (rw w at c.in-Ok-expand_each.ensures) in
    forms.letrec_body_denied (view_state c.args.state.now) (view_state c.bind_together.new.state) (view_state c.enter.new.state) (view_state c.expand_each.new.state) c.args.context c.args.place (view_pairs c.args.pairs.now) (data_of c.args.body.now) (length c.args.pairs.now) c.in_ok-scope-in-Ok.scope (nodes (map view c.in-Ok-expand_each.values.items)) c.in-Err-expand_body.refusal o m (rw c.letrec_body-inside.ensures at c.in-Err-expand_body.ensures)

pub expand_letrec-returns-in-Ok : goal.expand_letrec-returns-in-Ok
expand_letrec-returns-in-Ok t c =
    let k : length c.args.pairs.now ≡ length (view_pairs c.args.pairs.now).binders = sym (length-map c.args.pairs.now pair_binder) in
    let v = ap (map view_defined) c.as_slice.ensures.value ∙ c.in_ok-values-in-Ok.ensures in
    let bs = ap (map view_binder) c.as_slice-binders.ensures.value ∙ c.in_ok-bound-in-Ok.ensures in
    let j = c.in_ok-scope-in-Ok.ensures.1 ∙ ap (λ bs. enter (view_state c.bind_together.new.state) c.args.context.scope (names bs)) bs in
    let w = c.of_values.ensures ∙ ap (valued true) c.within.ensures in
    let o : forms.Opened (view_state c.args.state.now) c.args.context c.args.place (view_pairs c.args.pairs.now) (length c.args.pairs.now) c.in_ok-scope-in-Ok.scope (view_state c.bind_together.new.state) (view_state c.enter.new.state) = record { count = k; limited = c.in-Ok.ensures; scope_is = c.in_ok-scope-in-Ok.ensures.0; entered = j } in
    forms.letrec_values_denied (view_state c.args.state.now) (view_state c.bind_together.new.state) (view_state c.enter.new.state) c.args.context c.args.place (view_pairs c.args.pairs.now) (data_of c.args.body.now) (length c.args.pairs.now) c.in_ok-scope-in-Ok.scope c.in-Err-expand_each.refusal o
    (forms.values_refused (view_state c.enter.new.state) (valued true (within c.in_ok-scope-in-Ok.scope c.args.context)) _ (view_pairs c.args.pairs.now).values c.in-Err-expand_each.refusal v (rw w at c.in-Err-expand_each.ensures))

pub expand_letrec-returns : goal.expand_letrec-returns
expand_letrec-returns t c =
    let k : length c.args.pairs.now ≡ length (view_pairs c.args.pairs.now).binders = sym (length-map c.args.pairs.now pair_binder) in
    forms.letrec_not_opened (view_state c.args.state.now) c.args.context c.args.place (view_pairs c.args.pairs.now) (data_of c.args.body.now) _ c.in-Err.refusal k c.in-Err.ensures

pub expand_operands-build_core-requires : goal.expand_operands-build_core-requires
expand_operands-build_core-requires t c =
    let m = rw c.inner.ensures at c.in-Ok-expand_all.ensures in
    forms.suits_code (view_build c.args.build) (data_of c.args.datums.now) c.in-Ok-expand_all.parts.items (view_state c.open_node.new.state) (inner c.args.context) (view_state c.expand_all.new.state) c.requires m

pub expand_operands-returns-in-Ok-count_nodes : goal.expand_operands-returns-in-Ok-count_nodes
expand_operands-returns-in-Ok-count_nodes t c =
    let m = rw c.inner.ensures at c.in-Ok-expand_all.ensures in
    let l = rw c.follows.ensures at c.in-Ok-count_nodes.ensures in
    forms.operands_give (view_state c.args.state.now) (view_state c.open_node.new.state) (view_state c.expand_all.new.state) (view_state c.count_nodes.new.state) c.args.context c.args.place (view_build c.args.build) (data_of c.args.datums.now) (nodes (map view c.in-Ok-expand_all.parts.items)) (view_core c.in_ok-build_core-in-Ok-count_nodes.field-0) _
    c.in-Ok.ensures m c.in_ok-build_core-in-Ok-count_nodes.ensures l (view_node _)

pub expand_operands-returns-in-Ok-expand_all : goal.expand_operands-returns-in-Ok-expand_all
expand_operands-returns-in-Ok-expand_all t c =
    let m = rw c.inner.ensures at c.in-Ok-expand_all.ensures in
    let l = rw c.follows.ensures at c.in-Err-count_nodes.ensures in
    forms.operands_not_counted (view_state c.args.state.now) (view_state c.open_node.new.state) (view_state c.expand_all.new.state) c.args.context c.args.place (view_build c.args.build) (data_of c.args.datums.now) (nodes (map view c.in-Ok-expand_all.parts.items)) c.in-Err-count_nodes.refusal c.requires c.in-Ok.ensures m l

pub expand_operands-returns-in-Ok : goal.expand_operands-returns-in-Ok
expand_operands-returns-in-Ok t c =
    forms.operands_denied (view_state c.args.state.now) (view_state c.open_node.new.state) c.args.context c.args.place (view_build c.args.build) (data_of c.args.datums.now) c.in-Err-expand_all.refusal c.in-Ok.ensures (rw c.inner.ensures at c.in-Err-expand_all.ensures)

pub expand_operands-returns : goal.expand_operands-returns
expand_operands-returns t c =
    forms.operands_not_opened (view_state c.args.state.now) c.args.context c.args.place (view_build c.args.build) (data_of c.args.datums.now) c.in-Err.refusal c.in-Err.ensures

pub expand_sequence-returns-then-is_empty : goal.expand_sequence-returns-then-is_empty
expand_sequence-returns-then-is_empty t c =
    forms.empty_sequence (view_state c.args.state.now) c.args.context c.args.place (data_of c.args.datums.now) (no_data c.args.datums.now c.if-is_empty.ensures)

pub expand_sequence-returns-in-Ok : goal.expand_sequence-returns-in-Ok
expand_sequence-returns-in-Ok t c =
    forms.sequence_of_one (view_state c.args.state.now) (view_state c.expand_datum.new.state) c.args.context c.args.place c.index-datums-0.result c.args.datums.now (view c.in-Ok.node) c.if-datums-eq1.true c.index-datums-0.is c.in-Ok.ensures

pub expand_sequence-returns-in-Err : goal.expand_sequence-returns-in-Err
expand_sequence-returns-in-Err t c =
    forms.sequence_of_one_refused (view_state c.args.state.now) c.args.context c.args.place c.index-datums-0.result c.args.datums.now c.in-Err.refusal c.if-datums-eq1.true c.index-datums-0.is c.in-Err.ensures

pub expand_sequence-returns-in-Ok-expand_all : goal.expand_sequence-returns-in-Ok-expand_all
expand_sequence-returns-in-Ok-expand_all t c =
    let n = two_data c.args.datums.now c.if-is_empty.ensures c.if-datums-eq1.false in
    forms.sequence_of_several (view_state c.args.state.now) (view_state c.open_node.new.state) (view_state c.expand_all.new.state) c.args.context c.args.place c.args.datums.now (nodes (map view c.in-Ok-expand_all.parts.items)) (view c.make_sequence.result) n c.in-Ok-open_node.ensures (rw c.inner.ensures at c.in-Ok-expand_all.ensures) c.make_sequence.ensures

pub expand_sequence-returns-in-Err-expand_all : goal.expand_sequence-returns-in-Err-expand_all
expand_sequence-returns-in-Err-expand_all t c =
    let n = two_data c.args.datums.now c.if-is_empty.ensures c.if-datums-eq1.false in
    forms.sequence_refused (view_state c.args.state.now) (view_state c.open_node.new.state) c.args.context c.args.place c.args.datums.now c.in-Err-expand_all.refusal n c.in-Ok-open_node.ensures (rw c.inner.ensures at c.in-Err-expand_all.ensures)

pub expand_sequence-returns-in-Err-open_node : goal.expand_sequence-returns-in-Err-open_node
expand_sequence-returns-in-Err-open_node t c =
    let n = two_data c.args.datums.now c.if-is_empty.ensures c.if-datums-eq1.false in
    forms.sequence_not_opened (view_state c.args.state.now) c.args.context c.args.place c.args.datums.now c.in-Err-open_node.refusal n c.in-Err-open_node.ensures

pub expand_body-returns-in-Ok-expand_found : goal.expand_body-returns-in-Ok-expand_found
expand_body-returns-in-Ok-expand_found t c =
    let q = forms.no_lists (record { variables = c.new.result; binders = c.new-2.result; values = c.new-3.result }) c.new.ensures.items c.new-2.ensures.items c.new-3.ensures.items in
    let g = rw (← c.in-Ok.scope-is, ← c.in-Ok.rest-is) at c.in-Ok.ensures in
    forms.body_means (view_state c.args.state.now) (view_state c.scan_items.new.state) (view_state c.expand_found.new.state) c.args.context c.args.place (data_of c.args.items.now) _ (view_lists c.scan_items.new.found) c.in-Ok.scope (data_of c.in-Ok.rest.now) (view c.in-Ok-expand_found.node) q g c.in-Ok-expand_found.ensures
