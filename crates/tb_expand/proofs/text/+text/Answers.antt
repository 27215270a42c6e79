use Rattle.std.proofs.Common.{sym, ap, map, drop, arith}
use Rattle.tb_sexp.specs.View.{view as view_datum}
use Rattle.tb_expand.specs.View.{data_of, nodes, view, view_state}
use Rattle.tb_expand.proofs.Scanning.{element_size}
use Rattle.tb_expand.proofs.Rows.{drop_none}
use Rattle.tb_expand.proofs.TopForms as top
use Rattle.tb_expand.proofs.text.+text.Goals as goal

pub expand_form-expand_forms-requires : goal.expand_form-expand_forms-requires
expand_form-expand_forms-requires t c =
    let h = top.begin_smaller (view_state c.args.state.now) c.args.context (view_datum c.args.datum.now) c.in-Beginning.field-0 (data_of c.in-Beginning.rest.now) (sym c.in-Beginning.ensures) in
    omega (arith, h, c.decreases)

pub expand_form-returns-in_ok-push-in-Ok : goal.expand_form-returns-in_ok-push-in-Ok
expand_form-returns-in_ok-push-in-Ok t c =
    top.expression_gives (view_state c.args.state.now) (view_state c.expand_datum.new.state) c.args.context (view_datum c.args.datum.now) c.args.out.now.items c.push.new.self.items c.in-Ok.node (sym c.in-Expression.ensures) c.in-Ok.ensures c.in_ok-push-in-Ok.ensures.items

pub expand_form-returns-in-Err : goal.expand_form-returns-in-Err
expand_form-returns-in-Err t c =
    top.expression_refused (view_state c.args.state.now) c.args.context (view_datum c.args.datum.now) c.in-Err.refusal (sym c.in-Expression.ensures) c.in-Err.ensures

pub expand_form-returns-in-Ok-expand_definition : goal.expand_form-returns-in-Ok-expand_definition
expand_form-returns-in-Ok-expand_definition t c =
    c.in-Ok-expand_definition.ensures.gives (view_datum c.args.datum.now) (sym c.in-Defining.ensures)

pub expand_form-returns-in-Err-expand_definition : goal.expand_form-returns-in-Err-expand_definition
expand_form-returns-in-Err-expand_definition t c =
    top.definition_refused (view_state c.args.state.now) c.args.context (view_datum c.args.datum.now) c.in-Defining.place (data_of c.in-Defining.rest.now) c.in-Err-expand_definition.refusal (sym c.in-Defining.ensures) c.in-Err-expand_definition.ensures

pub expand_form-returns-in-Ok-expand_forms : goal.expand_form-returns-in-Ok-expand_forms
expand_form-returns-in-Ok-expand_forms t c =
    top.begin_gives (view_state c.args.state.now) (view_state c.expand_forms.new.state) c.args.context (view_datum c.args.datum.now) c.in-Beginning.field-0 (data_of c.in-Beginning.rest.now) (nodes (map view c.args.out.now.items)) (nodes (map view c.expand_forms.new.out.items)) (sym c.in-Beginning.ensures) c.in-Ok-expand_forms.ensures

pub expand_form-returns-in-Err-expand_forms : goal.expand_form-returns-in-Err-expand_forms
expand_form-returns-in-Err-expand_forms t c =
    top.begin_refused (view_state c.args.state.now) c.args.context (view_datum c.args.datum.now) c.in-Beginning.field-0 (data_of c.in-Beginning.rest.now) c.in-Err-expand_forms.refusal (sym c.in-Beginning.ensures) c.in-Err-expand_forms.ensures

pub expand_forms-expand_form-requires : goal.expand_forms-expand_form-requires
expand_forms-expand_form-requires t c =
    let h = element_size c.args.datums.now c.loop-i.i c.index-datums-i.result (omega arith) c.index-datums-i.is in
    omega (arith, h, c.decreases)

pub expand_forms-returns-in-Err : goal.expand_forms-returns-in-Err
expand_forms-returns-in-Err t c =
    top.forms_refused (view_state c.args.state.now) (view_state c.loop-i.state) c.args.context (data_of c.args.datums.now) c.args.datums.now c.loop-i.i c.index-datums-i.result (nodes (map view c.args.out.now.items)) (nodes (map view c.loop-i.out.items)) c.in-Err.refusal
    (omega arith) c.index-datums-i.is c.loop-i.invariant c.in-Err.ensures

pub expand_forms-loop-i-preserved : goal.expand_forms-loop-i-preserved
expand_forms-loop-i-preserved t c =
    top.forms_going (view_state c.args.state.now) (view_state c.loop-i.state) (view_state c.expand_form.new.state) c.args.context (data_of c.args.datums.now) c.args.datums.now c.loop-i.i c.index-datums-i.result (nodes (map view c.args.out.now.items)) (nodes (map view c.loop-i.out.items)) (nodes (map view c.expand_form.new.out.items))
    (omega arith) c.index-datums-i.is c.loop-i.invariant c.in-Ok.ensures

pub expand_forms-returns : goal.expand_forms-returns
expand_forms-returns t c =
    top.forms_end (view_state c.args.state.now) (view_state c.loop-i.state) c.args.context (data_of c.args.datums.now) (data_of (drop c.loop-i.i c.args.datums.now)) (nodes (map view c.args.out.now.items)) (nodes (map view c.loop-i.out.items)) c.loop-i.invariant
    (ap data_of (drop_none c.args.datums.now c.loop-i.i (omega arith)))

pub expand_forms-loop-i-init : goal.expand_forms-loop-i-init
expand_forms-loop-i-init t c = top.forms_start (view_state c.args.state.now) c.args.context (data_of c.args.datums.now) (nodes (map view c.args.out.now.items))
