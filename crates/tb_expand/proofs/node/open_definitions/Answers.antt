use Rattle.std.proofs.Common.{◌≡◌, refl, sym, ap, ◌∙◌, map, length, Some, None}
use Rattle.std.proofs.lemmas.List.{length-map}
use Rattle.tb_expand.specs.Names.{bound_twice}
use Rattle.tb_expand.specs.Means.{bound_together}
use Rattle.tb_expand.specs.View.{data_of, view_binder, view_state}
use Rattle.tb_expand.specs.calls.Expanded.{is_twice, not_behind}
use Rattle.tb_expand.proofs.Expanding.{some_data, no_data, definitions_not_limited}
use Rattle.tb_expand.proofs.node.open_definitions.Goals as goal

pub returns-in-Some : goal.returns-in-Some
returns-in-Some c =
    let a = c.in_ok-second.ensures in
    let e : bound_twice (map view_binder c.args.found.now.binders.items) ≡ Some c.in-Some.second = cc (a, c.as_slice-binders.ensures.value) in
    is_twice c.in-Some.second e refl

pub returns-then-is_empty : goal.returns-then-is_empty
returns-then-is_empty c =
    let a = c.in_ok-second.ensures in
    let e : bound_twice (map view_binder c.args.found.now.binders.items) ≡ None = cc (a, c.as_slice-binders.ensures.value) in
    not_behind e (no_data c.args.rest.now c.if-is_empty.ensures) refl

pub returns-in-Ok : goal.returns-in-Ok
returns-in-Ok c =
    let a = c.in_ok-second.ensures in
    let e : bound_twice (map view_binder c.args.found.now.binders.items) ≡ None = cc (a, c.as_slice-binders.ensures.value) in
    let n = length-map c.args.found.now.binders.items view_binder ∙ ap length (sym c.as_slice-binders.ensures.value) in
    record { once = e; behind = some_data c.args.rest.now c.if-is_empty.ensures; limited = ap (λ n. bound_together c.args.place n (view_state c.args.state.now) c.args.context) n ∙ c.in-Ok.ensures }

pub returns-in-Err : goal.returns-in-Err
returns-in-Err c =
    let a = c.in_ok-second.ensures in
    let e : bound_twice (map view_binder c.args.found.now.binders.items) ≡ None = cc (a, c.as_slice-binders.ensures.value) in
    let n = length-map c.args.found.now.binders.items view_binder ∙ ap length (sym c.as_slice-binders.ensures.value) in
    definitions_not_limited (view_state c.args.state.now) c.args.context c.args.place (map view_binder c.args.found.now.binders.items) (data_of c.args.rest.now) c.in-Err.refusal e (some_data c.args.rest.now c.if-is_empty.ensures)
    (rw n c.in-Err.ensures)
