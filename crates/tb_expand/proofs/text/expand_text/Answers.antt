use Rattle.std.proofs.Common.{sym, ap, ◌∙◌, map}
use Rattle.tb_expand.specs.Outside.{defined_by_all, first_outside_of}
use Rattle.tb_expand.specs.View.{data_of, nodes, text_of, view}
use Rattle.tb_expand.proofs.TopForms as top
use Rattle.tb_expand.proofs.text.expand_text.Goals as goal

pub returns-in-Some : goal.returns-in-Some
returns-in-Some c =
    let e = top.empty_state c.new.result.items c.new-2.result.items c.new.ensures.items c.new-2.ensures.items in
    let b = ap (λ xs. nodes (map view xs)) c.new-parts.ensures.items in
    let after = nodes (map view c.expand_forms.new.out.items) in
    let n = c.in_ok-defined-in-Ok.ensures ∙ ap (λ es. defined_by_all (nodes (map view es))) c.as_slice.ensures.value in
    let o = ap (λ xs. first_outside_of (map text_of xs) after) (sym c.as_slice-in-Ok.ensures.value)
    ∙ ap (λ es. first_outside_of (map text_of c.as_slice-in-Ok.result.now) (nodes (map view es))) (sym c.as_slice-in-Ok-2.ensures.value) ∙ sym c.first_outside_of.ensures in
    top.text_outside c.args.library (data_of c.args.forms.now) _ _ _ after _ c.in-Some.place e b c.in-Ok.ensures n (o ∙ c.in-Some.is)

pub returns-in-Ok : goal.returns-in-Ok
returns-in-Ok c =
    let e = top.empty_state c.new.result.items c.new-2.result.items c.new.ensures.items c.new-2.ensures.items in
    let b = ap (λ xs. nodes (map view xs)) c.new-parts.ensures.items in
    let after = nodes (map view c.expand_forms.new.out.items) in
    let n = c.in_ok-defined-in-Ok.ensures ∙ ap (λ es. defined_by_all (nodes (map view es))) c.as_slice.ensures.value in
    let o = ap (λ xs. first_outside_of (map text_of xs) after) (sym c.as_slice-in-Ok.ensures.value)
    ∙ ap (λ es. first_outside_of (map text_of c.as_slice-in-Ok.result.now) (nodes (map view es))) (sym c.as_slice-in-Ok-2.ensures.value) ∙ sym c.first_outside_of.ensures in
    top.text_means c.args.library (data_of c.args.forms.now) _ _ _ after _ e b c.in-Ok.ensures n (o ∙ c.in-None.is)

pub returns : goal.returns
returns c =
    let e = top.empty_state c.new.result.items c.new-2.result.items c.new.ensures.items c.new-2.ensures.items in
    let b = ap (λ xs. nodes (map view xs)) c.new-parts.ensures.items in
    top.text_refused c.args.library (data_of c.args.forms.now) _ c.in-Err.refusal e c.in-Err.ensures
