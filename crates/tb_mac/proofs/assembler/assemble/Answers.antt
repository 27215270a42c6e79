use Rattle.std.proofs.Common.{◌≡◌, ap, ◌∙◌, subst}
use Rattle.std.proofs.lemmas.Result.{err_from_is_err_and}
use Rattle.tb_mac.specs.Assemble.{entry_labels, instructions, targets}
use Rattle.tb_mac.specs.calls.Labels.{HasAll, Misses, Table}
use Rattle.tb_mac.proofs.AssembleLemmas.{all-resolved, assembled-keeps, code-made, entry-missing, item-missing, parts-made, same-code, same-keeps}
use Rattle.tb_mac.proofs.assembler.assemble.Goals as goal

pub returns-in_err-code-clause-refused : goal.returns-in_err-code-clause-refused
returns-in_err-code-clause-refused c =
    let p = err_from_is_err_and c.from_residual-in_err-code.result c.from_residual-in_err-code.ensures.1 in
    let f = c.in_ok-found.ensures in
    let T = λ (es : Table). Misses es (targets (instructions c.args.items.now)) c.in_err-code.field-0.0 in
    rw (p.1, p.2) (item-missing c.args.parts.now c.args.items.now _ f.apart
    (subst T f.found c.in_err-code.ensures.missing))

pub returns-in_err-lambdas-clause-refused : goal.returns-in_err-lambdas-clause-refused
returns-in_err-lambdas-clause-refused c =
    let p = err_from_is_err_and c.from_residual-in_err-lambdas.result c.from_residual-in_err-lambdas.ensures.1 in
    let f = c.in_ok-found.ensures in
    let T = λ (es : Table). Misses es (entry_labels c.args.parts.now.lambdas) c.in_err-lambdas.field-0.0 in
    rw (p.1, p.2) (entry-missing c.args.parts.now c.args.items.now _ f.apart
    (subst (λ es. HasAll es (targets (instructions c.args.items.now))) f.found c.in_ok-code.ensures.stands)
    (subst T f.found (subst (λ ls. Misses c.in_ok-found.found.entries (entry_labels ls) c.in_err-lambdas.field-0.0) c.as_slice.ensures
    c.in_err-lambdas.ensures.missing)))

pub invariant_of-result : goal.invariant_of-result
invariant_of-result c =
    let f = c.in_ok-found.ensures in
    let items = c.args.items.now in
    let made = code-made items c.in_ok-found.found.entries c.in_ok-code.code.items f.found c.in_ok-code.ensures.made in
    let parts = parts-made items c.in_ok-found.found.entries c.args.parts.now c.in_ok-parts.parts c.as_slice.result.now
    c.in_ok-lambdas.lambdas.items f.found c.as_slice.ensures c.in_ok-lambdas.ensures.made c.in_ok-parts.ensures in
    let r = all-resolved c.args.parts.now items f.apart
    (subst (λ es. HasAll es (targets (instructions items))) f.found c.in_ok-code.ensures.stands)
    (subst (λ es. HasAll es (entry_labels c.args.parts.now.lambdas)) f.found
    (subst (λ ls. HasAll c.in_ok-found.found.entries (entry_labels ls)) c.as_slice.ensures c.in_ok-lambdas.ensures.stands)) in
    record {
      rules = ∣ same-keeps _ c.in_ok-parts.parts _ c.from_vec.result _ c.from_vec-2.result _ c.from_vec-3.result
          parts (c.from_vec.ensures ∙ made) (c.from_vec-2.ensures ∙ c.in_ok-maps.ensures) (c.from_vec-3.ensures ∙ c.in_ok-places.ensures)
          (assembled-keeps c.args.parts.now items c.requires r) ∣₁;
    }

pub returns-clause-code : goal.returns-clause-code
returns-clause-code c =
    let f = c.in_ok-found.ensures in
    let items = c.args.items.now in
    let made = code-made items c.in_ok-found.found.entries c.in_ok-code.code.items f.found c.in_ok-code.ensures.made in
    let parts = parts-made items c.in_ok-found.found.entries c.args.parts.now c.in_ok-parts.parts c.as_slice.result.now
    c.in_ok-lambdas.lambdas.items f.found c.as_slice.ensures c.in_ok-lambdas.ensures.made c.in_ok-parts.ensures in
    same-code _ c.in_ok-parts.parts _ c.from_vec.result _ c.from_vec-2.result _ c.from_vec-3.result
    parts (c.from_vec.ensures ∙ made) (c.from_vec-2.ensures ∙ c.in_ok-maps.ensures) (c.from_vec-3.ensures ∙ c.in_ok-places.ensures)

pub returns-clause-resolved : goal.returns-clause-resolved
returns-clause-resolved c =
    let f = c.in_ok-found.ensures in
    all-resolved c.args.parts.now c.args.items.now f.apart
    (subst (λ es. HasAll es (targets (instructions c.args.items.now))) f.found c.in_ok-code.ensures.stands)
    (subst (λ es. HasAll es (entry_labels c.args.parts.now.lambdas)) f.found
    (subst (λ ls. HasAll c.in_ok-found.found.entries (entry_labels ls)) c.as_slice.ensures c.in_ok-lambdas.ensures.stands))
