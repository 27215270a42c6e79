use Rattle.std.proofs.Common.{◌≡◌, ap, ◌∙◌, subst, ◌+◌, drop, ◌∷◌}
use Rattle.std.proofs.lemmas.List.{drop_all}
use Rattle.std.proofs.lemmas.Result.{err_from_is_err_and}
use Rattle.tb_mac.proofs.LabelLemmas.{Noting, all-noted, left-at, noted-label, passed-instruction, stood-twice}
use Rattle.tb_mac.proofs.assembler.find_labels.Goals as goal
use Rattle.tb_mac.proofs.assembler.find_labels.Goals.{in-Label+in_ok-note_label-in-Label, in-Ins}

pub returns-in_err-note_label-in-Label-clause-twice : goal.returns-in_err-note_label-in-Label-clause-twice
returns-in_err-note_label-in-Label-clause-twice c =
    let p = err_from_is_err_and c.from_residual.result c.from_residual.ensures.1 in
    let e = left-at c.args.items.now c.loop-item.item-index c.item-item.result c.loop-item-test.true c.item-item.is
    ∙ ap (λ x. x ∷ drop (c.loop-item.item-index + 1) c.args.items.now) c.in-Label.is in
    let n = subst (λ left. Noting c.args.items.now left c.loop-item.found.entries c.loop-item.count) e c.loop-item.invariant in
    rw (p.1, p.2) (stood-twice c.args.items.now _ c.loop-item.found.entries c.loop-item.count c.in-Label.label _ n c.in_err-note_label-in-Label.ensures.twice)

pub loop-item-preserved : goal.loop-item-preserved
loop-item-preserved c =
    let e = left-at c.args.items.now c.loop-item.item-index c.item-item.result c.loop-item-test.true c.item-item.is in
    elim c.match-item.branch [
      | in-Label+in_ok-note_label-in-Label w ↦
          let n = subst (λ left. Noting c.args.items.now left c.loop-item.found.entries c.loop-item.count)
          (e ∙ ap (λ x. x ∷ drop (c.loop-item.item-index + 1) c.args.items.now) w.in-Label.is) c.loop-item.invariant in
          rw (w.found-is, w.count-is)
          (noted-label c.args.items.now _ c.loop-item.found.entries w.note_label.new.labels.entries c.loop-item.count w.in-Label.label n
          w.in_ok-note_label-in-Label.ensures.absent w.in_ok-note_label-in-Label.ensures.noted)
      | in-Ins w ↦
          let n = subst (λ left. Noting c.args.items.now left c.loop-item.found.entries c.loop-item.count)
          (e ∙ ap (λ x. x ∷ drop (c.loop-item.item-index + 1) c.args.items.now) w.in-Ins.is) c.loop-item.invariant in
          rw (w.found-is, w.count-is)
          (passed-instruction c.args.items.now _ c.loop-item.found.entries c.loop-item.count w.in-Ins.field-0 w.in-Ins.field-1 w.in-Ins.field-2 n)
    ]

pub returns-clause-apart : goal.returns-clause-apart
returns-clause-apart c =
    all-noted c.args.items.now c.loop-item.found.entries c.loop-item.count
    (subst (λ left. Noting c.args.items.now left c.loop-item.found.entries c.loop-item.count)
    (drop_all c.loop-item.item-index c.args.items.now c.loop-item-test.false) c.loop-item.invariant)
