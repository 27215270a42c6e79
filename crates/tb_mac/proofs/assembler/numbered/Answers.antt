use Rattle.std.proofs.Common.{◌≡◌, sym, ap, ◌∙◌, subst, ◌+◌, List, drop, [], ◌∷◌, ◌++◌, map}
use Rattle.tb_mac.specs.declared.code.Instr.{Instr}
use Rattle.tb_mac.specs.declared.item.Item.{Item}
use Rattle.std.proofs.lemmas.Result.{err_from_is_err_and}
use Rattle.tb_mac.specs.Assemble.{instructions, target, targets, with_target}
use Rattle.tb_mac.specs.calls.Labels.{number_in}
use Rattle.tb_mac.proofs.LabelLemmas.{Numbering, left-at, misses-behind, numbering-one}
use Rattle.tb_mac.proofs.assembler.numbered.Goals as goal
use Rattle.tb_mac.proofs.assembler.numbered.Goals.{in-Label, in-Ins+in_ok-with_number-in-Ins+in_ok-push-in-Ins}

pub returns-in_err-with_number-in-Ins-clause-missing : goal.returns-in_err-with_number-in-Ins-clause-missing
returns-in_err-with_number-in-Ins-clause-missing c =
    let p = err_from_is_err_and c.from_residual.result c.from_residual.ensures.1 in
    let e = left-at c.args.items.now c.loop-item.item-index c.item-item.result c.loop-item-test.true c.item-item.is
    ∙ ap (λ x. x ∷ drop (c.loop-item.item-index + 1) c.args.items.now) c.in-Ins.is in
    let n = c.loop-item.invariant in
    rw (p.1, p.2)
    (misses-behind c.args.found.now.entries n.before (target c.in-Ins.instr) _ _ _ n.found
    (ap (λ left. n.before ++ targets (instructions left)) (sym e) ∙ n.named)
    c.in_err-with_number-in-Ins.ensures.missing)

pub loop-item-preserved : goal.loop-item-preserved
loop-item-preserved c =
    let e = left-at c.args.items.now c.loop-item.item-index c.item-item.result c.loop-item-test.true c.item-item.is in
    let to = with_target (number_in c.args.found.now.entries) in
    let all = c.args.items.now in
    let N = λ (code : List Instr) (left : List Item). Numbering c.args.found.now.entries code (map to (instructions left))
    (map to (instructions all)) (targets (instructions all)) (targets (instructions left)) in
    elim c.match-item.branch [
      | in-Label w ↦
          rw w.code-is (subst (N c.loop-item.code.items) (e ∙ ap (λ x. x ∷ drop (c.loop-item.item-index + 1) all) w.in-Label.is) c.loop-item.invariant)
      | in-Ins+in_ok-with_number-in-Ins+in_ok-push-in-Ins w ↦
          let n = subst (N c.loop-item.code.items) (e ∙ ap (λ x. x ∷ drop (c.loop-item.item-index + 1) all) w.in-Ins.is) c.loop-item.invariant in
          let g = w.in_ok-with_number-in-Ins.ensures in
          rw w.code-is (subst (λ code. N code (drop (c.loop-item.item-index + 1) all))
          (ap (λ x. c.loop-item.code.items ++ x ∷ []) (sym g.made) ∙ sym w.in_ok-push-in-Ins.ensures.items)
          (numbering-one c.args.found.now.entries c.loop-item.code.items _ _ (to w.in-Ins.instr) (target w.in-Ins.instr) _ _ n g.stands))
    ]
