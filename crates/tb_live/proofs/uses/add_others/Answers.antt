use Rattle.std.proofs.Common.{◌≡◌, ◌∙◌, cond, ◌∷◌, [], get_or, arith}
use Rattle.tb_live.specs.calls.Sets.{joined}
use Rattle.tb_live.proofs.Joined.{others-step, others-done}
use Rattle.tb_live.proofs.uses.add_others.Goals as goal
use Rattle.tb_live.proofs.uses.add_others.Goals.{then-not-contains+in_ok-add, else-not-contains}

pub loop-variable-preserved : goal.loop-variable-preserved
loop-variable-preserved c =
    let x = get_or c.args.variables.now c.loop-variable.variable-index 0 in
    let ks = c.loop-variable.set.keys in
    let put : c.if-not-contains.set.keys ≡ cond c.contains.result ks (joined ks (x ∷ [])) =
    elim c.if-not-contains.branch [
      | then-not-contains+in_ok-add w ↦ grind (arith, w.if-not-contains.true, w.set-is, w.in_ok-add.ensures)
      | else-not-contains w ↦ grind (arith, w.if-not-contains.false, w.set-is)
    ] in
    others-step c.args.bound.now c.args.variables.now ks c.if-not-contains.set.keys _ c.loop-variable.variable-index _ c.contains.result c.loop-variable-test.true (omega arith)
    (c.contains.ensures ∙ c.in_ok-bound.ensures x) put c.loop-variable.invariant

pub returns : goal.returns
returns c = others-done c.args.bound.now c.args.variables.now c.loop-variable.set.keys _ c.loop-variable.variable-index c.loop-variable-test.false c.loop-variable.invariant
