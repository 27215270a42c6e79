use Rattle.std.proofs.Common.{◌≡◌, ◌∙◌, cond, ◌++◌, ◌∷◌, [], get_or, arith}
use Rattle.tb_core.proofs.FirstUses.{without-put}
use Rattle.tb_anf.proofs.captures.put_without.Goals as goal
use Rattle.tb_anf.proofs.captures.put_without.Goals.{then-not-contains+in_ok-put, else-not-contains}

pub loop-variable-preserved : goal.loop-variable-preserved
loop-variable-preserved c =
    let x = get_or c.args.variables.now c.loop-variable.variable-index 0 in
    let out = c.loop-variable.out.items in
    let put : c.if-not-contains.out.items ≡ cond c.contains.result out (out ++ x ∷ []) =
    elim c.if-not-contains.branch [
      | then-not-contains+in_ok-put w ↦ grind (arith, w.if-not-contains.true, w.out-is, w.in_ok-put.ensures)
      | else-not-contains w ↦ grind (arith, w.if-not-contains.false, w.out-is)
    ] in
    without-put c.args.bound.now c.args.variables.now out c.if-not-contains.out.items _ c.loop-variable.variable-index c.contains.result c.loop-variable-test.true (c.contains.ensures ∙ c.in_ok-bound.ensures.members x) put c.loop-variable.invariant
