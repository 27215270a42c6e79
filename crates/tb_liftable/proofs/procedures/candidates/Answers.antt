use Rattle.std.proofs.Common.{◌≡◌, ◌∙◌, ap, cond, ◌++◌, ◌∷◌, [], nat_eq, arith}
use Rattle.indexmap.specs.IndexMap.{get}
use Rattle.tb_core.specs.View.{view_lambda}
use Rattle.tb_liftable.specs.Procedures.{is_known}
use Rattle.tb_liftable.proofs.UseLemmas.{candidate_step, known_same}
use Rattle.tb_liftable.proofs.procedures.candidates.Goals as goal
use Rattle.tb_liftable.proofs.procedures.candidates.Goals.{then-is_candidate+in_ok-push, else-is_candidate}

pub loop-at-preserved : goal.loop-at-preserved
loop-at-preserved c =
    let ms = c.args.mentions.now in
    let m = c.index-lambdas-at.result in
    let at = c.loop-at.at in
    let out = c.loop-at.out.items in
    let known : c.is_candidate.result ≡ is_known ms (view_lambda m) at =
    c.is_candidate.ensures
    ∙ (known_same ms (get nat_eq c.args.names.now) (get nat_eq c.in_ok-uses.uses) (view_lambda m) c.in_ok-number.number (c.requires c.in_ok-number.number) c.in_ok-uses.ensures
    ∙ ap (is_known ms (view_lambda m)) c.in_ok-number.ensures) in
    let put : c.if-is_candidate.out.items ≡ cond c.is_candidate.result (out ++ at ∷ []) out =
    elim c.if-is_candidate.branch [
      | then-is_candidate+in_ok-push w ↦ grind (arith, w.if-is_candidate.true, w.out-is, w.in_ok-push.ensures.items, c.in_ok-number.ensures)
      | else-is_candidate w ↦ grind (arith, w.if-is_candidate.false, w.out-is)
    ] in
    candidate_step ms c.args.lambdas.now at m c.is_candidate.result out c.if-is_candidate.out.items _ c.loop-at-test.true c.index-lambdas-at.is known put c.loop-at.invariant
