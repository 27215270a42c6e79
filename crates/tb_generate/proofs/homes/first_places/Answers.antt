use Rattle.std.proofs.Common.{◌∙◌, ◌==◌, cond, Some, ap, ◌-◌, arith, nat_eq, get_or}
use Rattle.indexmap.specs.IndexMap.{get}
use Rattle.tb_generate.proofs.Homing.{place-step}
use Rattle.tb_generate.proofs.homes.first_places.Goals as goal

pub loop-at-preserved : goal.loop-at-preserved
loop-at-preserved c x =
    let xs = c.args.variables.now in
    let i = c.loop-at.at - 1 in
    place-step xs i c.loop-at.at x (get nat_eq c.loop-at.places x) _ (omega arith) (omega arith)
    (c.in_ok-insert.ensures.updates.0 x ∙ ap (λ k. cond (get_or xs i 0 == x) (Some k) (get nat_eq c.loop-at.places x)) c.in_ok-number_32.ensures) (c.loop-at.invariant x)
