use Rattle.std.proofs.Common.{ap, ℕ, List, map, get_or}
use Rattle.tb_core.specs.Lifting.{Lifted, view_lifted}
use Rattle.tb_liftable.specs.Added.{added_to}
use Rattle.tb_liftable.specs.calls.Given.{given}
use Rattle.tb_liftable.proofs.Settling.{line-put}
use Rattle.tb_liftable.proofs.sets.lines.Goals as goal

pub loop-lambda-preserved : goal.loop-lambda-preserved
loop-lambda-preserved c =
    let one : ℕ → Lifted = λ m. record { lambda = m; added = added_to (given c.args.source) c.args.set.now m } in
    let here = get_or c.args.set.now c.loop-lambda.lambda-index 0 in
    let same : ℕ → List ℕ → Lifted = λ m ys. record { lambda = m; added = ys } in
    line-put one c.args.set.now c.loop-lambda.lambda-index (map view_lifted c.loop-lambda.out.items) (map view_lifted c.put_line.new.out.items) _
    (same here c.in_ok-added.added) c.loop-lambda-test.true (ap (same here) c.in_ok-added.ensures) c.in_ok-put_line.ensures c.loop-lambda.invariant
