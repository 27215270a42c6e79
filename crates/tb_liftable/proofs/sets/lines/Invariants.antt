use Rattle.std.proofs.Common.{◌≡◌, ◌++◌, ℕ, map, drop}
use Rattle.tb_core.specs.Lifting.{Lifted, view_lifted}
use Rattle.tb_liftable.specs.Added.{added_to}
use Rattle.tb_liftable.specs.calls.Given.{given}
use Rattle.tb_liftable.proofs.sets.lines.Given as goal

abbrev pub invariant-loop-lambda : goal.invariant-loop-lambda
invariant-loop-lambda l =
    let one : ℕ → Lifted = λ m. record { lambda = m; added = added_to (given l.source) l.set m } in
    map view_lifted l.out.items ++ map one (drop l.lambda-index l.set) ≡ map one l.set
