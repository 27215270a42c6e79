use Rattle.std.proofs.Common.{◌≡◌, ◌+◌, drop}
use Rattle.tb_liftable.specs.calls.Place.{place}
use Rattle.tb_liftable.proofs.added.place_of.Given as goal

abbrev pub invariant-loop-at : goal.invariant-loop-at
invariant-loop-at l = l.at + place l.variable (drop l.at l.variables) ≡ place l.variable l.variables
