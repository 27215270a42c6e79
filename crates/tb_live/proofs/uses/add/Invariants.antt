use Rattle.std.proofs.Common.{◌≡◌, drop}
use Rattle.tb_live.specs.calls.Sets.{joined}
use Rattle.tb_live.proofs.uses.add.Given as goal

abbrev pub invariant-loop-variable : goal.invariant-loop-variable
invariant-loop-variable l = joined l.set.keys (drop l.variable-index l.variables) ≡ joined l.initial.set.keys l.variables
