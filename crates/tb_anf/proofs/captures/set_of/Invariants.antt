use Rattle.std.proofs.Common.{◌≡◌, ◌++◌, [], drop}
use Rattle.tb_core.specs.FirstUses.{first_of}
use Rattle.tb_anf.proofs.captures.set_of.Given as goal

abbrev pub invariant-loop-variable : goal.invariant-loop-variable
invariant-loop-variable l =
    l.set.keys ++ first_of l.set.keys (drop l.variable-index l.variables) ≡ first_of [] l.variables
