use Rattle.std.proofs.Common.{◌≡◌, nat_eq, drop}
use Rattle.indexmap.specs.IndexMap.{get}
use Rattle.tb_liftable.specs.Added.{called}
use Rattle.tb_liftable.specs.calls.Reached.{inserted}
use Rattle.tb_liftable.proofs.added.add_called.Given as goal

abbrev pub invariant-loop-variable : goal.invariant-loop-variable
invariant-loop-variable l = inserted l.reached.keys (called (get nat_eq l.members) (drop l.variable-index l.variables)) ≡ inserted l.initial.reached.keys (called (get nat_eq l.members) l.variables)
