use Rattle.std.proofs.Common.{◌≡◌, ◌++◌, nat_eq, drop}
use Rattle.indexmap.specs.IndexMap.{get}
use Rattle.tb_liftable.specs.Added.{plain}
use Rattle.tb_liftable.proofs.added.put_plain.Given as goal

abbrev pub invariant-loop-variable : goal.invariant-loop-variable
invariant-loop-variable l = l.out.items ++ plain (get nat_eq l.members) (drop l.variable-index l.variables) ≡ l.initial.out.items ++ plain (get nat_eq l.members) l.variables
