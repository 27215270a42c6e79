use Rattle.std.proofs.Common.{nat_eq}
use Rattle.indexmap.specs.IndexMap.{get}
use Rattle.tb_liftable.specs.calls.Given.{given}
use Rattle.tb_liftable.specs.calls.Reached.{Progress}
use Rattle.tb_liftable.proofs.added.reached.Given as goal

abbrev pub invariant-loop-next : goal.invariant-loop-next
invariant-loop-next l = Progress (given l.source) (get nat_eq l.members) l.lambda l.next l.reached.keys
