use Rattle.std.proofs.Common.{◌≡◌, ◌++◌, nat_eq, drop}
use Rattle.indexmap.specs.IndexMap.{get}
use Rattle.tb_core.specs.FreeVariables.{of_lambdas}
use Rattle.tb_liftable.specs.Added.{plain}
use Rattle.tb_liftable.specs.calls.Given.{given}
use Rattle.tb_liftable.proofs.added.added.Given as goal

abbrev pub invariant-loop-from : goal.invariant-loop-from
invariant-loop-from l = l.all.items ++ of_lambdas (λ m. plain (get nat_eq l.members) ((given l.source).free m)) (drop l.from-index l.from-items) ≡ of_lambdas (λ m. plain (get nat_eq l.members) ((given l.source).free m)) l.from-items
