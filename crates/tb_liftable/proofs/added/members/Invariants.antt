use Rattle.std.proofs.Common.{◌≡◌, ℕ, nat_eq, drop}
use Rattle.indexmap.specs.IndexMap.{get}
use Rattle.tb_liftable.specs.Procedures.{or_else}
use Rattle.tb_liftable.specs.Added.{member}
use Rattle.tb_liftable.specs.calls.Given.{given}
use Rattle.tb_liftable.proofs.added.members.Given as goal

abbrev pub invariant-loop-lambda : goal.invariant-loop-lambda
invariant-loop-lambda l = (x : ℕ) → or_else (member (given l.source) (drop l.lambda-index l.set) x) (get nat_eq l.members x) ≡ member (given l.source) l.set x
