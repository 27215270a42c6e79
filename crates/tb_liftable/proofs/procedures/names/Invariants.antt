use Rattle.std.proofs.Common.{◌≡◌, ℕ, nat_eq, drop}
use Rattle.indexmap.specs.IndexMap.{get}
use Rattle.tb_liftable.specs.Procedures.{name_in, or_else}
use Rattle.tb_liftable.proofs.procedures.names.Given as goal

abbrev pub invariant-loop-mention : goal.invariant-loop-mention
invariant-loop-mention l = (k : ℕ) → or_else (name_in (drop l.mention-index l.mentions) k) (get nat_eq l.names k) ≡ name_in l.mentions k
