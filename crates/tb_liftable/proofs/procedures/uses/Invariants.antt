use Rattle.std.proofs.Common.{◌≡◌, ◌&&◌, ℕ, nat_eq, drop}
use Rattle.indexmap.specs.IndexMap.{get}
use Rattle.tb_liftable.specs.Procedures.{only_called}
use Rattle.tb_liftable.specs.calls.Uses.{fits_use}
use Rattle.tb_liftable.proofs.procedures.uses.Given as goal

abbrev pub invariant-loop-mention : goal.invariant-loop-mention
invariant-loop-mention l = (x n : ℕ) → (only_called (drop l.mention-index l.mentions) x n && fits_use n (get nat_eq l.uses x)) ≡ only_called l.mentions x n
