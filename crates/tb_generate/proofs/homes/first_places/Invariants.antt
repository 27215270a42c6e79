use Rattle.std.proofs.Common.{◌≡◌, ◌+◌, ℕ, nat_eq, drop, length}
use Rattle.indexmap.specs.IndexMap.{get}
use Rattle.tb_codegen.specs.Homes.{index_of}
use Rattle.tb_generate.specs.calls.Bodies.{or_else}
use Rattle.tb_generate.proofs.homes.first_places.Given as goal

abbrev pub invariant-loop-at : goal.invariant-loop-at
invariant-loop-at l = (x : ℕ) → or_else (get nat_eq l.places x) (length l.variables) ≡ l.at + index_of (drop l.at l.variables) x
