use Rattle.std.proofs.Common.{◌≡◌, ◌||◌, ℕ, nat_eq, drop, map}
use Rattle.indexmap.specs.IndexSet.{contains}
use Rattle.tb_core.specs.FreeVariables.{is_in}
use Rattle.tb_ir.specs.AnfMachine.{free_of_atoms}
use Rattle.tb_ir.specs.AnfPlain.{view_atom}
use Rattle.tb_generate.proofs.free.add_atoms.Given as goal

abbrev pub invariant-loop-atom : goal.invariant-loop-atom
invariant-loop-atom l =
    (x : ℕ) → (is_in (free_of_atoms (map view_atom (drop l.atom-index l.atoms))) x || contains nat_eq l.set x)
    ≡ (is_in (free_of_atoms (map view_atom l.atoms)) x || contains nat_eq l.initial.set x)
