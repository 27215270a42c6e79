use Rattle.std.proofs.Common.{◌≡◌, drop, map}
use Rattle.tb_ir.specs.AnfMachine.{free_of_atoms}
use Rattle.tb_ir.specs.AnfPlain.{view_atom}
use Rattle.tb_live.specs.calls.Sets.{joined}
use Rattle.tb_live.proofs.uses.add_atoms.Given as goal

abbrev pub invariant-loop-atom : goal.invariant-loop-atom
invariant-loop-atom l =
    joined l.set.keys (free_of_atoms (map view_atom (drop l.atom-index l.atoms))) ≡ joined l.initial.set.keys (free_of_atoms (map view_atom l.atoms))
