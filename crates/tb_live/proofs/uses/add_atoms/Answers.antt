use Rattle.std.proofs.Common.{arith}
use Rattle.tb_live.proofs.Joined.{atoms-step, atoms-done}
use Rattle.tb_live.proofs.uses.add_atoms.Goals as goal

pub loop-atom-preserved : goal.loop-atom-preserved
loop-atom-preserved c =
    atoms-step c.args.atoms.now c.loop-atom.set.keys _ _ c.loop-atom.atom-index _ _ c.loop-atom-test.true (omega arith) c.in_ok-add_atom.ensures c.loop-atom.invariant

pub returns : goal.returns
returns c = atoms-done c.args.atoms.now c.loop-atom.set.keys _ c.loop-atom.atom-index c.loop-atom-test.false c.loop-atom.invariant
