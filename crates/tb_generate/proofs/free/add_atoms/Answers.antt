use Rattle.std.proofs.Common.{arith}
use Rattle.tb_generate.proofs.Members.{atoms-step, atoms-done}
use Rattle.tb_generate.proofs.free.add_atoms.Goals as goal

pub loop-atom-preserved : goal.loop-atom-preserved
loop-atom-preserved c x =
    atoms-step c.args.atoms.now _ _ x _ _ _ _ c.loop-atom-test.true (omega arith) (c.in_ok-add_atom.ensures x) (c.loop-atom.invariant x)

pub returns : goal.returns
returns c x = atoms-done c.args.atoms.now _ x _ _ c.loop-atom-test.false (c.loop-atom.invariant x)
