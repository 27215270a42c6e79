use Rattle.std.proofs.Common.{arith}
use Rattle.tb_generate.proofs.Members.{remove-step, remove-done}
use Rattle.tb_generate.proofs.free.remove.Goals as goal

pub loop-variable-preserved : goal.loop-variable-preserved
loop-variable-preserved c x =
    remove-step c.args.variables.now _ _ x _ _ _ c.loop-variable-test.true (omega arith) (c.swap_remove.ensures.updates.0 x) (c.loop-variable.invariant x)

pub returns : goal.returns
returns c x = remove-done c.args.variables.now _ x _ _ c.loop-variable-test.false (c.loop-variable.invariant x)
