use Rattle.std.proofs.Common.{arith}
use Rattle.tb_generate.proofs.Members.{add-step, add-done}
use Rattle.tb_generate.proofs.free.add.Goals as goal

pub loop-variable-preserved : goal.loop-variable-preserved
loop-variable-preserved c x =
    add-step c.args.variables.now _ _ x _ _ _ c.loop-variable-test.true (omega arith) (c.in_ok-insert.ensures.updates.0 x) (c.loop-variable.invariant x)

pub returns : goal.returns
returns c x = add-done c.args.variables.now _ x _ _ c.loop-variable-test.false (c.loop-variable.invariant x)
