use Rattle.std.proofs.Common.{arith}
use Rattle.tb_live.proofs.Joined.{add-step, add-done}
use Rattle.tb_live.proofs.uses.add.Goals as goal

pub loop-variable-preserved : goal.loop-variable-preserved
loop-variable-preserved c =
    add-step c.args.variables.now c.loop-variable.set.keys c.insert.new.self.keys _ c.loop-variable.variable-index _ c.loop-variable-test.true (omega arith) c.in_ok-insert.ensures.keys c.loop-variable.invariant

pub returns : goal.returns
returns c = add-done c.args.variables.now c.loop-variable.set.keys _ c.loop-variable.variable-index c.loop-variable-test.false c.loop-variable.invariant
