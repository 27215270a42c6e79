use Rattle.std.proofs.Common.{arith}
use Rattle.tb_expand.proofs.SplitLists.{undefined_more}
use Rattle.tb_expand.proofs.splitting.undefined_values.Goals as goal

pub loop-variable-preserved : goal.loop-variable-preserved
loop-variable-preserved c =
    rw c.in_ok-push.ensures.items (undefined_more c.args.place c.args.variables.now c.loop-variable._variable-index c.loop-variable.marks.items c.undefined_value.result (omega arith) c.loop-variable.invariant c.undefined_value.ensures)
