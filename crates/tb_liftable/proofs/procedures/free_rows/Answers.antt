use Rattle.std.proofs.Common.{ap, length, arith}
use Rattle.tb_liftable.proofs.Rows.{rows-all}
use Rattle.tb_liftable.proofs.procedures.free_rows.Goals as goal

pub returns : goal.returns
returns c =
    rows-all c.args.program.now c.loop-at.rows.items c.loop-at.at c.loop-at.invariant.long
    (let e = c.as_slice-at-end.ensures in omega (arith, ap length e)) c.loop-at.invariant.known
