use Rattle.std.proofs.Common.{arith}
use Rattle.tb_lines.proofs.Joined.{joined-split, joined-take_more, put_more, put_some}
use Rattle.tb_lines.proofs.parts.put_parts.Goals as goal

pub returns-in-Err-clause-bytes : goal.returns-in-Err-clause-bytes
returns-in-Err-clause-bytes g c =
    put_some _ _ _ _ _ _ (joined-split (λ part. part.now) c.args.parts.now c.loop-part.part-index _ c.loop-part-test.true) c.loop-part.invariant.put c.in-Err.ensures.bytes

pub loop-part-preserved : goal.loop-part-preserved
loop-part-preserved g c = record {
  put = put_more _ _ _ _ _ _ (joined-take_more (λ part. part.now) c.args.parts.now c.loop-part.part-index _ c.loop-part-test.true) c.loop-part.invariant.put c.in-Ok.ensures.bytes;
  later = let a = c.loop-part.invariant.later in let b = c.put_all.ensures.cause.later in omega arith;
}
