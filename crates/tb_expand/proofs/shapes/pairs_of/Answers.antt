use Rattle.std.proofs.Common.{◌∙◌, arith}
use Rattle.tb_expand.proofs.Rows.{pair_put, pairs_put}
use Rattle.tb_expand.proofs.shapes.pairs_of.Goals as goal

pub loop-datum-preserved : goal.loop-datum-preserved
loop-datum-preserved c =
    pair_put c.args.datums.now c.loop-datum.datum-index c.datum-item.result c.in-Some.pair c.loop-datum.pairs.items c.push.new.self.items (omega arith) c.datum-item.is c.in-Some.ensures c.in_ok-push-in-Some.ensures.items
    ∙ c.loop-datum.invariant

pub returns : goal.returns
returns c = pairs_put c.args.datums.now c.loop-datum.datum-index c.loop-datum.pairs.items _ (omega arith) c.loop-datum.invariant
