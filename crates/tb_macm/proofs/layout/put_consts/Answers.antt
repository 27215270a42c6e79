use Rattle.tb_mac.specs.Layout.{const_word}
use Rattle.tb_macm.proofs.Layouts.{mapped_step}
use Rattle.tb_macm.proofs.layout.put_consts.Goals as goal

pub loop-k-preserved : goal.loop-k-preserved
loop-k-preserved c =
    mapped_step (const_word c.args.statics.now c.args.addresses.now) c.args.at c.loop-k.k c.args.constants.now c.loop-k.memory _ _ c.const_word.result c.loop-k-test.true c.const_word.ensures c.loop-k.invariant
