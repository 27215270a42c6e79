use Rattle.std.proofs.Common.{◌+◌}
use Rattle.tb_mac.specs.Layout.{statics_size}
use Rattle.tb_macm.proofs.Layouts.{placing_step, summing_step}
use Rattle.tb_macm.proofs.layout.put_statics.Goals as goal

pub loop-object-preserved : goal.loop-object-preserved
loop-object-preserved c =
    let i = c.loop-object.invariant in
    let s = c.object-item.result in
    record {
      words = placing_step c.loop-object.next c.loop-object.object-index c.static_size.result c.args.statics.now c.args.addresses.now c.loop-object.memory c.put_static.new.memory _ s c.loop-object-test.true c.object-item.is c.static_size.ensures c.put_static.ensures i.words;
      sum = summing_step c.loop-object.next c.loop-object.object-index (c.args.at + statics_size c.args.statics.now) c.static_size.result c.args.statics.now s c.loop-object-test.true c.object-item.is c.static_size.ensures i.sum;
    }
