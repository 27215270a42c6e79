use Rattle.std.proofs.Common.{is_ok}
use Rattle.std.proofs.Common.{refl}
use Rattle.tb_expand.proofs.Placing.{knows_same, knows_other}
use Rattle.tb_expand.proofs.numbers.statics.finish.Goals as goal

pub invariant_of-statics : goal.invariant_of-statics
invariant_of-statics c = record {
  known = knows_same _ c.push.new.self.items c.args.statics.now.symbols c.args.statics.now.symbols
      (knows_other (is_ok c.push.result) c.args.statics.now.objects.items c.args.object c.args.statics.now.symbols c.args.statics.now.known c.requires) c.push.ensures.items refl;
}
