use Rattle.std.proofs.Common.{◌+◌, ◌-◌, arith}
use Rattle.tb_core_rows.proofs.Quiets.{plain_push}
use Rattle.tb_core_rows.proofs.programs.equal_forms.Goals as goal

pub loop-index-preserved : goal.loop-index-preserved
loop-index-preserved c =
    let i = c.loop-index.invariant in
    let h = plain_push c.args.width (c.args.width - 1 + 1) c.loop-index.index c.loop-index.all.items c.push.new.self.items c.in_ok-sequence.field-0 c.in_ok-push.ensures.items i.count (omega (arith, c.requires.width)) i.plain c.in_ok-sequence.ensures in
    record { count = h.0; plain = h.1 }
