use Rattle.std.proofs.Common.{◌≡◌, ◌+◌, arith}
use Rattle.std.proofs.lemmas.Grind.{common_steps}
use Rattle.tb_anf.proofs.code.Lines.{written-step}
use Rattle.tb_anf.proofs.lines.written.Goals as goal

pub loop-index-preserved : goal.loop-index-preserved
loop-index-preserved c =
    let value : c.in_ok-ok_or.field-0 ≡ c.args.first + c.loop-index.index = grind (arith, common_steps, c.checked_add.ensures, c.in_ok-ok_or.ensures) in
    written-step _ _ _ c.args.first c.loop-index.index c.args.count c.in_ok-ok_or.field-0 (omega arith) value c.in_ok-push.ensures.items c.loop-index.invariant
