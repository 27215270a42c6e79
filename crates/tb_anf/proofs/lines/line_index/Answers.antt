use Rattle.std.proofs.Common.{◌∙◌, ap, arith}
use Rattle.tb_anf.specs.calls.Lines.{line_in}
use Rattle.tb_anf.proofs.code.Lines.{index-step}
use Rattle.tb_anf.proofs.lines.line_index.Goals as goal

pub loop-at-preserved : goal.loop-at-preserved
loop-at-preserved c s =
    ap (line_in c.args.order.now) (c.in_ok-insert.ensures.updates.0 s)
    ∙ index-step c.args.order.now _ _ _ s _ (omega arith) (omega arith) (c.loop-at.invariant s)
