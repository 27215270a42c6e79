use Rattle.std.proofs.Common.{sym, ap, ◌∙◌, length}
use Rattle.tb_expand.proofs.SplitLists.{in_sequence}
use Rattle.tb_expand.proofs.splitting.in_order.Goals as goal

pub returns-else-as_slice-eq1 : goal.returns-else-as_slice-eq1
returns-else-as_slice-eq1 c =
    c.make_sequence.ensures ∙ sym (in_sequence c.args.place c.args.parts.items (λ e. c.if-as_slice-eq1.false (ap length c.as_slice.ensures.value ∙ e)))
