use Rattle.std.proofs.Common.{ap, ◌∙◌, ◌==◌, length, arith}
use Rattle.tb_expand.specs.View.{view}
use Rattle.tb_expand.proofs.Views.{viewing}
use Rattle.tb_expand.proofs.SplitLists.{let_made}
use Rattle.tb_expand.proofs.splitting.let_round.Goals as goal

pub returns : goal.returns
returns c =
    let h = c.if-is_empty.ensures ∙ ap (λ xs. length xs == 0) c.as_slice.ensures.value in
    let e = let_made c.args.place c.args.variables.items (view c.args.node) h in
    grind (arith, viewing, e)
