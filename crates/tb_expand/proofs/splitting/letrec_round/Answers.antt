use Rattle.std.proofs.Common.{ap, ◌∙◌, ◌==◌, map, length, arith}
use Rattle.tb_expand.specs.View.{nodes, view}
use Rattle.tb_expand.proofs.Views.{viewing}
use Rattle.tb_expand.proofs.SplitLists.{letrec_made}
use Rattle.tb_expand.proofs.splitting.letrec_round.Goals as goal

pub returns : goal.returns
returns c =
    let h = c.if-is_empty.ensures ∙ ap (λ xs. length xs == 0) c.as_slice.ensures.value in
    let e = letrec_made c.args.place c.args.bindings.variables.items (nodes (map view c.args.bindings.values.items)) (view c.args.node) h in
    grind (arith, viewing, e)
