use Rattle.std.proofs.Common.{◌++◌, map, ap, ◌∙◌}
use Rattle.std.specs.Prelude.{reverse}
use Rattle.tb_sexp.specs.calls.Tails.{ended}
use Rattle.tb_sexp.specs.Tree.{At}
use Rattle.tb_sexp.specs.View.{trees, view}
use Rattle.tb_sexp.proofs.Rows.{trees-reversed}
use Rattle.tb_sexp.proofs.tails.joined.Goals as goal

pub returns : goal.returns
returns c =
    ap (λ ds. At c.args.place (ended (trees (map view (reverse ds))) c.args.end)) (c.in_ok-append.ensures.items ∙ ap (λ ds. c.args.back.items ++ ds) c.reverse.ensures.items)
    ∙ ap (λ ts. At c.args.place (ended ts c.args.end)) (trees-reversed c.args.front.items c.args.back.items)
