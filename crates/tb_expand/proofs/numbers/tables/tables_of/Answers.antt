use Rattle.std.proofs.Common.{◌∙◌, ap, map}
use Rattle.tb_expand.specs.View.{view}
use Rattle.tb_expand.specs.calls.Numbering.{view_tables, seen_each}
use Rattle.tb_expand.proofs.Tables.{seen_whole, no_tables}
use Rattle.tb_expand.proofs.numbers.tables.tables_of.Goals as goal

pub returns : goal.returns
unfolding view_tables
returns c =
    c.in_ok-note_each.ensures
    ∙ ap (λ t. seen_each t (map view c.args.nodes.now)) (no_tables c.new.result.keys c.new-2.result.keys c.new.ensures.empty c.new-2.ensures.empty)
    ∙ seen_whole (map view c.args.nodes.now)
