use Rattle.std.proofs.Common.{◌≡◌, ◌+◌, ◌*◌, ◌++◌, map, drop}
use Rattle.tb_core.specs.View.{view, trees}
use Rattle.tb_liftable.specs.Mentions.{mentions_all}
use Rattle.tb_liftable.proofs.mentions.+mentions.Given as goal

abbrev pub decreases-put_mentions : goal.decreases-put_mentions
decreases-put_mentions l = 3 * l.levels

abbrev pub decreases-put_operator : goal.decreases-put_operator
decreases-put_operator l = 3 * l.levels + 1

abbrev pub decreases-put_mentions_of_all : goal.decreases-put_mentions_of_all
decreases-put_mentions_of_all l = 3 * l.levels + 1

abbrev pub invariant-put_mentions_of_all-loop-expr : goal.invariant-put_mentions_of_all-loop-expr
invariant-put_mentions_of_all-loop-expr l =
    l.out.items ++ mentions_all (trees (map view (drop l.expr-index l.exprs))) ≡ l.initial.out.items ++ mentions_all (trees (map view l.exprs))
