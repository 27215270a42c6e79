use Rattle.std.proofs.Common.{◌≡◌, ◌≤◌, ◌+◌, drop, map}
use Rattle.tb_expand.specs.Splits.{lambdas_among}
use Rattle.tb_expand.specs.View.{nodes, view}
use Rattle.tb_expand.proofs.splitting.count_lambdas.Given as goal

abbrev pub invariant-loop-value : goal.invariant-loop-value
invariant-loop-value l = record {
  count : l.count + lambdas_among (nodes (map view (drop l.value-index l.values))) ≡ lambdas_among (nodes (map view l.values));
  bound : l.count ≤ l.value-index;
}
