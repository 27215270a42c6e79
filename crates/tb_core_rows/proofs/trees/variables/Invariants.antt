use Rattle.std.proofs.Common.{◌<◌}
use Rattle.tb_semantics.specs.Graph.{IsApart}
use Rattle.tb_core.specs.Rules.{Every}
use Rattle.tb_core_rows.proofs.trees.variables.Given as goal

abbrev pub invariant-loop-variable : goal.invariant-loop-variable
invariant-loop-variable l = record {
  apart : IsApart l.all.items;
  below : Every (λ x. x < l.variable) l.all.items;
}
