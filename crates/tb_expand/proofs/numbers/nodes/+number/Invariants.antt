use Rattle.std.proofs.Common.{◌≡◌, ◌++◌, map, drop}
use Rattle.tb_core.specs.Plain as core
use Rattle.tb_expand.specs.View.{view}
use Rattle.tb_expand.specs.calls.Numbering.{view_tables, so_far, made_each, made_values, trees_each, value_numbers}
use Rattle.tb_expand.proofs.numbers.nodes.+number.Given as goal

abbrev pub invariant-number_each-loop-node : goal.invariant-number_each-loop-node
invariant-number_each-loop-node l = record {
  trees : map core.view l.out.items ++ trees_each (view_tables l.tables) (so_far l.state) (map view (drop l.node-index l.nodes)) ≡ trees_each (view_tables l.tables) (so_far l.initial.state) (map view l.nodes);
  state : made_each (view_tables l.tables) (so_far l.state) (map view (drop l.node-index l.nodes)) ≡ made_each (view_tables l.tables) (so_far l.initial.state) (map view l.nodes);
}

abbrev pub invariant-number_values-loop-value : goal.invariant-number_values-loop-value
invariant-number_values-loop-value l = record {
  numbers : l.out.items ++ value_numbers (view_tables l.tables) (so_far l.state) (map view (drop l.value-index l.values)) ≡ value_numbers (view_tables l.tables) (so_far l.initial.state) (map view l.values);
  state : made_values (view_tables l.tables) (so_far l.state) (map view (drop l.value-index l.values)) ≡ made_values (view_tables l.tables) (so_far l.initial.state) (map view l.values);
}
