use Rattle.std.proofs.Common.{◌≡◌, map, drop}
use Rattle.tb_expand.specs.View.{view}
use Rattle.tb_expand.specs.calls.Numbering.{view_tables, seen_each}
use Rattle.tb_expand.proofs.numbers.tables.+note.Given as goal

abbrev pub invariant-note_each-loop-node : goal.invariant-note_each-loop-node
invariant-note_each-loop-node l = seen_each (view_tables l.tables) (map view (drop l.node-index l.nodes)) ≡ seen_each (view_tables l.initial.tables) (map view l.nodes)

abbrev pub invariant-note_values-loop-value : goal.invariant-note_values-loop-value
invariant-note_values-loop-value l = seen_each (view_tables l.tables) (map view (drop l.value-index l.values)) ≡ seen_each (view_tables l.initial.tables) (map view l.values)
