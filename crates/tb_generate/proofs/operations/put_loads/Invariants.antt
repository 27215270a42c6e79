use Rattle.std.proofs.Common.{◌≡◌, ◌+◌, ◌++◌, map, drop}
use Rattle.tb_ir.specs.AnfPlain.{view_atom}
use Rattle.tb_generate.specs.calls.Bodies.{body_at}
use Rattle.tb_generate.specs.calls.Items.{loaded_bits, loads_items}
use Rattle.tb_generate.proofs.operations.put_loads.Given as goal

abbrev pub invariant-loop-index : goal.invariant-loop-index
invariant-loop-index l = record {
  items : l.code.items.items ++ loads_items (body_at l.body) l.slots l.registers (l.index + l.first) (map view_atom (drop l.index l.atoms))
      ≡ l.initial.code.items.items ++ loads_items (body_at l.body) l.slots l.initial.registers l.first (map view_atom l.atoms);
  bits : loaded_bits l.registers (l.index + l.first) (map view_atom (drop l.index l.atoms)) ≡ loaded_bits l.initial.registers l.first (map view_atom l.atoms);
}
