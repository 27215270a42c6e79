use Rattle.std.proofs.Common.{◌≡◌, ◌++◌, drop}
use Rattle.tb_mac.specs.Assemble.{item_maps}
use Rattle.tb_mac.proofs.assembler.maps_of.Given as goal

abbrev pub invariant-loop-item : goal.invariant-loop-item
invariant-loop-item l = l.maps.items ++ item_maps (drop l.item-index l.items) ≡ item_maps l.items
