use Rattle.std.proofs.Common.{◌≡◌, length}
use Rattle.std.specs.Prelude.{All}
use Rattle.tb_mac.specs.Rules.{MapOk}
use Rattle.tb_macm_rows.proofs.code.maps_of.Given as goal

abbrev pub invariant-loop-map : goal.invariant-loop-map
invariant-loop-map l = (length l.maps.items ≡ l._map) × All MapOk l.maps.items
