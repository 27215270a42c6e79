-- Code of the MAC machine as it runs: what it refers to, its instructions, their live maps, and the places of
-- those that can fail.
use Rattle.std.specs.Prelude.{List}
use Rattle.tb_mac.specs.declared.code.Instr.{Instr}
use Rattle.tb_mac.specs.declared.code.LiveMap.{LiveMap}
use Rattle.tb_mac.specs.declared.code.Parts.{Parts}
use Rattle.tb_mac.specs.declared.code.PlaceEntry.{PlaceEntry}

pub record Assembled : Type 0 where
  pub parts : Parts
  pub code : List Instr
  pub maps : List LiveMap
  pub places : List PlaceEntry
