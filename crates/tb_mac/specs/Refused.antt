-- Why items are not assembled: the first label that stood before, or else the first that is named and stands nowhere.
use Rattle.std.specs.Prelude.{List}
use Rattle.tb_semantics.specs.Graph.{IsApart}
use Rattle.tb_mac.specs.declared.refusal.AsmRefusal.{AsmRefusal}
use Rattle.tb_mac.specs.declared.refusal.AsmRefusal.TheVariants.{NoLabel, TwiceLabel, NoMemory}
use Rattle.tb_mac.specs.declared.code.Parts.{Parts}
use Rattle.tb_mac.specs.declared.item.Item.{Item}
use Rattle.tb_mac.specs.Assemble.{IsTwice, IsMissing, labels}

abbrev pub IsRefused : Parts → List Item → AsmRefusal → Type 0
IsRefused parts items (TwiceLabel l) = IsTwice items l
IsRefused parts items (NoLabel l) = IsApart (labels items) × IsMissing parts items l
IsRefused parts items NoMemory = Unit {0}
