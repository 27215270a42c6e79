use Rattle.std.proofs.Common.{drop}
use Rattle.tb_mac.proofs.LabelLemmas.{Placing}
use Rattle.tb_mac.proofs.assembler.places_of.Given as goal

abbrev pub invariant-loop-item : goal.invariant-loop-item
invariant-loop-item l = Placing l.items (drop l.item-index l.items) l.places.items l.count
