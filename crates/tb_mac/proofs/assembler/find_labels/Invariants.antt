use Rattle.std.proofs.Common.{◌≡◌, ◌+◌, ◌++◌, drop, length}
use Rattle.tb_mac.proofs.LabelLemmas.{Noting}
use Rattle.tb_mac.proofs.assembler.find_labels.Given as goal

abbrev pub invariant-loop-item : goal.invariant-loop-item
invariant-loop-item l = Noting l.items (drop l.item-index l.items) l.found.entries l.count
