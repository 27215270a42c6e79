use Rattle.std.proofs.Common.{◌≡◌, take}
use Rattle.tb_mac.proofs.copy.copy_orders.Given as goal

abbrev pub invariant-loop-entry : goal.invariant-loop-entry
invariant-loop-entry l = l.copy.items ≡ take l.entry-index l.order
