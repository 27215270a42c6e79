use Rattle.std.proofs.Common.{◌≡◌, take}
use Rattle.tb_mac.proofs.copy.copy_statics.Given as goal

abbrev pub invariant-loop-object : goal.invariant-loop-object
invariant-loop-object l = l.copy.items ≡ take l.object-index l.statics
