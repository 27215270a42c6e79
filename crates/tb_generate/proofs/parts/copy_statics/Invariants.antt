use Rattle.std.proofs.Common.{◌≡◌, take}
use Rattle.tb_generate.proofs.parts.copy_statics.Given as goal

abbrev pub invariant-loop-object : goal.invariant-loop-object
invariant-loop-object l = l.copy.items ≡ take l.object-index l.statics
