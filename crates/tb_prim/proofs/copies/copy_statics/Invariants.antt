use Rattle.std.proofs.Common.{◌≡◌, ◌++◌, drop}
use Rattle.tb_prim.proofs.copies.copy_statics.Given as goal

abbrev pub invariant-loop-object : goal.invariant-loop-object
invariant-loop-object l = l.out.items ++ drop l.object-index l.objects ≡ l.objects
