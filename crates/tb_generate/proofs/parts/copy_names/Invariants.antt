use Rattle.std.proofs.Common.{◌≡◌, take}
use Rattle.tb_generate.proofs.parts.copy_names.Given as goal

abbrev pub invariant-loop-global : goal.invariant-loop-global
invariant-loop-global l = l.copy.items ≡ take l.global-index l.globals
