use Rattle.std.proofs.Common.{◌≡◌, map, take}
use Rattle.tb_expand.specs.View.{view_name, binder_name}
use Rattle.tb_expand.proofs.node.names_of.Given as goal

abbrev pub invariant-loop-binder : goal.invariant-loop-binder
invariant-loop-binder l = map view_name l.names.items ≡ map binder_name (take l.binder-index l.binders)
