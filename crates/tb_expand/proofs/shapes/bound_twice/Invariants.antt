use Rattle.std.proofs.Common.{◌≡◌, map, drop}
use Rattle.tb_expand.specs.Names.{again, bound_twice}
use Rattle.tb_expand.specs.View.{view_binder, view_name}
use Rattle.tb_expand.proofs.shapes.bound_twice.Given as goal

abbrev pub invariant-loop-binder : goal.invariant-loop-binder
invariant-loop-binder l = again (map view_name l.seen.items) (map view_binder (drop l.binder-index l.binders)) ≡ bound_twice (map view_binder l.binders)
