use Rattle.std.proofs.Common.{◌≡◌, drop, map}
use Rattle.tb_expand.specs.Names.{is_among}
use Rattle.tb_expand.specs.View.{view_name}
use Rattle.tb_expand.proofs.name.is_among.Given as goal

abbrev pub invariant-loop-other : goal.invariant-loop-other
invariant-loop-other l = is_among (view_name l.name) (map view_name (drop l.other-index l.names)) ≡ is_among (view_name l.name) (map view_name l.names)
