use Rattle.std.proofs.Common.{◌≡◌, ◌++◌, drop, map}
use Rattle.tb_expand.specs.Outside.{defined_by_all}
use Rattle.tb_expand.specs.View.{nodes, text_of, view}
use Rattle.tb_expand.proofs.outside.defined_by.Given as goal

abbrev pub invariant-loop-part : goal.invariant-loop-part
invariant-loop-part l = map text_of l.names.items ++ defined_by_all (nodes (map view (drop l.part-index l.parts))) ≡ defined_by_all (nodes (map view l.parts))
