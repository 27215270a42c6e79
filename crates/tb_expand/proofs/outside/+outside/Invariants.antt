use Rattle.std.proofs.Common.{◌≡◌, drop, map}
use Rattle.tb_expand.specs.Outside.{first_outside_of}
use Rattle.tb_expand.specs.View.{nodes, text_of, view}
use Rattle.tb_expand.proofs.outside.+outside.Given as goal

abbrev pub invariant-first_outside_of-loop-part : goal.invariant-first_outside_of-loop-part
invariant-first_outside_of-loop-part l =
    first_outside_of (map text_of l.defined) (nodes (map view (drop l.part-index l.parts))) ≡ first_outside_of (map text_of l.defined) (nodes (map view l.parts))
