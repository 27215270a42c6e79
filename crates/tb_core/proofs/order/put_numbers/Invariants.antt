use Rattle.std.proofs.Common.{◌≡◌, ◌+◌, ◌++◌, map, drop}
use Rattle.tb_core.specs.OperandOrder.{numbers}
use Rattle.tb_core.specs.calls.Marks.{is_marked}
use Rattle.tb_core.specs.View.{view, trees}
use Rattle.tb_core.proofs.order.put_numbers.Given as goal

abbrev pub invariant-loop-index : goal.invariant-loop-index
invariant-loop-index l =
    l.out.items ++ numbers (is_marked l.marked) l.simple (l.from + l.index) (trees (map view (drop l.index l.exprs))) ≡ l.initial.out.items ++ numbers (is_marked l.marked) l.simple l.from (trees (map view l.exprs))
