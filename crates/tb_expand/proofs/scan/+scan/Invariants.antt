use Rattle.std.proofs.Common.{◌+◌, ◌*◌, drop}
use Rattle.tb_sexp.specs.View.{view}
use Rattle.tb_expand.specs.Limits.{within}
use Rattle.tb_expand.specs.View.{data_of, view_lists, view_state}
use Rattle.tb_expand.specs.calls.Scanned.{Goes}
use Rattle.tb_expand.proofs.Sizes.{size, size_all}
use Rattle.tb_expand.proofs.scan.+scan.Given as goal

abbrev pub decreases-scan_begin : goal.decreases-scan_begin
decreases-scan_begin l = 2 * size_all (data_of l.items.now) + 2

abbrev pub decreases-scan_item : goal.decreases-scan_item
decreases-scan_item l = 2 * size (view l.item.now)

abbrev pub decreases-scan_items : goal.decreases-scan_items
decreases-scan_items l = 2 * size_all (data_of l.items.now) + 1

abbrev pub invariant-scan_items-loop-i : goal.invariant-scan_items-loop-i
invariant-scan_items-loop-i l =
    Goes (view_state l.initial.state) l.context (data_of l.items) (view_lists l.initial.found) (view_state l.state) (within l.scope l.context) (data_of (drop l.i l.items)) (view_lists l.found)
