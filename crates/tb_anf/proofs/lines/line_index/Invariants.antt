use Rattle.std.proofs.Common.{◌≡◌, ℕ, map, nat_eq, drop}
use Rattle.indexmap.specs.IndexMap.{get}
use Rattle.tb_core.specs.Order.{view_line}
use Rattle.tb_ir.specs.TreeMachine.{line_of}
use Rattle.tb_anf.specs.calls.Lines.{line_in}
use Rattle.tb_anf.proofs.lines.line_index.Given as goal

abbrev pub invariant-loop-at : goal.invariant-loop-at
invariant-loop-at l = (s : ℕ) → line_in l.order (get nat_eq l.index s) ≡ line_of (map view_line (drop l.at l.order)) s
