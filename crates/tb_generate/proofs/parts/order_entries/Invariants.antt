use Rattle.std.proofs.Common.{◌≡◌, ◌++◌, drop, map}
use Rattle.tb_core.specs.Order.{view_line}
use Rattle.tb_codegen.specs.PlainCode.{order_entry}
use Rattle.tb_generate.proofs.parts.order_entries.Given as goal

abbrev pub invariant-loop-line : goal.invariant-loop-line
invariant-loop-line l = l.out.items ++ map order_entry (map view_line (drop l.line-index l.lines)) ≡ map order_entry (map view_line l.lines)
