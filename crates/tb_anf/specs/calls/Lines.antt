-- The lines of an order, found by the table of a walk.
use Rattle.std.specs.Prelude.{ℕ, List, Option, Some, None, nat_eq, slice_get}
use Rattle.indexmap.specs.IndexMap.{get}
use Rattle.tb_core.specs.declared.order.OrderLine.{OrderLine}
use Rattle.tb_anf.specs.declared.lines.Walk.{Walk}

-- the line at an index, where there is one
abbrev pub order_at : Option OrderLine → Option (List ℕ)
order_at None = None
order_at (Some l) = Some l.order

abbrev pub line_in : List OrderLine → Option ℕ → Option (List ℕ)
line_in order None = None
line_in order (Some i) = order_at (slice_get order i)

-- the line that a walk finds for a number
abbrev pub line_at : Walk → ℕ → Option (List ℕ)
line_at w s = line_in w.order.now (get nat_eq w.index.now s)
