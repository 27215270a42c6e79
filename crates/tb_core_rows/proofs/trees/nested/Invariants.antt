use Rattle.std.proofs.Common.{ℕ, ◌+◌, List}
use Rattle.tb_core.specs.View.{view}
use Rattle.tb_core_rows.specs.Quiet.{IsQuiet}
use Rattle.tb_core_rows.proofs.trees.nested.Given as goal

abbrev pub invariant-loop : goal.invariant-loop
invariant-loop l = (within ls ss : List ℕ) (n : ℕ) → IsQuiet within ls ss n (view l.fn.inside) → IsQuiet within ls ss (n + l.counter) (view l.expr)
