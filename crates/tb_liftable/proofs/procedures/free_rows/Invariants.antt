use Rattle.std.proofs.Common.{◌≡◌, ℕ, ◌<◌, length}
use Rattle.tb_core.specs.FirstUses.{free_in_order}
use Rattle.tb_core.specs.View.{view_program}
use Rattle.tb_liftable.specs.calls.Given.{row_at}
use Rattle.tb_liftable.proofs.procedures.free_rows.Given as goal

abbrev pub invariant-loop-at : goal.invariant-loop-at
invariant-loop-at l = record {
  long : length l.rows.items ≡ l.at;
  known : (k : ℕ) → k < l.at → row_at l.rows.items k ≡ free_in_order (view_program l.program) k;
}
