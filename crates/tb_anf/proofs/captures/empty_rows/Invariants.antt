use Rattle.std.proofs.Common.{◌≡◌, ℕ, [], length}
use Rattle.tb_anf.specs.calls.Captures.{row_at}
use Rattle.tb_anf.proofs.captures.empty_rows.Given as goal

abbrev pub invariant-loop-at : goal.invariant-loop-at
invariant-loop-at l = record { empty : (k : ℕ) → row_at l.rows.items k ≡ []; long : length l.rows.items ≡ l.at }
