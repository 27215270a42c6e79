use Rattle.std.proofs.Common.{◌≡◌, ℕ, [], length, map, drop}
use Rattle.tb_core.specs.FirstUses.{first_of}
use Rattle.tb_core.specs.Lifting.{view_lifted}
use Rattle.tb_ir.specs.FreeVariables.{lambdas_free}
use Rattle.tb_ir.specs.Plain.{view_lambda}
use Rattle.tb_anf.specs.calls.Captures.{row_at}
use Rattle.tb_anf.proofs.captures.captured_rows.Given as goal

abbrev pub invariant-loop-at : goal.invariant-loop-at
invariant-loop-at l = record {
  long : length l.rows.items ≡ length l.lambdas;
  known : (k : ℕ) → row_at l.rows.items k ≡ first_of [] (lambdas_free (map view_lifted l.set) (map view_lambda (drop l.at l.lambdas)) l.at k);
}
