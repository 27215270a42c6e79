use Rattle.std.proofs.Common.{◌≡◌, ◌+◌, ◌≤◌, drop, filter, length, map, not}
use Rattle.tb_ir.specs.AnfPlain.{view_proc}
use Rattle.tb_ir.specs.AnfRules.{is_form}
use Rattle.tb_generate.proofs.program.lambda_count.Given as goal

abbrev pub invariant-loop-proc : goal.invariant-loop-proc
invariant-loop-proc l = record {
  count : l.count + length (filter (λ q. not (is_form q)) (map view_proc (drop l.proc-index l.procs))) ≡ length (filter (λ q. not (is_form q)) (map view_proc l.procs));
  few : l.count ≤ l.proc-index;
}
