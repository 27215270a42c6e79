use Rattle.std.proofs.Common.{◌≡◌, ◌++◌, drop, filter, map, not}
use Rattle.tb_ir.specs.AnfPlain.{view_proc}
use Rattle.tb_ir.specs.AnfRules.{is_form}
use Rattle.tb_codegen.specs.PlainCode.{entries}
use Rattle.tb_generate.proofs.parts.lambda_entries.Given as goal

abbrev pub invariant-loop-proc : goal.invariant-loop-proc
invariant-loop-proc l =
    l.out.items ++ entries l.number (filter (λ q. not (is_form q)) (map view_proc (drop l.proc-index l.procs)))
    ≡ entries 0 (filter (λ q. not (is_form q)) (map view_proc l.procs))
