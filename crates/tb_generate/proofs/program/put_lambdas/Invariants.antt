use Rattle.std.proofs.Common.{◌≡◌, ◌++◌, drop, filter, map, not}
use Rattle.tb_ir.specs.AnfPlain.{view_proc}
use Rattle.tb_ir.specs.AnfRules.{is_form}
use Rattle.tb_generate.specs.calls.Entries.{lambdas_items}
use Rattle.tb_generate.specs.calls.Programs.{body_for}
use Rattle.tb_generate.proofs.program.put_lambdas.Given as goal

abbrev pub invariant-loop-proc : goal.invariant-loop-proc
invariant-loop-proc l =
    l.code.items.items ++ lambdas_items (body_for l.source) l.number (filter (λ q. not (is_form q)) (map view_proc (drop l.proc-index l.procs))) l.label
    ≡ l.initial.code.items.items ++ lambdas_items (body_for l.source) 0 (filter (λ q. not (is_form q)) (map view_proc l.procs)) l.initial.label
