use Rattle.std.proofs.Common.{◌≡◌, ◌++◌, map, drop}
use Rattle.tb_ir.specs.AnfPlain.{view_proc}
use Rattle.tb_ir.specs.Plain.{view_lambda}
use Rattle.tb_anf.specs.calls.Lines.{line_at}
use Rattle.tb_anf.specs.calls.Procs.{procs_by}
use Rattle.tb_anf.proofs.normal.lambda_procs.Given as goal

abbrev pub invariant-loop-index : goal.invariant-loop-index
invariant-loop-index l =
    map view_proc l.out.items ++ procs_by (line_at l.walk) l.tables l.index l.number (map view_lambda (drop l.index l.lambdas))
    ≡ procs_by (line_at l.walk) l.tables 0 l.initial.number (map view_lambda l.lambdas)
