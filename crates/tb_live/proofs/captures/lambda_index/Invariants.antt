use Rattle.std.proofs.Common.{◌≡◌, ℕ, nat_eq, drop, map}
use Rattle.indexmap.specs.IndexMap.{get}
use Rattle.tb_ir.specs.AnfMachine.{captured_by, proc_of}
use Rattle.tb_ir.specs.AnfPlain.{view_proc}
use Rattle.tb_live.specs.calls.Captures.{captured_by_index}
use Rattle.tb_live.proofs.captures.lambda_index.Given as goal

abbrev pub invariant-loop-at : goal.invariant-loop-at
invariant-loop-at l = (m : ℕ) → captured_by_index l.procs (get nat_eq l.index m) ≡ captured_by (proc_of (map view_proc (drop l.at l.procs)) m)
