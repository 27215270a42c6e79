-- What lambda expressions capture, by the index of the procs.
use Rattle.std.specs.Prelude.{ℕ, List, [], Option, Some, None, nat_eq, slice_get}
use Rattle.indexmap.specs.IndexMap.{get}
use Rattle.tb_ir.specs.declared.anf.AnfProc.{AnfProc}
use Rattle.tb_live.specs.declared.captures.Source.{Source}

abbrev pub captured_of : Option AnfProc → List ℕ
captured_of None = []
captured_of (Some q) = q.captured

-- what the proc at an index captures
abbrev pub captured_by_index : List AnfProc → Option ℕ → List ℕ
captured_by_index procs None = []
captured_by_index procs (Some i) = captured_of (slice_get procs i)

-- what a lambda expression captures
abbrev pub captured_at : Source → ℕ → List ℕ
captured_at s m = captured_by_index s.procs.now (get nat_eq s.lambdas.now m)
