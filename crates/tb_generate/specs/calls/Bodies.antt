-- What is known of a body's variables and of what lambdas capture.
use Rattle.std.specs.Prelude.{ℕ, List, [], Option, Some, None, nat_eq, slice_get}
use Rattle.indexmap.specs.IndexMap.{get}
use Rattle.tb_ir.specs.declared.anf.AnfProc.{AnfProc}
use Rattle.tb_codegen.specs.Operations.{Body}
use Rattle.tb_generate.specs.declared.body.Body.{Body as BodyCode}

-- what is found, or else this
abbrev pub or_else : Option ℕ → ℕ → ℕ
or_else None d = d
or_else (Some n) d = n

abbrev pub home_at : BodyCode → ℕ → ℕ
home_at b x = or_else (get nat_eq b.slots.now (or_else (get nat_eq b.origins.now x) x)) b.size

abbrev pub captured_of : Option AnfProc → List ℕ
captured_of None = []
captured_of (Some q) = q.captured

-- what the proc at an index captures
abbrev pub captured_in : List AnfProc → Option ℕ → List ℕ
captured_in procs None = []
captured_in procs (Some i) = captured_of (slice_get procs i)

abbrev pub captured_at : BodyCode → ℕ → List ℕ
captured_at b m = captured_in b.procs.now (get nat_eq b.lambdas.now m)

abbrev pub body_at : BodyCode → Body
body_at b = record { captured = captured_at b; statics = b.statics.now; home = home_at b; size = b.size }
