-- What the bodies of a program's procs stand on.
use Rattle.std.specs.Prelude.{ℕ, List, filter, nat_eq, not}
use Rattle.indexmap.specs.IndexMap.{get}
use Rattle.tb_prim.specs.declared.constant.Static.{Static}
use Rattle.tb_ir.specs.AnfTree.{ProcTree}
use Rattle.tb_ir.specs.AnfMachine.{captured_by, proc_of}
use Rattle.tb_ir.specs.AnfRules.{is_form}
use Rattle.tb_mac.specs.declared.item.Item.{Item}
use Rattle.tb_codegen.specs.Homes.{slot_of, frame_size}
use Rattle.tb_codegen.specs.Operations.{Body}
use Rattle.tb_generate.specs.declared.program.Source.{Source}
use Rattle.tb_generate.specs.calls.Bodies.{captured_in}
use Rattle.tb_generate.specs.calls.Entries.{program_items}

-- a body by what lambdas capture and the static objects
abbrev pub body_with : (ℕ → List ℕ) → List Static → ProcTree → Body
body_with captured statics q = record { captured = captured; statics = statics; home = slot_of q; size = frame_size q }

abbrev pub body_for : Source → ProcTree → Body
body_for s q = body_with (λ m. captured_in s.procs.now (get nat_eq s.lambdas.now m)) s.statics.now q

-- the items of procs
abbrev pub procs_items : List ProcTree → List Static → List Item
procs_items procs statics =
    program_items (body_with (λ m. captured_by (proc_of procs m)) statics) (filter is_form procs) (filter (λ q. not (is_form q)) procs)
