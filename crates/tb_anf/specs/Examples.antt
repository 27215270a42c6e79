-- What it means that a program in A-normal form runs as its source does.
use Rattle.std.specs.Prelude.{◌≡◌, ℕ, List, []}
use Rattle.tb_prim.specs.declared.event.Event.{Event}
use Rattle.tb_semantics.specs.Runs.{after}
use Rattle.tb_ir.specs.AnfMachine.{anf_machine}
use Rattle.tb_ir.specs.AnfTree.{AnfTree}
use Rattle.tb_ir.specs.Examples.{Ordered}
use Rattle.tb_ir.specs.Machine.{events_of}
use Rattle.tb_anf.specs.NormalForm.{normal_form}

abbrev pub normal : Ordered → AnfTree
normal o = normal_form o.tree o.order

-- after some steps without input, the program in A-normal form has emitted these events
abbrev pub NormalEmits : Ordered → List Event → Type 0
NormalEmits o events = (n : ℕ) × (events_of (after (anf_machine (normal o) []) n) ≡ events)
