use Rattle.std.proofs.Common.{◌≡◌, ◌++◌, ◌+◌, nat_eq, drop}
use Rattle.indexmap.specs.IndexSet.{contains}
use Rattle.tb_generate.specs.calls.Bodies.{body_at}
use Rattle.tb_generate.specs.calls.Entries.{parameter_items}
use Rattle.tb_generate.proofs.entries.put_parameters.Given as goal

abbrev pub invariant-loop-index : goal.invariant-loop-index
invariant-loop-index l =
    l.code.items.items ++ parameter_items (body_at l.body) (contains nat_eq l.named) l.slots.items (l.index + 1) (drop l.index l.params)
    ≡ l.initial.code.items.items ++ parameter_items (body_at l.body) (contains nat_eq l.named) l.initial.slots.items 1 l.params
