use Rattle.std.proofs.Common.{◌≡◌, ◌++◌, drop}
use Rattle.tb_generate.specs.calls.Bodies.{body_at}
use Rattle.tb_generate.specs.calls.Items.{make_items}
use Rattle.tb_generate.proofs.groups.put_makes.Given as goal

abbrev pub invariant-loop-index : goal.invariant-loop-index
invariant-loop-index l =
    l.code.items.items ++ make_items (body_at l.body) l.slots.items (drop l.index l.variables) (drop l.index l.lambdas)
    ≡ l.initial.code.items.items ++ make_items (body_at l.body) l.initial.slots.items l.variables l.lambdas
