use Rattle.std.proofs.Common.{◌≡◌, ◌++◌, drop}
use Rattle.tb_generate.specs.calls.Bodies.{body_at}
use Rattle.tb_generate.specs.calls.Items.{write_items}
use Rattle.tb_generate.proofs.groups.put_writes.Given as goal

abbrev pub invariant-loop-index : goal.invariant-loop-index
invariant-loop-index l =
    l.code.items.items ++ write_items (body_at l.body) l.slots (drop l.index l.variables) (drop l.index l.lambdas)
    ≡ l.initial.code.items.items ++ write_items (body_at l.body) l.slots l.variables l.lambdas
