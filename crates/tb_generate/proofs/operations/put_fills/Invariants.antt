use Rattle.std.proofs.Common.{◌≡◌, ◌++◌, drop}
use Rattle.tb_generate.specs.calls.Bodies.{body_at}
use Rattle.tb_generate.specs.calls.Items.{fill_items}
use Rattle.tb_generate.proofs.operations.put_fills.Given as goal

abbrev pub invariant-loop-index : goal.invariant-loop-index
invariant-loop-index l =
    l.code.items.items ++ fill_items (body_at l.body) l.waiting l.index (drop l.index l.variables)
    ≡ l.initial.code.items.items ++ fill_items (body_at l.body) l.waiting 0 l.variables
