use Rattle.std.proofs.Common.{◌≡◌, ◌++◌, drop}
use Rattle.tb_generate.specs.calls.Bodies.{body_at}
use Rattle.tb_generate.specs.calls.Entries.{captured_items}
use Rattle.tb_generate.proofs.entries.put_captured.Given as goal

abbrev pub invariant-loop-index : goal.invariant-loop-index
invariant-loop-index l =
    l.code.items.items ++ captured_items (body_at l.body) l.operands l.slots.items l.index (drop l.index l.captured)
    ≡ l.initial.code.items.items ++ captured_items (body_at l.body) l.operands l.initial.slots.items 0 l.captured
