use Rattle.std.proofs.Common.{◌≡◌, ◌++◌, drop}
use Rattle.tb_generate.specs.calls.Bodies.{body_at}
use Rattle.tb_generate.specs.calls.Items.{word_items}
use Rattle.tb_generate.proofs.groups.put_words.Given as goal

abbrev pub invariant-loop-index : goal.invariant-loop-index
invariant-loop-index l =
    l.code.items.items ++ word_items (body_at l.body) l.slots l.index (drop l.index l.variables)
    ≡ l.initial.code.items.items ++ word_items (body_at l.body) l.slots 0 l.variables
