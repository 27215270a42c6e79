use Rattle.std.proofs.Common.{◌≡◌, drop}
use Rattle.tb_generate.specs.calls.Bits.{with_slots}
use Rattle.tb_generate.specs.calls.Bodies.{home_at}
use Rattle.tb_generate.proofs.body.mark.Given as goal

abbrev pub invariant-loop-variable : goal.invariant-loop-variable
invariant-loop-variable l =
    with_slots (home_at l.body) (drop l.variable-index l.variables) 0 l.slots.items ≡ with_slots (home_at l.body) l.variables 0 l.initial.slots.items
