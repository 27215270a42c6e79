use Rattle.std.proofs.Common.{◌≡◌, ◌+◌, nat_eq, drop}
use Rattle.indexmap.specs.IndexSet.{contains}
use Rattle.tb_generate.specs.calls.Entries.{parameter_bits}
use Rattle.tb_generate.proofs.entries.parameter_registers.Given as goal

abbrev pub invariant-loop-index : goal.invariant-loop-index
invariant-loop-index l =
    parameter_bits (contains nat_eq l.named) l.registers (l.index + l.first) (drop l.index l.params)
    ≡ parameter_bits (contains nat_eq l.named) l.initial.registers l.first l.params
