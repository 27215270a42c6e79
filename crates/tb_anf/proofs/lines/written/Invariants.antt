use Rattle.std.proofs.Common.{◌≡◌, ◌+◌, ◌-◌, ◌++◌}
use Rattle.tb_ir.specs.TreeMachine.{numbers_from}
use Rattle.tb_anf.proofs.lines.written.Given as goal

abbrev pub invariant-loop-index : goal.invariant-loop-index
invariant-loop-index l = l.out.items ++ numbers_from (l.first + l.index) (l.count - l.index) ≡ numbers_from l.first l.count
