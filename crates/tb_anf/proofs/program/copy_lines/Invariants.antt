use Rattle.std.proofs.Common.{◌≡◌, ◌++◌, drop}
use Rattle.tb_anf.proofs.program.copy_lines.Given as goal

abbrev pub invariant-loop-line : goal.invariant-loop-line
invariant-loop-line l = l.out.items ++ drop l.line-index l.lines ≡ l.lines
