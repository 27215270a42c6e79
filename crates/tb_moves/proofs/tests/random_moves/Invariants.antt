use Rattle.std.proofs.Common.{◌≡◌, ◌≤◌, length}
use Rattle.tb_moves.proofs.Numbers.{IsNumbered}
use Rattle.tb_moves.proofs.tests.random_moves.Given as goal

abbrev pub invariant-loop-number : goal.invariant-loop-number
invariant-loop-number l = (length l.moves.items ≡ l.number) × (l.number-end ≤ 15) × IsNumbered l.moves.items
