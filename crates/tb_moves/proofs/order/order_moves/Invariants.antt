use Rattle.std.proofs.Common.{◌+◌, ◌*◌, length}
use Rattle.tb_moves.proofs.Progress.{IsUnderWay}
use Rattle.tb_moves.proofs.order.order_moves.Given as goal

abbrev pub invariant-loop-top : goal.invariant-loop-top
invariant-loop-top l = IsUnderWay l.moves l.scratch l.origin l.path l.pending.items l.out

abbrev pub decreases-loop-top : goal.decreases-loop-top
decreases-loop-top l = 2 * length l.pending.items + length l.path
