use Rattle.std.proofs.Common.{◌≡◌, take}
use Rattle.tb_moves.proofs.order.pending_of.Given as goal

abbrev pub invariant-loop-m : goal.invariant-loop-m
invariant-loop-m l = l.pending.items ≡ take l.m-index l.moves
