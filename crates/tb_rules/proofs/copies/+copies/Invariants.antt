use Rattle.std.proofs.Common.{◌≡◌, ◌++◌, drop}
use Rattle.tb_rules.proofs.copies.+copies.Given as goal

abbrev pub invariant-copy_data-loop-datum : goal.invariant-copy_data-loop-datum
invariant-copy_data-loop-datum l = l.out.items ++ drop l.datum-index l.datums ≡ l.datums
