use Rattle.std.proofs.Common.{◌≡◌, drop}
use Rattle.tb_expand.specs.Expressions.{are_fixnums_all}
use Rattle.tb_expand.specs.View.{data_of}
use Rattle.tb_expand.proofs.constants.+fixnums.Given as goal

abbrev pub invariant-have_fixnums-loop-datum : goal.invariant-have_fixnums-loop-datum
invariant-have_fixnums-loop-datum l = are_fixnums_all (data_of (drop l.datum-index l.datums)) ≡ are_fixnums_all (data_of l.datums)
