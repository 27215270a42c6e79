use Rattle.std.proofs.Common.{◌≡◌, ◌<◌, ◌^◌, drop}
use Rattle.tb_twobit.specs.Words.{digits_value}
use Rattle.tb_twobit.proofs.Digits.{value_from}
use Rattle.tb_twobit.proofs.words.value.Given as goal

abbrev pub invariant-loop-digit : goal.invariant-loop-digit
invariant-loop-digit l = (l.number < 2 ^ 64) × (value_from l.number (drop l.digit-index l.digits) ≡ digits_value l.digits)
