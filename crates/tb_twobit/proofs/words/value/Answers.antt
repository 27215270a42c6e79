use Rattle.tb_twobit.proofs.Digits.{value_from-too_large}
use Rattle.tb_twobit.specs.Words.{digits_value}
use Rattle.tb_twobit.proofs.words.value.Goals as goal

pub returns-in-None : goal.returns-in-None
returns-in-None c =
    value_from-too_large c.loop-digit.number c.loop-digit.digit-index (digits_value c.args.digits.now) c.args.digits.now
    c.loop-digit-test.true c.loop-digit.invariant.1 c.in-None.ensures
