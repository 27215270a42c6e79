use Rattle.tb_sexp.specs.Numbers.{value_of}
use Rattle.tb_sexp.proofs.Digits.{value_from-too_large}
use Rattle.tb_sexp.proofs.numbers.value.Goals as goal

pub returns-in-None : goal.returns-in-None
returns-in-None c =
    value_from-too_large c.args.base c.loop-b.number c.loop-b.b-index (value_of c.args.base c.args.digits.now) 536870913 c.args.digits.now
    c.requires.0 c.loop-b-test.true c.loop-b.invariant.1 c.in-None.ensures
