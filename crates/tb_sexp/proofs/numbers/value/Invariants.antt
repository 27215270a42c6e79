use Rattle.std.proofs.Common.{◌≡◌, ◌<◌, drop}
use Rattle.tb_sexp.specs.Numbers.{value_from, value_of}
use Rattle.tb_sexp.proofs.numbers.value.Given as goal

abbrev pub invariant-loop-b : goal.invariant-loop-b
invariant-loop-b l = (l.number < 536870913) × (value_from l.base l.number (drop l.b-index l.digits) ≡ value_of l.base l.digits)
