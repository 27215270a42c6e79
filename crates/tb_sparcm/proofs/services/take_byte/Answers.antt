use Rattle.std.proofs.Common.{arith}
use Rattle.tb_macm.proofs.Inputs.{next_byte}
use Rattle.tb_sparcm.proofs.services.take_byte.Goals as goal

pub returns-in_default-clause-finds : goal.returns-in_default-clause-finds
returns-in_default-clause-finds g c =
    next_byte c.in_ok-take.field-0 c.take.new.buf _ _ (omega arith) (omega (arith, c.in_ok-take.ensures.bound)) (omega arith) c.in_ok-take.ensures.bytes
