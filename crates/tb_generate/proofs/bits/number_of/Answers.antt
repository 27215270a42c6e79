use Rattle.std.proofs.Common.{arith}
use Rattle.std.proofs.Math.Nat.{pow-le-pow_right}
use Rattle.tb_generate.proofs.bits.number_of.Goals as goal

pub overflow_add-number : goal.overflow_add-number
overflow_add-number c =
    let h = pow-le-pow_right {n = 2} (omega arith) {i = c.loop-bit.bit-index} {j = 30} (omega (arith, c.requires, c.loop-bit-test.true)) in
    omega (arith, h, c.loop-bit.invariant.below, c.loop-bit.invariant.power)

pub overflow_mul-weight : goal.overflow_mul-weight
overflow_mul-weight c =
    let h = pow-le-pow_right {n = 2} (omega arith) {i = c.loop-bit.bit-index} {j = 30} (omega (arith, c.requires, c.loop-bit-test.true)) in
    omega (arith, h, c.loop-bit.invariant.power)
