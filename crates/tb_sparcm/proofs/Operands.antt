-- Operands of instructions whose fields fit.
use Rattle.std.proofs.Common.{Bool, true, false}
use Rattle.tb_sparc.specs.declared.instr.Operand.{Operand}
use Rattle.tb_sparc.specs.declared.instr.Operand.TheVariants.{Reg, Imm}
use Rattle.tb_sparc.specs.Range.{IsOperand, IsSecond}
use Rattle.tb_sparcm.specs.calls.Quiet.{IsReadable}

pub operand_readable : (o : Operand) → IsOperand o → IsReadable o
operand_readable (Reg r) h = h
operand_readable (Imm n) h = tt

pub second_readable : (shift : Bool) (o : Operand) → IsSecond shift o → IsReadable o
second_readable true (Reg r) h = h
second_readable true (Imm n) h = tt
second_readable false (Reg r) h = h
second_readable false (Imm n) h = tt
