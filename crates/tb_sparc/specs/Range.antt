-- The instructions whose fields fit their words.
use Rattle.std.specs.Prelude.{ℕ, ◌-◌, ◌^◌, ◌<◌, Bool, true, false, ℤ, pos, negsuc}
use Rattle.tb_sparc.specs.declared.instr.AluOp.{AluOp}
use Rattle.tb_sparc.specs.declared.instr.AluOp.TheVariants.{Sll, Srl, Sra}
use Rattle.tb_sparc.specs.declared.instr.Operand.{Operand}
use Rattle.tb_sparc.specs.declared.instr.Operand.TheVariants.{Reg, Imm}
use Rattle.tb_sparc.specs.declared.instr.SparcInstr.{SparcInstr}
use Rattle.tb_sparc.specs.declared.instr.SparcInstr.TheVariants.{Call, Sethi, Branch, Alu, RdY, WrY, Jmpl, Load, Store, Trap}

-- a signed number fits this many bits, in two's complement
abbrev pub FitsIn : ℕ → ℤ → Type 0
FitsIn bits (pos n) = n < 2 ^ (bits - 1)
FitsIn bits (negsuc n) = n < 2 ^ (bits - 1)

-- the operation shifts, and so takes a count of 5 bits
abbrev pub is_shift : AluOp → Bool
is_shift Sll = true
is_shift Srl = true
is_shift Sra = true
is_shift _ = false

-- a second operand: one of 32 registers, or a signed number of 13 bits
abbrev pub IsOperand : Operand → Type 0
IsOperand (Reg r) = r < 32
IsOperand (Imm n) = FitsIn 13 n

-- the count of a shift: one of 32 registers, or a number below 32
abbrev pub IsCount : Operand → Type 0
IsCount (Reg r) = r < 32
IsCount (Imm (pos n)) = n < 32
IsCount (Imm (negsuc n)) = ⊥

-- the second operand of a shift, or of any other operation
abbrev pub IsSecond : Bool → Operand → Type 0
IsSecond true o = IsCount o
IsSecond false o = IsOperand o

-- each field of the instruction fits its place in the word (SPARC V8 manual, 5.1; the services of `ta` are this project's own)
abbrev pub IsInRange : SparcInstr → Type 0
IsInRange (Call distance) = FitsIn 30 distance
IsInRange (Sethi rd n) = (rd < 32) × (n < 2 ^ 22)
IsInRange (Branch condition annul distance) = (condition < 16) × FitsIn 22 distance
IsInRange (Alu op rd rs1 o) = (rd < 32) × (rs1 < 32) × IsSecond (is_shift op) o
IsInRange (RdY rd) = rd < 32
IsInRange (WrY rs1 o) = (rs1 < 32) × IsOperand o
IsInRange (Jmpl rd rs1 o) = (rd < 32) × (rs1 < 32) × IsOperand o
IsInRange (Load byte rd rs1 o) = (rd < 32) × (rs1 < 32) × IsOperand o
IsInRange (Store byte rd rs1 o) = (rd < 32) × (rs1 < 32) × IsOperand o
IsInRange (Trap service) = service < 7
