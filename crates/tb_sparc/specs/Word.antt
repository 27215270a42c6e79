-- The words of the instructions, and the reading of a word (SPARC V8 manual, 5.1 and appendix F).
use Rattle.std.specs.Prelude.{ℕ, suc, ◌+◌, ◌-◌, ◌*◌, ◌/◌, ◌%◌, ◌^◌, Bool, true, false, if◌then◌else◌, ◌==◌, nat_lt, ℤ, pos, negsuc, Option, Some, None, List, [], ◌∷◌, find}
use Rattle.tb_sparc.specs.Range.{is_shift}
use Rattle.tb_sparc.specs.declared.instr.AluOp.{AluOp}
use Rattle.tb_sparc.specs.declared.instr.AluOp.TheVariants.{Add, And, Or, Xor, Sub, Smul, Sdiv, AddCc, AndCc, OrCc, SubCc, TaddCc, TsubCc, Sll, Srl, Sra}
use Rattle.tb_sparc.specs.declared.instr.Operand.{Operand}
use Rattle.tb_sparc.specs.declared.instr.Operand.TheVariants.{Reg, Imm}
use Rattle.tb_sparc.specs.declared.instr.SparcInstr.{SparcInstr}
use Rattle.tb_sparc.specs.declared.instr.SparcInstr.TheVariants.{Call, Sethi, Branch, Alu, RdY, WrY, Jmpl, Load, Store, Trap}

-- bits `high` down to `low` of a word, bit 0 being the lowest
abbrev pub field : ℕ → ℕ → ℕ → ℕ
field word high low = word / 2 ^ low % 2 ^ (high + 1 - low)

-- a signed number in two's complement
abbrev pub signed_bits : ℕ → ℤ → ℕ
signed_bits bits (pos n) = n
signed_bits bits (negsuc n) = 2 ^ bits - suc n

-- the signed number that these bits are in two's complement
abbrev pub signed_from : ℕ → ℕ → ℤ
signed_from bits n = if nat_lt n (2 ^ (bits - 1)) then pos n else negsuc (2 ^ bits - suc n)

-- a truth value as a bit
abbrev pub bit_of : Bool → ℕ
bit_of false = 0
bit_of true = 1

-- op3 of an operation
abbrev pub code_of : AluOp → ℕ
code_of Add = 0x00
code_of And = 0x01
code_of Or = 0x02
code_of Xor = 0x03
code_of Sub = 0x04
code_of Smul = 0x0b
code_of Sdiv = 0x0f
code_of AddCc = 0x10
code_of AndCc = 0x11
code_of OrCc = 0x12
code_of SubCc = 0x14
code_of TaddCc = 0x20
code_of TsubCc = 0x21
code_of Sll = 0x25
code_of Srl = 0x26
code_of Sra = 0x27

-- bits 13 down to 0 for a second operand: bit 13 is set where it is a number
abbrev pub operand_bits : Operand → ℕ
operand_bits (Reg r) = r
operand_bits (Imm n) = 2 ^ 13 + signed_bits 13 n

-- the formats by their fields: op, rd, op2 and the low 22 bits
abbrev pub format2 : ℕ → ℕ → ℕ → ℕ → ℕ
format2 op rd op2 low = op * 2 ^ 30 + rd * 2 ^ 25 + op2 * 2 ^ 22 + low

-- op, rd, op3, rs1 and the low 14 bits
abbrev pub format3 : ℕ → ℕ → ℕ → ℕ → ℕ → ℕ
format3 op rd op3 rs1 low = op * 2 ^ 30 + rd * 2 ^ 25 + op3 * 2 ^ 19 + rs1 * 2 ^ 14 + low

-- the word of an instruction
abbrev pub word_of : SparcInstr → ℕ
word_of (Call distance) = 2 ^ 30 + signed_bits 30 distance
word_of (Sethi rd n) = format2 0 rd 4 n
word_of (Branch condition annul distance) = format2 0 (bit_of annul * 2 ^ 4 + condition) 2 (signed_bits 22 distance)
word_of (Alu op rd rs1 o) = format3 2 rd (code_of op) rs1 (operand_bits o)
word_of (RdY rd) = format3 2 rd 0x28 0 0
word_of (WrY rs1 o) = format3 2 0 0x30 rs1 (operand_bits o)
word_of (Jmpl rd rs1 o) = format3 2 rd 0x38 rs1 (operand_bits o)
word_of (Load byte rd rs1 o) = format3 3 rd (bit_of byte) rs1 (operand_bits o)
word_of (Store byte rd rs1 o) = format3 3 rd (4 + bit_of byte) rs1 (operand_bits o)
word_of (Trap service) = format3 2 8 0x3a 0 (2 ^ 13 + service)

-- every operation, in the order of the codes
abbrev pub operations : List AluOp
operations = Add ∷ And ∷ Or ∷ Xor ∷ Sub ∷ Smul ∷ Sdiv ∷ AddCc ∷ AndCc ∷ OrCc ∷ SubCc ∷ TaddCc ∷ TsubCc ∷ Sll ∷ Srl ∷ Sra ∷ []

-- the operation with this op3
abbrev pub operation_from : ℕ → Option AluOp
operation_from op3 = find (λ op. code_of op == op3) operations

-- the second operand in the low 14 bits: a register only where bits 12 down to 5 are zero
abbrev pub operand_from : ℕ → Option Operand
operand_from low =
    if nat_lt low 32 then Some (Reg low) else (if nat_lt low (2 ^ 13) then None else Some (Imm (signed_from 13 (low - 2 ^ 13))))

-- the count of a shift in the low 14 bits: bits 12 down to 5 are zero
abbrev pub count_from : ℕ → Option Operand
count_from low =
    if nat_lt low 32 then Some (Reg low)
    else (if nat_lt low (2 ^ 13) then None else (if nat_lt low (2 ^ 13 + 32) then Some (Imm (pos (low - 2 ^ 13))) else None))

-- the second operand of a shift, or of any other operation
abbrev pub second_from : Bool → ℕ → Option Operand
second_from true low = count_from low
second_from false low = operand_from low

-- the instruction with this operand, where there is one
abbrev pub with : {A : Type 0} → Option A → (A → SparcInstr) → Option SparcInstr
with None f = None
with (Some a) f = Some (f a)

-- the instruction of this operation, where there is one
abbrev pub with_operation : Option AluOp → ℕ → ℕ → ℕ → Option SparcInstr
with_operation None rd rs1 low = None
with_operation (Some op) rd rs1 low = with (second_from (is_shift op) low) (λ o. Alu op rd rs1 o)

-- op 0, by rd, op2 and the low 22 bits
abbrev pub op2_from : ℕ → ℕ → ℕ → Option SparcInstr
op2_from rd op2 low =
    if op2 == 4 then Some (Sethi rd low)
    else (if op2 == 2 then Some (Branch (rd % 16) (rd / 16 == 1) (signed_from 22 low)) else None)

-- op 2, by rd, op3, rs1 and the low 14 bits
abbrev pub op3_from : ℕ → ℕ → ℕ → ℕ → Option SparcInstr
op3_from rd op3 rs1 low =
    if op3 == 0x38 then with (operand_from low) (λ o. Jmpl rd rs1 o)
    else (if op3 == 0x28 then (if rs1 == 0 then (if low == 0 then Some (RdY rd) else None) else None)
    else (if op3 == 0x30 then (if rd == 0 then with (operand_from low) (λ o. WrY rs1 o) else None)
    else (if op3 == 0x3a then (if rd == 8 then (if rs1 == 0 then (if nat_lt low (2 ^ 13) then None else (if nat_lt low (2 ^ 13 + 7) then Some (Trap (low - 2 ^ 13)) else None)) else None) else None)
    else with_operation (operation_from op3) rd rs1 low)))

-- op 3, by rd, op3, rs1 and the low 14 bits
abbrev pub memory_from : ℕ → ℕ → ℕ → ℕ → Option SparcInstr
memory_from rd op3 rs1 low =
    if op3 == 0 then with (operand_from low) (λ o. Load false rd rs1 o)
    else (if op3 == 1 then with (operand_from low) (λ o. Load true rd rs1 o)
    else (if op3 == 4 then with (operand_from low) (λ o. Store false rd rs1 o)
    else (if op3 == 5 then with (operand_from low) (λ o. Store true rd rs1 o) else None)))

-- the instruction of a word, where there is one
abbrev pub instr_of : ℕ → Option SparcInstr
instr_of word =
    if field word 31 30 == 0 then op2_from (field word 29 25) (field word 24 22) (field word 21 0)
    else (if field word 31 30 == 1 then Some (Call (signed_from 30 (field word 29 0)))
    else (if field word 31 30 == 2 then op3_from (field word 29 25) (field word 24 19) (field word 18 14) (field word 13 0)
    else memory_from (field word 29 25) (field word 24 19) (field word 18 14) (field word 13 0)))
