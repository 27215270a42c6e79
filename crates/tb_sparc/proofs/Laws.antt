-- What is encoded decodes again, and what decodes encodes back.
use Rattle.std.proofs.Common.{ℕ, suc, ◌≡◌, ◌+◌, ◌-◌, ◌*◌, ◌/◌, ◌%◌, ◌^◌, ◌<◌, Bool, true, false, ◌==◌, pos, negsuc, Option, Some, None, refl, arith, nat_lt, ◌∙◌, subst, ◌≢◌, inl, inr}
use Rattle.std.proofs.lemmas.Bool.{cond_both, ltb-true, ltb-false, eqb-true, eqb-false}
use Rattle.std.proofs.lemmas.Bool.Decides.{eqb_tells, nat_tests}
use Rattle.tb_sparc.specs.declared.instr.AluOp.{AluOp}
use Rattle.tb_sparc.specs.declared.instr.AluOp.TheVariants.{Add, And, Or, Xor, Sub, Smul, Sdiv, AddCc, AndCc, OrCc, SubCc, TaddCc, TsubCc, Sll, Srl, Sra}
use Rattle.tb_sparc.specs.declared.instr.Operand.{Operand}
use Rattle.tb_sparc.specs.declared.instr.Operand.TheVariants.{Reg, Imm}
use Rattle.tb_sparc.specs.declared.instr.SparcInstr.{SparcInstr}
use Rattle.tb_sparc.specs.declared.instr.SparcInstr.TheVariants.{Call, Sethi, Branch, Alu, RdY, WrY, Jmpl, Load, Store, Trap}
use Rattle.tb_sparc.specs.Range.{FitsIn, IsInRange, IsOperand, IsCount, IsSecond, is_shift}
use Rattle.tb_sparc.specs.Word.{field, word_of, instr_of, operand_bits, operand_from, count_from, second_from, signed_bits, signed_from, code_of, operation_from, op2_from, op3_from, memory_from, format3, bit_of, with, with_operation}

-- fields of a word
pub op_3 : (op rd op3 rs1 low : ℕ) → op < 4 → rd < 32 → op3 < 64 → rs1 < 32 → low < 2 ^ 14 → field (format3 op rd op3 rs1 low) 31 30 ≡ op
op_3 op rd op3 rs1 low a b c d e = omega arith

pub rd_3 : (op rd op3 rs1 low : ℕ) → op < 4 → rd < 32 → op3 < 64 → rs1 < 32 → low < 2 ^ 14 → field (format3 op rd op3 rs1 low) 29 25 ≡ rd
rd_3 op rd op3 rs1 low a b c d e = omega arith

pub op3_3 : (op rd op3 rs1 low : ℕ) → op < 4 → rd < 32 → op3 < 64 → rs1 < 32 → low < 2 ^ 14 → field (format3 op rd op3 rs1 low) 24 19 ≡ op3
op3_3 op rd op3 rs1 low a b c d e = omega arith

pub rs1_3 : (op rd op3 rs1 low : ℕ) → op < 4 → rd < 32 → op3 < 64 → rs1 < 32 → low < 2 ^ 14 → field (format3 op rd op3 rs1 low) 18 14 ≡ rs1
rs1_3 op rd op3 rs1 low a b c d e = omega arith

pub low_3 : (op rd op3 rs1 low : ℕ) → op < 4 → rd < 32 → op3 < 64 → rs1 < 32 → low < 2 ^ 14 → field (format3 op rd op3 rs1 low) 13 0 ≡ low
low_3 op rd op3 rs1 low a b c d e = omega arith

-- operands
pub operand_again : (o : Operand) → IsOperand o → operand_from (operand_bits o) ≡ Some o
operand_again (Reg r) h = grind (arith, nat_tests)
operand_again (Imm (pos n)) h = grind (arith, nat_tests)
operand_again (Imm (negsuc n)) h = grind (arith, nat_tests)

pub operand_small : (o : Operand) → IsOperand o → operand_bits o < 2 ^ 14
operand_small (Reg r) h = omega arith
operand_small (Imm (pos n)) h = omega arith
operand_small (Imm (negsuc n)) h = omega arith

count_again : (o : Operand) → IsCount o → count_from (operand_bits o) ≡ Some o
count_again (Reg r) h = grind (arith, nat_tests)
count_again (Imm (pos n)) h = grind (arith, nat_tests)
count_again (Imm (negsuc n)) h = absurd h

pub count_small : (o : Operand) → IsCount o → operand_bits o < 2 ^ 14
count_small (Reg r) h = omega arith
count_small (Imm (pos n)) h = omega arith
count_small (Imm (negsuc n)) h = absurd h

pub operand_back : (low : ℕ) (o : Operand) → low < 2 ^ 14 → operand_from low ≡ Some o → (operand_bits o ≡ low) × IsOperand o
operand_back low o h e = grind (arith, nat_tests)

pub decode_arith : (rd op3 rs1 low : ℕ) → rd < 32 → op3 < 64 → rs1 < 32 → low < 2 ^ 14 → instr_of (format3 2 rd op3 rs1 low) ≡ op3_from rd op3 rs1 low
decode_arith rd op3 rs1 low b c d e =
    rw (op_3 2 rd op3 rs1 low (omega arith) b c d e, rd_3 2 rd op3 rs1 low (omega arith) b c d e, op3_3 2 rd op3 rs1 low (omega arith) b c d e, rs1_3 2 rd op3 rs1 low (omega arith) b c d e, low_3 2 rd op3 rs1 low (omega arith) b c d e)

pub decode_memory : (rd op3 rs1 low : ℕ) → rd < 32 → op3 < 64 → rs1 < 32 → low < 2 ^ 14 → instr_of (format3 3 rd op3 rs1 low) ≡ memory_from rd op3 rs1 low
decode_memory rd op3 rs1 low b c d e =
    rw (op_3 3 rd op3 rs1 low (omega arith) b c d e, rd_3 3 rd op3 rs1 low (omega arith) b c d e, op3_3 3 rd op3 rs1 low (omega arith) b c d e, rs1_3 3 rd op3 rs1 low (omega arith) b c d e, low_3 3 rd op3 rs1 low (omega arith) b c d e)

pub instr_of-word_of : (i : SparcInstr) → IsInRange i → instr_of (word_of i) ≡ Some i
instr_of-word_of (Call (pos n)) h = grind (arith, nat_tests)
instr_of-word_of (Call (negsuc n)) h = grind (arith, nat_tests)
instr_of-word_of (Sethi rd n) h = grind (arith, nat_tests)
instr_of-word_of (Branch c true (pos n)) h = grind (arith, nat_tests)
instr_of-word_of (Branch c true (negsuc n)) h = grind (arith, nat_tests)
instr_of-word_of (Branch c false (pos n)) h = grind (arith, nat_tests)
instr_of-word_of (Branch c false (negsuc n)) h = grind (arith, nat_tests)
instr_of-word_of (Alu Add rd rs1 o) h = decode_arith rd 0x0 rs1 (operand_bits o) h.0 (omega arith) h.1 (operand_small o h.2) ∙ rw (operand_again o h.2)
instr_of-word_of (Alu And rd rs1 o) h = decode_arith rd 0x1 rs1 (operand_bits o) h.0 (omega arith) h.1 (operand_small o h.2) ∙ rw (operand_again o h.2)
instr_of-word_of (Alu Or rd rs1 o) h = decode_arith rd 0x2 rs1 (operand_bits o) h.0 (omega arith) h.1 (operand_small o h.2) ∙ rw (operand_again o h.2)
instr_of-word_of (Alu Xor rd rs1 o) h = decode_arith rd 0x3 rs1 (operand_bits o) h.0 (omega arith) h.1 (operand_small o h.2) ∙ rw (operand_again o h.2)
instr_of-word_of (Alu Sub rd rs1 o) h = decode_arith rd 0x4 rs1 (operand_bits o) h.0 (omega arith) h.1 (operand_small o h.2) ∙ rw (operand_again o h.2)
instr_of-word_of (Alu Smul rd rs1 o) h = decode_arith rd 0xb rs1 (operand_bits o) h.0 (omega arith) h.1 (operand_small o h.2) ∙ rw (operand_again o h.2)
instr_of-word_of (Alu Sdiv rd rs1 o) h = decode_arith rd 0xf rs1 (operand_bits o) h.0 (omega arith) h.1 (operand_small o h.2) ∙ rw (operand_again o h.2)
instr_of-word_of (Alu AddCc rd rs1 o) h = decode_arith rd 0x10 rs1 (operand_bits o) h.0 (omega arith) h.1 (operand_small o h.2) ∙ rw (operand_again o h.2)
instr_of-word_of (Alu AndCc rd rs1 o) h = decode_arith rd 0x11 rs1 (operand_bits o) h.0 (omega arith) h.1 (operand_small o h.2) ∙ rw (operand_again o h.2)
instr_of-word_of (Alu OrCc rd rs1 o) h = decode_arith rd 0x12 rs1 (operand_bits o) h.0 (omega arith) h.1 (operand_small o h.2) ∙ rw (operand_again o h.2)
instr_of-word_of (Alu SubCc rd rs1 o) h = decode_arith rd 0x14 rs1 (operand_bits o) h.0 (omega arith) h.1 (operand_small o h.2) ∙ rw (operand_again o h.2)
instr_of-word_of (Alu TaddCc rd rs1 o) h = decode_arith rd 0x20 rs1 (operand_bits o) h.0 (omega arith) h.1 (operand_small o h.2) ∙ rw (operand_again o h.2)
instr_of-word_of (Alu TsubCc rd rs1 o) h = decode_arith rd 0x21 rs1 (operand_bits o) h.0 (omega arith) h.1 (operand_small o h.2) ∙ rw (operand_again o h.2)
instr_of-word_of (Alu Sll rd rs1 o) h = decode_arith rd 0x25 rs1 (operand_bits o) h.0 (omega arith) h.1 (count_small o h.2) ∙ rw (count_again o h.2)
instr_of-word_of (Alu Srl rd rs1 o) h = decode_arith rd 0x26 rs1 (operand_bits o) h.0 (omega arith) h.1 (count_small o h.2) ∙ rw (count_again o h.2)
instr_of-word_of (Alu Sra rd rs1 o) h = decode_arith rd 0x27 rs1 (operand_bits o) h.0 (omega arith) h.1 (count_small o h.2) ∙ rw (count_again o h.2)
instr_of-word_of (RdY rd) h = decode_arith rd 0x28 0 0 h (omega arith) (omega arith) (omega arith)
instr_of-word_of (WrY rs1 o) h = decode_arith 0 0x30 rs1 (operand_bits o) (omega arith) (omega arith) h.0 (operand_small o h.1) ∙ rw (operand_again o h.1)
instr_of-word_of (Jmpl rd rs1 o) h = decode_arith rd 0x38 rs1 (operand_bits o) h.0 (omega arith) h.1 (operand_small o h.2) ∙ rw (operand_again o h.2)
instr_of-word_of (Load false rd rs1 o) h = decode_memory rd 0 rs1 (operand_bits o) h.0 (omega arith) h.1 (operand_small o h.2) ∙ rw (operand_again o h.2)
instr_of-word_of (Load true rd rs1 o) h = decode_memory rd 1 rs1 (operand_bits o) h.0 (omega arith) h.1 (operand_small o h.2) ∙ rw (operand_again o h.2)
instr_of-word_of (Store false rd rs1 o) h = decode_memory rd 4 rs1 (operand_bits o) h.0 (omega arith) h.1 (operand_small o h.2) ∙ rw (operand_again o h.2)
instr_of-word_of (Store true rd rs1 o) h = decode_memory rd 5 rs1 (operand_bits o) h.0 (omega arith) h.1 (operand_small o h.2) ∙ rw (operand_again o h.2)
instr_of-word_of (Trap n) h = decode_arith 8 0x3a 0 (2 ^ 13 + n) (omega arith) (omega arith) (omega arith) (omega arith) ∙ grind (arith, nat_tests)

abbrev pub Back : ℕ → Option SparcInstr → Type 0
Back w None = Unit {0}
Back w (Some i) = (word_of i ≡ w) × IsInRange i

abbrev Operand_back : ℕ → Option Operand → Type 0
Operand_back low None = Unit {0}
Operand_back low (Some o) = (operand_bits o ≡ low) × IsOperand o

pub signed_back : (bits half n : ℕ) → 2 ^ (bits - 1) ≡ half → 2 ^ bits ≡ half + half → n < 2 ^ bits → (signed_bits bits (signed_from bits n) ≡ n) × FitsIn bits (signed_from bits n)
signed_back bits half n e f h = cond_both (nat_lt n (2 ^ (bits - 1))) (pos n) (negsuc (2 ^ bits - suc n)) (λ z. (signed_bits bits z ≡ n) × FitsIn bits z)
    (λ g. (refl, ltb-true n (2 ^ (bits - 1)) g))
    (λ g. (omega arith, omega (arith, ltb-false n (2 ^ (bits - 1)) g)))

operand_from_back : (low : ℕ) → low < 2 ^ 14 → Operand_back low (operand_from low)
operand_from_back low h =
    cond_both (nat_lt low 32) _ _ (Operand_back low) (λ e. (refl, ltb-true low 32 e))
    (λ e. cond_both (nat_lt low (2 ^ 13)) None _ (Operand_back low) (λ f. tt)
    (λ f. let g = signed_back 13 (2 ^ 12) (low - 2 ^ 13) refl refl (omega arith) in let q = ltb-false low (2 ^ 13) f in (omega arith, g.1)))

-- the operand of an operation
abbrev Second_back : Bool → ℕ → Option Operand → Type 0
Second_back b low None = Unit {0}
Second_back b low (Some o) = (operand_bits o ≡ low) × IsSecond b o

as_second : (low : ℕ) (o : Option Operand) → Operand_back low o → Second_back false low o
as_second low None h = tt
as_second low (Some o) h = h

second_back : (b : Bool) (low : ℕ) → low < 2 ^ 14 → Second_back b low (second_from b low)
second_back true low h =
    cond_both (nat_lt low 32) _ _ (Second_back true low) (λ e. (refl, ltb-true low 32 e))
    (λ e. cond_both (nat_lt low (2 ^ 13)) None _ (Second_back true low) (λ f. tt)
    (λ f. cond_both (nat_lt low (2 ^ 13 + 32)) (Some (Imm (pos (low - 2 ^ 13)))) None (Second_back true low)
    (λ g. (omega (arith, ltb-false low (2 ^ 13) f), omega (arith, ltb-true low (2 ^ 13 + 32) g, ltb-false low (2 ^ 13) f))) (λ g. tt)))
second_back false low h = as_second low (operand_from low) (operand_from_back low h)

with_second : (w low : ℕ) (b : Bool) (o : Option Operand) (f : Operand → SparcInstr) → Second_back b low o →
    ((v : Operand) → operand_bits v ≡ low → IsSecond b v → (word_of (f v) ≡ w) × IsInRange (f v)) → Back w (with o f)
with_second w low b None f h k = tt
with_second w low b (Some v) f h k = k v h.0 h.1

with_back : (w low : ℕ) (o : Option Operand) (f : Operand → SparcInstr) → Operand_back low o →
    ((v : Operand) → operand_bits v ≡ low → IsOperand v → (word_of (f v) ≡ w) × IsInRange (f v)) → Back w (with o f)
with_back w low None f h k = tt
with_back w low (Some v) f h k = k v h.0 h.1

alu_back : (op3 rd rs1 low : ℕ) → rd < 32 → rs1 < 32 → low < 2 ^ 14 → Back (format3 2 rd op3 rs1 low) (with_operation (operation_from op3) rd rs1 low)
alu_back op3 rd rs1 low a b c =
    let k : (op : AluOp) → code_of op ≡ op3 → Back (format3 2 rd op3 rs1 low) (with_operation (Some op) rd rs1 low) =
    λ op e. with_second (format3 2 rd op3 rs1 low) low (is_shift op) (second_from (is_shift op) low) (λ v. Alu op rd rs1 v) (second_back (is_shift op) low c) (λ v p q. (omega (arith, e), (a, b, q))) in
    let P : Option AluOp → Type 0 = λ o. Back (format3 2 rd op3 rs1 low) (with_operation o rd rs1 low) in
    cond_both (0x0 == op3) _ _ P (λ e. k Add (eqb-true 0x0 op3 e)) (λ x.
    cond_both (0x1 == op3) _ _ P (λ e. k And (eqb-true 0x1 op3 e)) (λ x.
    cond_both (0x2 == op3) _ _ P (λ e. k Or (eqb-true 0x2 op3 e)) (λ x.
    cond_both (0x3 == op3) _ _ P (λ e. k Xor (eqb-true 0x3 op3 e)) (λ x.
    cond_both (0x4 == op3) _ _ P (λ e. k Sub (eqb-true 0x4 op3 e)) (λ x.
    cond_both (0xb == op3) _ _ P (λ e. k Smul (eqb-true 0xb op3 e)) (λ x.
    cond_both (0xf == op3) _ _ P (λ e. k Sdiv (eqb-true 0xf op3 e)) (λ x.
    cond_both (0x10 == op3) _ _ P (λ e. k AddCc (eqb-true 0x10 op3 e)) (λ x.
    cond_both (0x11 == op3) _ _ P (λ e. k AndCc (eqb-true 0x11 op3 e)) (λ x.
    cond_both (0x12 == op3) _ _ P (λ e. k OrCc (eqb-true 0x12 op3 e)) (λ x.
    cond_both (0x14 == op3) _ _ P (λ e. k SubCc (eqb-true 0x14 op3 e)) (λ x.
    cond_both (0x20 == op3) _ _ P (λ e. k TaddCc (eqb-true 0x20 op3 e)) (λ x.
    cond_both (0x21 == op3) _ _ P (λ e. k TsubCc (eqb-true 0x21 op3 e)) (λ x.
    cond_both (0x25 == op3) _ _ P (λ e. k Sll (eqb-true 0x25 op3 e)) (λ x.
    cond_both (0x26 == op3) _ _ P (λ e. k Srl (eqb-true 0x26 op3 e)) (λ x.
    cond_both (0x27 == op3) _ _ P (λ e. k Sra (eqb-true 0x27 op3 e)) (λ x.
    tt))))))))))))))))

arith_back : (op3 rd rs1 low : ℕ) → rd < 32 → rs1 < 32 → low < 2 ^ 14 → Back (format3 2 rd op3 rs1 low) (op3_from rd op3 rs1 low)
arith_back op3 rd rs1 low a b c =
    let P : Option SparcInstr → Type 0 = Back (format3 2 rd op3 rs1 low) in
    cond_both (op3 == 0x38) _ _ P (λ e. with_back _ low (operand_from low) _ (operand_from_back low c) (λ v p q. (omega (arith, eqb-true op3 0x38 e), (a, b, q)))) (λ x.
    cond_both (op3 == 0x28) _ _ P (λ e. cond_both (rs1 == 0) _ None P (λ f. cond_both (low == 0) (Some (RdY rd)) None P
    (λ g. (omega (arith, eqb-true op3 0x28 e, eqb-true rs1 0 f, eqb-true low 0 g), a)) (λ g. tt)) (λ f. tt)) (λ x.
    cond_both (op3 == 0x30) _ _ P (λ e. cond_both (rd == 0) _ None P
    (λ f. with_back _ low (operand_from low) _ (operand_from_back low c) (λ v p q. (omega (arith, eqb-true op3 0x30 e, eqb-true rd 0 f), (b, q)))) (λ f. tt)) (λ x.
    cond_both (op3 == 0x3a) _ _ P
    (λ e. cond_both (rd == 8) _ None P (λ f. cond_both (rs1 == 0) _ None P (λ g. cond_both (nat_lt low (2 ^ 13)) None _ P (λ h. tt) (λ h. cond_both (nat_lt low (2 ^ 13 + 7)) _ None P
    (λ i. (omega (arith, eqb-true op3 0x3a e, eqb-true rd 8 f, eqb-true rs1 0 g, ltb-false low (2 ^ 13) h), omega (arith, ltb-true low (2 ^ 13 + 7) i, ltb-false low (2 ^ 13) h)))
    (λ i. tt))) (λ g. tt)) (λ f. tt))
    (λ y. alu_back op3 rd rs1 low a b c))))

memory_back : (op3 rd rs1 low : ℕ) → rd < 32 → rs1 < 32 → low < 2 ^ 14 → Back (format3 3 rd op3 rs1 low) (memory_from rd op3 rs1 low)
memory_back op3 rd rs1 low a b c =
    let P : Option SparcInstr → Type 0 = Back (format3 3 rd op3 rs1 low) in
    cond_both (op3 == 0) _ _ P (λ e. with_back _ low (operand_from low) _ (operand_from_back low c) (λ v p q. (omega (arith, eqb-true op3 0 e), (a, b, q)))) (λ x.
    cond_both (op3 == 1) _ _ P (λ e. with_back _ low (operand_from low) _ (operand_from_back low c) (λ v p q. (omega (arith, eqb-true op3 1 e), (a, b, q)))) (λ x.
    cond_both (op3 == 4) _ _ P (λ e. with_back _ low (operand_from low) _ (operand_from_back low c) (λ v p q. (omega (arith, eqb-true op3 4 e), (a, b, q)))) (λ x.
    cond_both (op3 == 5) _ _ P (λ e. with_back _ low (operand_from low) _ (operand_from_back low c) (λ v p q. (omega (arith, eqb-true op3 5 e), (a, b, q)))) (λ x. tt))))

branch_back : (rd n : ℕ) → rd < 32 → n < 2 ^ 22 → Back (rd * 2 ^ 25 + 2 * 2 ^ 22 + n) (Some (Branch (rd % 16) (rd / 16 == 1) (signed_from 22 n)))
branch_back rd n a b =
    let g = signed_back 22 (2 ^ 21) n refl refl b in
    let k : bit_of (rd / 16 == 1) ≡ rd / 16 = elim (eqb_tells (rd / 16) 1) [ inl t ↦ rw t.0 (omega (arith, t.1)) | inr t ↦ rw t.0 (let ne : rd / 16 ≢ 1 = t.1 in omega arith) ] in
    (omega (arith, k, g.0), (omega arith, g.1))

short_back : (rd op2 n : ℕ) → rd < 32 → n < 2 ^ 22 → Back (rd * 2 ^ 25 + op2 * 2 ^ 22 + n) (op2_from rd op2 n)
short_back rd op2 n a b =
    let P : Option SparcInstr → Type 0 = Back (rd * 2 ^ 25 + op2 * 2 ^ 22 + n) in
    cond_both (op2 == 4) _ _ P (λ e. (omega (arith, eqb-true op2 4 e), (a, b))) (λ x.
    cond_both (op2 == 2) _ _ P (λ e. rw (eqb-true op2 2 e) (branch_back rd n a b)) (λ x. tt))

back_at : (v w : ℕ) (o : Option SparcInstr) → Back v o → v ≡ w → Back w o
back_at v w o b e = subst (λ x. Back x o) e b

pub decode_back : (w : ℕ) → w < 2 ^ 32 → Back w (instr_of w)
decode_back w h =
    let P : Option SparcInstr → Type 0 = Back w in
    let p : field w 29 25 < 32 = omega arith in
    let q : field w 18 14 < 32 = omega arith in
    let r : field w 13 0 < 2 ^ 14 = omega arith in
    let n : field w 21 0 < 2 ^ 22 = omega arith in
    cond_both (field w 31 30 == 0) _ _ P (λ e. back_at _ w _ (short_back (field w 29 25) (field w 24 22) (field w 21 0) p n) (omega (arith, eqb-true (field w 31 30) 0 e))) (λ x.
    cond_both (field w 31 30 == 1) _ _ P (λ e. let g = signed_back 30 (2 ^ 29) (field w 29 0) refl refl (omega arith) in (omega (arith, eqb-true (field w 31 30) 1 e, g.0), g.1)) (λ y.
    cond_both (field w 31 30 == 2) _ _ P
    (λ e. back_at _ w _ (arith_back (field w 24 19) (field w 29 25) (field w 18 14) (field w 13 0) p q r) (omega (arith, eqb-true (field w 31 30) 2 e)))
    (λ e. back_at _ w _ (memory_back (field w 24 19) (field w 29 25) (field w 18 14) (field w 13 0) p q r)
    (let a : field w 31 30 ≢ 0 = eqb-false (field w 31 30) 0 x in let b : field w 31 30 ≢ 1 = eqb-false (field w 31 30) 1 y in let c : field w 31 30 ≢ 2 = eqb-false (field w 31 30) 2 e in omega arith))))
