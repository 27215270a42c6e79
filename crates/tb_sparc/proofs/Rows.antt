-- The words of the table are those that decode.
use Rattle.std.proofs.Common.{ℕ, zero, suc, ◌≡◌, ◌≢◌, ◌/◌, ◌%◌, ◌^◌, ◌<◌, ◌⊎◌, inl, inr, true, false, pos, negsuc, List, [], ◌∷◌, Option, Some, None, IsSome, IfSome, refl, sym, ap, subst, arith, ◌∙◌}
use Rattle.std.specs.Prelude.{Contains, ◌↔◌}
use Rattle.std.proofs.lemmas.Bool.Decides.{eqb_tells}
use Rattle.tb_sparc.specs.declared.instr.AluOp.{AluOp}
use Rattle.tb_sparc.specs.declared.instr.AluOp.TheVariants.{Add, And, Or, Xor, Sub, Smul, Sdiv, AddCc, AndCc, OrCc, SubCc, TaddCc, TsubCc, Sll, Srl, Sra}
use Rattle.tb_sparc.specs.declared.instr.Operand.{Operand}
use Rattle.tb_sparc.specs.declared.instr.Operand.TheVariants.{Reg, Imm}
use Rattle.tb_sparc.specs.declared.instr.SparcInstr.{SparcInstr}
use Rattle.tb_sparc.specs.declared.instr.SparcInstr.TheVariants.{Call, Sethi, Branch, Alu, RdY, WrY, Jmpl, Load, Store, Trap}
use Rattle.tb_sparc.specs.Range.{IsInRange, IsOperand, IsCount, IsSecond, is_shift}
use Rattle.tb_sparc.specs.Word.{field, word_of, instr_of, operand_bits, signed_from, code_of, format3}
use Rattle.tb_sparc.specs.Table.{IsWord, call, sethi, branch, operation, shift, read_y, write_y, jump, trap, memory, HasOperand, operation_codes, shift_codes, memory_codes}
use Rattle.tb_sparc.proofs.Laws.{signed_back, operand_small, count_small, op_3, rd_3, op3_3, instr_of-word_of, Back, decode_back}

-- P of each element, one by one
abbrev Each : (ℕ → Type 0) → List ℕ → Type 0
Each P [] = Unit {0}
Each P (x ∷ xs) = P x × Each P xs

each_at : (P : ℕ → Type 0) (xs : List ℕ) (x : ℕ) → Each P xs → Contains xs x → P x
each_at P [] x e h = absurd (omega (arith, h.1))
each_at P (y ∷ ys) x e (zero, l, q) = subst P q e.0
each_at P (y ∷ ys) x e (suc k, l, q) = each_at P ys x e.1 (k, omega arith, q)

-- an instruction in range has this word
abbrev HasInstr : ℕ → Type 0
HasInstr w = (i : SparcInstr) × (word_of i ≡ w) × IsInRange i

number_of : (w : ℕ) → field w 13 13 ≡ 1 → (o : Operand) × (operand_bits o ≡ field w 13 0) × IsOperand o
number_of w h =
    let g = signed_back 13 (2 ^ 12) (field w 12 0) refl refl (omega arith) in
    (Imm (signed_from 13 (field w 12 0)), omega (arith, g.0), g.1)

operand_of : (w : ℕ) → HasOperand w → (o : Operand) × (operand_bits o ≡ field w 13 0) × IsOperand o
operand_of w (inl h) = number_of w h
operand_of w (inr h) = elim (eqb_tells (field w 13 13) 1) [
  | inl t ↦ number_of w t.1
  | inr t ↦ (Reg (field w 4 0), (let ne : field w 13 13 ≢ 1 = t.1 in omega arith), omega arith)
]

count_of : (w : ℕ) → field w 12 5 ≡ 0 → (o : Operand) × (operand_bits o ≡ field w 13 0) × IsCount o
count_of w h = elim (eqb_tells (field w 13 13) 1) [
  | inl t ↦ (Imm (pos (field w 4 0)), omega (arith, t.1), omega arith)
  | inr t ↦ (Reg (field w 4 0), (let ne : field w 13 13 ≢ 1 = t.1 in omega arith), omega arith)
]

alu_of : (w : ℕ) (op : AluOp) (o : Operand) → w < 2 ^ 32 → field w 31 30 ≡ 2 → operand_bits o ≡ field w 13 0 → IsSecond (is_shift op) o → code_of op ≡ field w 24 19 → HasInstr w
alu_of w op o small h e second c = (Alu op (field w 29 25) (field w 18 14) o, omega arith, (omega arith, omega arith, second))

-- what a row of the table needs
instr_of_row : (w : ℕ) → w < 2 ^ 32 → IsWord w → HasInstr w
instr_of_row w s (call h) = let g = signed_back 30 (2 ^ 29) (field w 29 0) refl refl (omega arith) in (Call (signed_from 30 (field w 29 0)), omega (arith, g.0), g.1)
instr_of_row w s (sethi h k) = (Sethi (field w 29 25) (field w 21 0), omega arith, (omega arith, omega arith))
instr_of_row w s (branch h k) =
    let g = signed_back 22 (2 ^ 21) (field w 21 0) refl refl (omega arith) in
    elim (eqb_tells (field w 29 29) 1) [
      | inl t ↦ (Branch (field w 28 25) true (signed_from 22 (field w 21 0)), omega (arith, g.0, t.1), (omega arith, g.1))
      | inr t ↦ (Branch (field w 28 25) false (signed_from 22 (field w 21 0)), (let ne : field w 29 29 ≢ 1 = t.1 in omega (arith, g.0)), (omega arith, g.1))
    ]
instr_of_row w s (operation h c o) =
    let v = operand_of w o in
    each_at (λ n. n ≡ field w 24 19 → HasInstr w) operation_codes (field w 24 19) (
      alu_of w Add v.0 s h v.1 v.2,
      (
        alu_of w And v.0 s h v.1 v.2,
        (
          alu_of w Or v.0 s h v.1 v.2,
          (
            alu_of w Xor v.0 s h v.1 v.2,
            (
              alu_of w Sub v.0 s h v.1 v.2,
              (
                alu_of w Smul v.0 s h v.1 v.2,
                (
                  alu_of w Sdiv v.0 s h v.1 v.2,
                  (
                    alu_of w AddCc v.0 s h v.1 v.2,
                    (
                      alu_of w AndCc v.0 s h v.1 v.2,
                      (
                        alu_of w OrCc v.0 s h v.1 v.2,
                        (alu_of w SubCc v.0 s h v.1 v.2, (alu_of w TaddCc v.0 s h v.1 v.2, (alu_of w TsubCc v.0 s h v.1 v.2, tt))),
                      ),
                    ),
                  ),
                ),
              ),
            ),
          ),
        ),
      ),
    )
    c refl
instr_of_row w s (shift h c o) =
    let v = count_of w o in
    each_at (λ n. n ≡ field w 24 19 → HasInstr w) shift_codes (field w 24 19)
    (alu_of w Sll v.0 s h v.1 v.2, (alu_of w Srl v.0 s h v.1 v.2, (alu_of w Sra v.0 s h v.1 v.2, tt))) c refl
instr_of_row w s (read_y h k z) = (RdY (field w 29 25), omega arith, omega arith)
instr_of_row w s (write_y h k z o) = let v = operand_of w o in (WrY (field w 18 14) v.0, omega (arith, v.1), (omega arith, v.2))
instr_of_row w s (jump h k o) = let v = operand_of w o in (Jmpl (field w 29 25) (field w 18 14) v.0, omega (arith, v.1), (omega arith, omega arith, v.2))
instr_of_row w s (trap h k a c r i z n) = (Trap (field w 6 0), omega arith, n)
instr_of_row w s (memory h c o) =
    let v = operand_of w o in
    each_at (λ n. n ≡ field w 24 19 → HasInstr w) memory_codes (field w 24 19) (
      (λ e. (Load false (field w 29 25) (field w 18 14) v.0, omega (arith, v.1, e), (omega arith, omega arith, v.2))),
      (
        (λ e. (Load true (field w 29 25) (field w 18 14) v.0, omega (arith, v.1, e), (omega arith, omega arith, v.2))),
        (
          (λ e. (Store false (field w 29 25) (field w 18 14) v.0, omega (arith, v.1, e), (omega arith, omega arith, v.2))),
          ((λ e. (Store true (field w 29 25) (field w 18 14) v.0, omega (arith, v.1, e), (omega arith, omega arith, v.2))), tt),
        ),
      ),
    )
    c refl

-- the low 14 bits of a second operand
low_operand : (o : Operand) → IsOperand o → (operand_bits o / 2 ^ 13 ≡ 1) ⊎ (operand_bits o < 32)
low_operand (Reg r) h = inr h
low_operand (Imm (pos n)) h = inl (omega arith)
low_operand (Imm (negsuc n)) h = inl (omega arith)

low_count : (o : Operand) → IsCount o → operand_bits o / 2 ^ 5 % 2 ^ 8 ≡ 0
low_count (Reg r) h = omega arith
low_count (Imm (pos n)) h = omega arith
low_count (Imm (negsuc n)) h = absurd h

HasOperand-format3 : (op rd op3 rs1 : ℕ) (o : Operand) → IsOperand o → HasOperand (format3 op rd op3 rs1 (operand_bits o))
HasOperand-format3 op rd op3 rs1 o h =
    let small : operand_bits o < 2 ^ 14 = operand_small o h in
    elim (low_operand o h) [ inl e ↦ inl (omega (arith, e)) | inr l ↦ inr (omega (arith, l)) ]

count-format3 : (op rd op3 rs1 : ℕ) (o : Operand) → IsCount o → field (format3 op rd op3 rs1 (operand_bits o)) 12 5 ≡ 0
count-format3 op rd op3 rs1 o h = let small : operand_bits o < 2 ^ 14 = count_small o h in omega (arith, low_count o h)

operation_row : (op3 rd rs1 : ℕ) (o : Operand) → op3 < 64 → Contains operation_codes op3 → rd < 32 → rs1 < 32 → IsOperand o → IsWord (format3 2 rd op3 rs1 (operand_bits o))
operation_row op3 rd rs1 o b c p q h =
    let s = operand_small o h in
    operation (op_3 2 rd op3 rs1 (operand_bits o) (omega arith) p b q s) (rw (op3_3 2 rd op3 rs1 (operand_bits o) (omega arith) p b q s) c) (HasOperand-format3 2 rd op3 rs1 o h)

shift_row : (op3 rd rs1 : ℕ) (o : Operand) → op3 < 64 → Contains shift_codes op3 → rd < 32 → rs1 < 32 → IsCount o → IsWord (format3 2 rd op3 rs1 (operand_bits o))
shift_row op3 rd rs1 o b c p q h =
    let s = count_small o h in
    shift (op_3 2 rd op3 rs1 (operand_bits o) (omega arith) p b q s) (rw (op3_3 2 rd op3 rs1 (operand_bits o) (omega arith) p b q s) c) (count-format3 2 rd op3 rs1 o h)

memory_row : (op3 rd rs1 : ℕ) (o : Operand) → op3 < 64 → Contains memory_codes op3 → rd < 32 → rs1 < 32 → IsOperand o → IsWord (format3 3 rd op3 rs1 (operand_bits o))
memory_row op3 rd rs1 o b c p q h =
    let s = operand_small o h in
    memory (op_3 3 rd op3 rs1 (operand_bits o) (omega arith) p b q s) (rw (op3_3 3 rd op3 rs1 (operand_bits o) (omega arith) p b q s) c) (HasOperand-format3 3 rd op3 rs1 o h)

-- the word of each instruction in range is in a row
row_of : (i : SparcInstr) → IsInRange i → IsWord (word_of i)
row_of (Call (pos n)) h = call (omega arith)
row_of (Call (negsuc n)) h = call (omega arith)
row_of (Sethi rd n) h = sethi (omega arith) (omega arith)
row_of (Branch c true (pos n)) h = branch (omega arith) (omega arith)
row_of (Branch c true (negsuc n)) h = branch (omega arith) (omega arith)
row_of (Branch c false (pos n)) h = branch (omega arith) (omega arith)
row_of (Branch c false (negsuc n)) h = branch (omega arith) (omega arith)
row_of (Alu Add rd rs1 o) h = operation_row 0x00 rd rs1 o (omega arith) (0, omega arith, refl) h.0 h.1 h.2
row_of (Alu And rd rs1 o) h = operation_row 0x01 rd rs1 o (omega arith) (1, omega arith, refl) h.0 h.1 h.2
row_of (Alu Or rd rs1 o) h = operation_row 0x02 rd rs1 o (omega arith) (2, omega arith, refl) h.0 h.1 h.2
row_of (Alu Xor rd rs1 o) h = operation_row 0x03 rd rs1 o (omega arith) (3, omega arith, refl) h.0 h.1 h.2
row_of (Alu Sub rd rs1 o) h = operation_row 0x04 rd rs1 o (omega arith) (4, omega arith, refl) h.0 h.1 h.2
row_of (Alu Smul rd rs1 o) h = operation_row 0x0b rd rs1 o (omega arith) (5, omega arith, refl) h.0 h.1 h.2
row_of (Alu Sdiv rd rs1 o) h = operation_row 0x0f rd rs1 o (omega arith) (6, omega arith, refl) h.0 h.1 h.2
row_of (Alu AddCc rd rs1 o) h = operation_row 0x10 rd rs1 o (omega arith) (7, omega arith, refl) h.0 h.1 h.2
row_of (Alu AndCc rd rs1 o) h = operation_row 0x11 rd rs1 o (omega arith) (8, omega arith, refl) h.0 h.1 h.2
row_of (Alu OrCc rd rs1 o) h = operation_row 0x12 rd rs1 o (omega arith) (9, omega arith, refl) h.0 h.1 h.2
row_of (Alu SubCc rd rs1 o) h = operation_row 0x14 rd rs1 o (omega arith) (10, omega arith, refl) h.0 h.1 h.2
row_of (Alu TaddCc rd rs1 o) h = operation_row 0x20 rd rs1 o (omega arith) (11, omega arith, refl) h.0 h.1 h.2
row_of (Alu TsubCc rd rs1 o) h = operation_row 0x21 rd rs1 o (omega arith) (12, omega arith, refl) h.0 h.1 h.2
row_of (Alu Sll rd rs1 o) h = shift_row 0x25 rd rs1 o (omega arith) (0, omega arith, refl) h.0 h.1 h.2
row_of (Alu Srl rd rs1 o) h = shift_row 0x26 rd rs1 o (omega arith) (1, omega arith, refl) h.0 h.1 h.2
row_of (Alu Sra rd rs1 o) h = shift_row 0x27 rd rs1 o (omega arith) (2, omega arith, refl) h.0 h.1 h.2
row_of (RdY rd) h = read_y (omega arith) (omega arith) (omega arith)
row_of (WrY rs1 o) h =
    let s = operand_small o h.1 in
    write_y (op_3 2 0 0x30 rs1 (operand_bits o) (omega arith) (omega arith) (omega arith) h.0 s) (op3_3 2 0 0x30 rs1 (operand_bits o) (omega arith) (omega arith) (omega arith) h.0 s)
    (rd_3 2 0 0x30 rs1 (operand_bits o) (omega arith) (omega arith) (omega arith) h.0 s) (HasOperand-format3 2 0 0x30 rs1 o h.1)
row_of (Jmpl rd rs1 o) h =
    let s = operand_small o h.2 in
    jump (op_3 2 rd 0x38 rs1 (operand_bits o) (omega arith) h.0 (omega arith) h.1 s) (op3_3 2 rd 0x38 rs1 (operand_bits o) (omega arith) h.0 (omega arith) h.1 s)
    (HasOperand-format3 2 rd 0x38 rs1 o h.2)
row_of (Load false rd rs1 o) h = memory_row 0 rd rs1 o (omega arith) (0, omega arith, refl) h.0 h.1 h.2
row_of (Load true rd rs1 o) h = memory_row 1 rd rs1 o (omega arith) (1, omega arith, refl) h.0 h.1 h.2
row_of (Store false rd rs1 o) h = memory_row 4 rd rs1 o (omega arith) (2, omega arith, refl) h.0 h.1 h.2
row_of (Store true rd rs1 o) h = memory_row 5 rd rs1 o (omega arith) (3, omega arith, refl) h.0 h.1 h.2
row_of (Trap n) h = trap (omega arith) (omega arith) (omega arith) (omega arith) (omega arith) (omega arith) (omega arith) (omega arith)

some_in_row : (w : ℕ) (r : Option SparcInstr) → Back w r → IsSome r → IsWord w
some_in_row w None b h = cc
some_in_row w (Some i) b h = subst IsWord b.0 (row_of i b.1)

some_from : (r : Option SparcInstr) (i : SparcInstr) → r ≡ Some i → IsSome r
some_from r i e = rw e refl

-- a word decodes exactly where it is in a row
pub instr_of-some : (w : ℕ) → w < 2 ^ 32 → IsSome (instr_of w) ↔ IsWord w
instr_of-some w s = (
  some_in_row w (instr_of w) (decode_back w s),
  λ h. let v = instr_of_row w s h in some_from (instr_of w) v.0 (ap instr_of (sym v.1) ∙ instr_of-word_of v.0 v.2),
)

back_word : (w : ℕ) (r : Option SparcInstr) → Back w r → IfSome r (λ i. word_of i ≡ w)
back_word w None b = tt
back_word w (Some i) b = b.0

back_range : (w : ℕ) (r : Option SparcInstr) → Back w r → IfSome r IsInRange
back_range w None b = tt
back_range w (Some i) b = b.1

-- what decodes encodes back, and its fields are in range
pub instr_of-back : (w : ℕ) → w < 2 ^ 32 → IfSome (instr_of w) (λ i. word_of i ≡ w)
instr_of-back w s = back_word w (instr_of w) (decode_back w s)

pub instr_of-in_range : (w : ℕ) → w < 2 ^ 32 → IfSome (instr_of w) IsInRange
instr_of-in_range w s = back_range w (instr_of w) (decode_back w s)
