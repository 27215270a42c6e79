-- The table of the words, row by row, on their bits (SPARC V8 manual, 5.1 and appendix F).
use Rattle.std.specs.Prelude.{◌≡◌, ◌⊎◌, ◌<◌, ℕ, List, [], ◌∷◌, Contains}
use Rattle.tb_sparc.specs.Word.{field}

-- op3 of the operations on two operands, shifts apart: add, and, or, xor, sub, smul, sdiv, addcc, andcc, orcc, subcc, taddcc, tsubcc
abbrev pub operation_codes : List ℕ
operation_codes = 0x00 ∷ 0x01 ∷ 0x02 ∷ 0x03 ∷ 0x04 ∷ 0x0b ∷ 0x0f ∷ 0x10 ∷ 0x11 ∷ 0x12 ∷ 0x14 ∷ 0x20 ∷ 0x21 ∷ []

-- op3 of the shifts: sll, srl, sra
abbrev pub shift_codes : List ℕ
shift_codes = 0x25 ∷ 0x26 ∷ 0x27 ∷ []

-- op3 of the accesses to memory: ld, ldub, st, stb
abbrev pub memory_codes : List ℕ
memory_codes = 0x00 ∷ 0x01 ∷ 0x04 ∷ 0x05 ∷ []

-- bit 13 is set, or bits 12 down to 5, which a register leaves free, are zero
abbrev pub HasOperand : ℕ → Type 0
HasOperand word = (field word 13 13 ≡ 1) ⊎ (field word 12 5 ≡ 0)

-- the word is in a row of the table
pub data IsWord (word : ℕ) : Type 0 where
  call : field word 31 30 ≡ 1 → IsWord word
  sethi : field word 31 30 ≡ 0 → field word 24 22 ≡ 4 → IsWord word
  branch : field word 31 30 ≡ 0 → field word 24 22 ≡ 2 → IsWord word
  operation : field word 31 30 ≡ 2 → Contains operation_codes (field word 24 19) → HasOperand word → IsWord word
  shift : field word 31 30 ≡ 2 → Contains shift_codes (field word 24 19) → field word 12 5 ≡ 0 → IsWord word
  read_y : field word 31 30 ≡ 2 → field word 24 19 ≡ 0x28 → field word 18 0 ≡ 0 → IsWord word
  write_y : field word 31 30 ≡ 2 → field word 24 19 ≡ 0x30 → field word 29 25 ≡ 0 → HasOperand word → IsWord word
  jump : field word 31 30 ≡ 2 → field word 24 19 ≡ 0x38 → HasOperand word → IsWord word
  -- annul bit 0 and condition 8, always; rs1 0, bit 13 set, bits 12 down to 7 zero, and a service below 7
  trap : field word 31 30 ≡ 2 → field word 24 19 ≡ 0x3a → field word 29 29 ≡ 0 → field word 28 25 ≡ 8 → field word 18 14 ≡ 0 →
      field word 13 13 ≡ 1 → field word 12 7 ≡ 0 → field word 6 0 < 7 → IsWord word
  memory : field word 31 30 ≡ 3 → Contains memory_codes (field word 24 19) → HasOperand word → IsWord word
