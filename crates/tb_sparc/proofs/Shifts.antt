-- Fields that are joined by shifts.
use Rattle.std.proofs.Common.{◌≡◌, ℕ, ◌+◌, ◌*◌, ◌%◌, ◌^◌, ◌<◌, arith}
use Rattle.std.specs.Int.Bits.{bit_or}
use Rattle.std.proofs.lemmas.Nat.{or_shifted}

-- a word whose low bits are free takes a field there
pub bit_or-free : (w a k b : ℕ) → w ≡ a * 2 ^ k → b < 2 ^ k → bit_or w b ≡ w + b
bit_or-free w a k b e h = rw e (or_shifted a k b h)

-- the fields of the third format, shifted to their places
pub bit_or-fields : (op rd op3 rs1 low : ℕ) → op < 4 → rd < 32 → op3 < 64 → rs1 < 32 → low < 2 ^ 14 →
    bit_or (bit_or (bit_or (bit_or (op * 2 ^ 30 % 2 ^ 32) (rd * 2 ^ 25 % 2 ^ 32)) (op3 * 2 ^ 19 % 2 ^ 32)) (rs1 * 2 ^ 14 % 2 ^ 32)) low ≡ op * 2 ^ 30 + rd * 2 ^ 25 + op3 * 2 ^ 19 + rs1 * 2 ^ 14 + low
bit_or-fields op rd op3 rs1 low a b c d e =
    let p : op * 2 ^ 30 % 2 ^ 32 ≡ op * 2 ^ 30 = omega arith in
    let q : rd * 2 ^ 25 % 2 ^ 32 ≡ rd * 2 ^ 25 = omega arith in
    let r : op3 * 2 ^ 19 % 2 ^ 32 ≡ op3 * 2 ^ 19 = omega arith in
    let s : rs1 * 2 ^ 14 % 2 ^ 32 ≡ rs1 * 2 ^ 14 = omega arith in
    rw (
      p,
      q,
      r,
      s,
      bit_or-free (op * 2 ^ 30) op 30 (rd * 2 ^ 25) (omega arith) (omega arith),
      bit_or-free (op * 2 ^ 30 + rd * 2 ^ 25) (op * 32 + rd) 25 (op3 * 2 ^ 19) (omega arith) (omega arith),
      bit_or-free (op * 2 ^ 30 + rd * 2 ^ 25 + op3 * 2 ^ 19) (op * 2048 + rd * 64 + op3) 19 (rs1 * 2 ^ 14) (omega arith) (omega arith),
      bit_or-free (op * 2 ^ 30 + rd * 2 ^ 25 + op3 * 2 ^ 19 + rs1 * 2 ^ 14) (op * 65536 + rd * 2048 + op3 * 32 + rs1) 14 low (omega arith) e,
    )
