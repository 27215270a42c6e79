-- Registers beyond the last are not live.
use Rattle.std.proofs.Common.{◌≡◌, ℕ, ◌<◌, ◌≤◌, ◌^◌, ◌==◌, ◌&&◌, false, not, Option, None, Some, slice_get, refl, ap, arith}
use Rattle.std.proofs.lemmas.Nat.Bits.{bit_at_above}
use Rattle.tb_mac.specs.declared.code.LiveMap.{LiveMap}
use Rattle.tb_mac.specs.Assembled.{Assembled}
use Rattle.tb_mac.specs.Frames.{Framed}
use Rattle.tb_mac.specs.LiveWords.{counts_now, is_beyond, is_bit_set, is_live_register, map_at, operand_count}
use Rattle.tb_mac.specs.Words.{on_some}

no_bit : (bits b : ℕ) → bits < 2 ^ 17 → 17 ≤ b → is_bit_set bits b ≡ false
no_bit bits b lt le = ap (λ v. v == 1) (bit_at_above bits 17 b lt le)

no_bit_of : (o : Option LiveMap) (bits b : ℕ) → bits ≡ on_some o 0 (λ map. map.regs) → bits < 2 ^ 17 → 17 ≤ b →
    on_some o false (λ map. is_bit_set map.regs b) ≡ false
no_bit_of None bits b e lt le = refl
no_bit_of (Some map) bits b e lt le = no_bit map.regs b (omega (arith, e)) le

pub not-beyond : (c : Assembled) (m : Framed) (bits b : ℕ) → bits ≡ on_some (map_at c m.pc) 0 (λ map. map.regs) → bits < 2 ^ 17 → 17 ≤ b →
    is_live_register c m b ≡ false
not-beyond c m bits b e lt le =
    ap (λ v. v && not (counts_now c m && is_beyond (operand_count (slice_get m.registers 16)) b)) (no_bit_of (map_at c m.pc) bits b e lt le)
