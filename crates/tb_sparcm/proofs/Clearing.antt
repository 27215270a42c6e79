-- Words that become 0 one after the other.
use Rattle.std.proofs.Common.{◌≡◌, ℕ, zero, suc, ◌+◌, ◌<◌, List, slice_set, refl, arith}
use Rattle.tb_sparc.specs.SparcStep.{cleared}

-- words are still to be cleared, from k up to n, and then the memory is this one
pub record Clearing (k n : ℕ) (memory goal : List ℕ) : Type 0 where
  pub left : ℕ
  pub ends : k + left ≡ n
  pub rest : cleared left k memory ≡ goal

pub clearing_start : (at count : ℕ) (memory : List ℕ) → Clearing at (at + count) memory (cleared count at memory)
clearing_start at count memory = record { left = count; ends = refl; rest = refl }

clearing_by : (left k n : ℕ) (memory goal : List ℕ) → k < n → k + left ≡ n → cleared left k memory ≡ goal → Clearing (k + 1) n (slice_set memory k 0) goal
clearing_by zero k n memory goal lt e h = absurd (omega (arith, lt, e))
clearing_by (suc left) k n memory goal lt e h = record { left = left; ends = omega (arith, e); rest = h }

pub clearing_step : (k n : ℕ) (memory goal : List ℕ) → k < n → Clearing k n memory goal → Clearing (k + 1) n (slice_set memory k 0) goal
clearing_step k n memory goal lt f = clearing_by f.left k n memory goal lt f.ends f.rest

cleared_by : (left k n : ℕ) (memory goal : List ℕ) → k ≡ n → k + left ≡ n → cleared left k memory ≡ goal → memory ≡ goal
cleared_by zero k n memory goal e f h = h
cleared_by (suc left) k n memory goal e f h = absurd (omega (arith, e, f))

pub clearing_end : (k n : ℕ) (memory goal : List ℕ) → k ≡ n → Clearing k n memory goal → memory ≡ goal
clearing_end k n memory goal e f = cleared_by f.left k n memory goal e f.ends f.rest
