-- The calls of one object, and which of them are to fail.
use Rattle.std.specs.Prelude.{ℕ, ◌+◌, ◌-◌, ◌^◌, min, List, Contains}

-- a count after one more, which stands still at the end of a u64
abbrev pub risen : ℕ → ℕ
risen count = min (count + 1) (2 ^ 64 - 1)

-- the numbers of the calls that are to fail, and the number of the next call
pub record Calls : Type 0 where
  pub fails : List ℕ
  pub next : ℕ

-- the next call is to fail
pub record IsFailing (calls : Calls) : Type 0 where
  pub listed : Contains calls.fails calls.next

-- the calls after one more
abbrev pub after_call : Calls → Calls
after_call calls = record { fails = calls.fails; next = risen calls.next }
