-- Numbers as they are written: an optional sign, and digits of a base.
use Rattle.std.specs.Prelude.{ℕ, ℤ, pos, neg_ℤ, ◌+◌, ◌-◌, ◌*◌, ◌==◌, ◌&&◌, nat_lt, nat_le, Bool, true, false, cond, List, length, fold, Option, Some, None}
use Rattle.std.specs.List.{list_all}
use Rattle.std.specs.Char.{to_ascii_lowercase}

-- the value of a digit, 0 to 15; 16 is no digit
abbrev pub digit_of : ℕ → ℕ
digit_of b =
    cond (nat_le 48 b && nat_le b 57) (b - 48)
    (cond (nat_le 97 (to_ascii_lowercase b) && nat_le (to_ascii_lowercase b) 102) (to_ascii_lowercase b - 87) 16)

-- the number that digits of a base stand for, behind those that stand for n
abbrev pub value_from : ℕ → ℕ → List ℕ → ℕ
value_from base n ds = fold (λ k d. k * base + digit_of d) n ds

abbrev pub value_of : ℕ → List ℕ → ℕ
value_of base ds = value_from base 0 ds

abbrev pub are_digits : ℕ → List ℕ → Bool
are_digits base ds = nat_lt 0 (length ds) && list_all (λ d. nat_lt (digit_of d) base) ds

-- the integer with a sign and a magnitude
abbrev pub signed : Bool → ℕ → ℤ
signed true n = neg_ℤ (pos n)
signed false n = pos n

-- the base of the digits after `#` and this letter
abbrev pub base_of : ℕ → Option ℕ
base_of b =
    cond (b == 98) (Some 2) (cond (b == 111) (Some 8) (cond (b == 100) (Some 10) (cond (b == 120) (Some 16) None)))
