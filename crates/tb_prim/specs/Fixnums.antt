-- The whole numbers of the language: 30 bits in two's complement (this project's own; R5RS 6.2.3 lets a range be set).
use Rattle.std.specs.Prelude.{◌^◌, ℤ, pos, negsuc, Bool, nat_lt}

-- fixnums are the whole numbers from -2^29 to 2^29 - 1
abbrev pub is_fixnum : ℤ → Bool
is_fixnum (pos n) = nat_lt n (2 ^ 29)
is_fixnum (negsuc n) = nat_lt n (2 ^ 29)
