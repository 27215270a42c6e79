-- Operations on words of 32 bits, and the condition codes that they set (SPARC V8 manual, appendix B).
use Rattle.std.specs.Prelude.{ℕ, ◌+◌, ◌-◌, ◌*◌, ◌/◌, ◌%◌, ◌^◌, Bool, true, false, cond, not, ◌||◌, ◌==◌, nat_lt, nat_le, ℤ, pos, negsuc, ◌+ℤ◌, ◌-ℤ◌, ◌*ℤ◌, int_lt, int_div}
use Rattle.std.specs.Int.{cast_signed, cast_unsigned, int_shr, w32, w64}
use Rattle.tb_sparc.specs.declared.codes.Codes.{Codes}

-- the signed number that a word is in two's complement
abbrev pub signed : ℕ → ℤ
signed a = cast_signed w32 a

-- the number is outside the signed numbers of 32 bits
abbrev pub is_outside : ℤ → Bool
is_outside z = int_lt z (negsuc 2147483647) || int_lt (pos 2147483647) z

abbrev pub add : ℕ → ℕ → ℕ
add a b = (a + b) % 2 ^ 32

abbrev pub sub : ℕ → ℕ → ℕ
sub a b = (a + (2 ^ 32 - b)) % 2 ^ 32

-- the lowest 5 bits of a word, by which a shift shifts
abbrev pub shift_count : ℕ → ℕ
shift_count b = b % 32

abbrev pub shift_left : ℕ → ℕ → ℕ
shift_left a b = a * 2 ^ shift_count b % 2 ^ 32

abbrev pub shift_right : ℕ → ℕ → ℕ
shift_right a b = a / 2 ^ shift_count b

-- the sign is shifted in
abbrev pub shift_signed : ℕ → ℕ → ℕ
shift_signed a b = cast_unsigned w32 (int_shr (signed a) (shift_count b))

-- the 64 bits of a product of signed numbers
abbrev pub product : ℕ → ℕ → ℕ
product a b = cast_unsigned w64 (signed a *ℤ signed b)

abbrev pub low_word : ℕ → ℕ
low_word n = n % 2 ^ 32

abbrev pub high_word : ℕ → ℕ
high_word n = n / 2 ^ 32

-- the signed number whose high word is y and whose low word is a
abbrev pub joined : ℕ → ℕ → ℤ
joined y a = cast_signed w64 (y * 2 ^ 32 + a)

-- the quotient, truncated toward zero
abbrev pub quotient : ℕ → ℕ → ℕ → ℤ
quotient y a b = int_div (joined y a) (signed b)

-- the highest bit is 1
abbrev pub is_negative : ℕ → Bool
is_negative a = nat_le (2 ^ 31) a

-- bit 0 or 1 of an operand is 1
abbrev pub has_tag : ℕ → ℕ → Bool
has_tag a b = not (a % 4 + b % 4 == 0)

abbrev pub add_overflows : ℕ → ℕ → Bool
add_overflows a b = is_outside (signed a +ℤ signed b)

abbrev pub sub_overflows : ℕ → ℕ → Bool
sub_overflows a b = is_outside (signed a -ℤ signed b)

-- the sum does not fit 32 bits
abbrev pub carries : ℕ → ℕ → Bool
carries a b = nat_le (2 ^ 32) (a + b)

-- the first is the less, without signs
abbrev pub borrows : ℕ → ℕ → Bool
borrows a b = nat_lt a b

-- the codes of a result, with this overflow and carry
abbrev pub codes_of : ℕ → Bool → Bool → Codes
codes_of result v c = record { negative = is_negative result; zero = result == 0; overflow = v; carry = c }

abbrev pub after_add : ℕ → ℕ → Codes
after_add a b = codes_of (add a b) (add_overflows a b) (carries a b)

-- the carry is the borrow
abbrev pub after_sub : ℕ → ℕ → Codes
after_sub a b = codes_of (sub a b) (sub_overflows a b) (borrows a b)

-- a tag overflows too
abbrev pub after_tagged_add : ℕ → ℕ → Codes
after_tagged_add a b = codes_of (add a b) (has_tag a b || add_overflows a b) (carries a b)

abbrev pub after_tagged_sub : ℕ → ℕ → Codes
after_tagged_sub a b = codes_of (sub a b) (has_tag a b || sub_overflows a b) (borrows a b)

abbrev pub after_logic : ℕ → Codes
after_logic result = codes_of result false false

-- all codes 0
abbrev pub no_codes : Codes
no_codes = record { negative = false; zero = false; overflow = false; carry = false }

abbrev pub differ : Bool → Bool → Bool
differ true b = not b
differ false b = b

-- conditions 0 to 7: never, equal, less or equal, less, lower or equal, carry, negative, overflow
abbrev pub low_condition : ℕ → Codes → Bool
low_condition k codes =
    cond (k == 0) false
    (cond (k == 1) codes.zero
    (cond (k == 2) (codes.zero || differ codes.negative codes.overflow)
    (cond (k == 3) (differ codes.negative codes.overflow)
    (cond (k == 4) (codes.carry || codes.zero)
    (cond (k == 5) codes.carry
    (cond (k == 6) codes.negative codes.overflow))))))

-- condition k + 8 is the negation of k
abbrev pub condition : ℕ → Codes → Bool
condition k codes = cond (nat_lt k 8) (low_condition k codes) (not (low_condition (k - 8) codes))
