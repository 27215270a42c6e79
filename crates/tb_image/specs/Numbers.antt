-- Numbers as fields: big-endian, of one, two or four bytes.
use Rattle.std.specs.Prelude.{ℕ, ◌+◌, ◌*◌, ◌==◌, Bool, true, List, [], ◌∷◌, nat_le}
use Rattle.tb_prim.specs.declared.place.Place.{Place}
use Rattle.tb_image.specs.Format.{Format, done, field}

-- the number of these bytes, behind those of which this is the number
abbrev pub value_from : ℕ → List ℕ → ℕ
value_from high [] = high
value_from high (b ∷ bs) = value_from (256 * high + b) bs

abbrev pub value_of : List ℕ → ℕ
value_of bytes = value_from 0 bytes

-- a number of so many bytes that keeps a rule
abbrev pub number : {A : Type 0} → ℕ → (ℕ → Bool) → (ℕ → Format A) → Format A
number n rule next = field n (λ bytes. rule (value_of bytes)) (λ bytes. next (value_of bytes))

-- every value
abbrev pub any : {X : Type 0} → X → Bool
any x = true

-- 0 or 1
abbrev pub is_flag : ℕ → Bool
is_flag n = nat_le n 1

-- a place: 0 in the program or 1 in the library, which may have a further rule, then the line and the column
abbrev pub place_format : (ℕ → Bool) → Format Place
place_format rule =
    number 1 rule (λ library.
    number 4 any (λ line.
    number 4 any (λ column.
    done (record { library = library == 1; line = line; column = column }))))
