-- Laws of images.
use Rattle.std.specs.Prelude.{◌≡◌, ◌⊎◌, ◌↔◌, ℕ, List, ◌++◌}
use Rattle.tb_image.specs.Format.{Format, Spells, Refused, then}

-- any bytes are a value's, or they are refused
abbrev pub SomeAnswer : {A : Type 0} → Format A → Type 0
SomeAnswer {A} f = (bytes : List ℕ) → ((a : A) × Spells f bytes a) ⊎ ((at : ℕ) × Refused f bytes at)

-- and not both
abbrev pub OneAnswer : {A : Type 0} → Format A → Type 0
OneAnswer {A} f = (bytes : List ℕ) (a : A) (at : ℕ) → Spells f bytes a → Refused f bytes at → ⊥

-- of one value
abbrev pub OneValue : {A : Type 0} → Format A → Type 0
OneValue {A} f = (bytes : List ℕ) (a b : A) → Spells f bytes a → Spells f bytes b → a ≡ b

-- at one offset
abbrev pub OneOffset : {A : Type 0} → Format A → Type 0
OneOffset f = (bytes : List ℕ) (i j : ℕ) → Refused f bytes i → Refused f bytes j → i ≡ j

-- the bytes are a first part, which spells a value, and a rest, which spells what follows that value
pub record Parted {A B : Type 0} (f : Format A) (next : A → Format B) (bytes : List ℕ) (b : B) : Type 0 where
  pub first : List ℕ
  pub rest : List ℕ
  pub value : A
  pub whole : bytes ≡ first ++ rest
  pub begins : Spells f first value
  pub ends : Spells (next value) rest b

-- a format and then another: its bytes are those of the one before those of the other
abbrev pub FollowsOn : (A B : Type 0) → Type 0
FollowsOn A B = (f : Format A) (next : A → Format B) (bytes : List ℕ) (b : B) → Spells (then f next) bytes b ↔ Parted f next bytes b
