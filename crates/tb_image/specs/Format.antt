-- Formats of bytes: fields that follow one another, each judged by its own bytes and by the fields before it.
use Rattle.std.specs.Prelude.{◌≡◌, ◌⊎◌, ℕ, zero, suc, ◌-◌, ◌<◌, ◌≤◌, Bool, true, false, List, [], ◌∷◌, ◌++◌, length, take, drop}

-- a value with no further byte, or a field of so many bytes that keep a rule, and the format of what follows them
pub data Format (A : Type 0) : Type 0 where
  done : A → Format A
  field : ℕ → (List ℕ → Bool) → (List ℕ → Format A) → Format A

-- the field is there whole, and keeps its rule
abbrev pub IsField : ℕ → (List ℕ → Bool) → List ℕ → Type 0
IsField n rule bytes = (n ≤ length bytes) × (rule (take n bytes) ≡ true)

-- the field is cut short, or it breaks its rule
abbrev pub IsBroken : ℕ → (List ℕ → Bool) → List ℕ → Type 0
IsBroken n rule bytes = (length bytes < n) ⊎ ((n ≤ length bytes) × (rule (take n bytes) ≡ false))

-- the bytes are this value's in the format
abbrev pub Spells : {A : Type 0} → Format A → List ℕ → A → Type 0
Spells (done a) bytes b = (bytes ≡ []) × (a ≡ b)
Spells (field n rule next) bytes b = IsField n rule bytes × Spells (next (take n bytes)) (drop n bytes) b

-- the bytes are no value's in the format, and the first field that is cut short or breaks its rule begins at this
-- offset; or all fields are there, and further bytes follow from this offset on
abbrev pub Refused : {A : Type 0} → Format A → List ℕ → ℕ → Type 0
Refused (done a) bytes at = (0 < length bytes) × (at ≡ 0)
Refused (field n rule next) bytes at =
    (IsBroken n rule bytes × (at ≡ 0)) ⊎ (IsField n rule bytes × (n ≤ at) × Refused (next (take n bytes)) (drop n bytes) (at - n))

-- a format, and then another that may depend on its value
abbrev pub then : {A B : Type 0} → Format A → (A → Format B) → Format B
then (done a) next = next a
then (field n rule after) next = field n rule (λ bytes. then (after bytes) next)

-- so many values one after another, each of a format that may depend on those before it
abbrev pub times : {A : Type 0} → (List A → Format A) → ℕ → List A → Format (List A)
times each zero before = done before
times each (suc n) before = then (each before) (λ a. times each n (before ++ (a ∷ [])))
