-- Live maps as lists of bits.
use Rattle.std.specs.Prelude.{ℕ, suc, ◌+◌, ◌*◌, ◌==◌, ◌||◌, Bool, true, false, cond, List, [], ◌∷◌, replicate, slice_set, Option, Some, None}
use Rattle.tb_prim.specs.declared.place.Place.{Place}
use Rattle.tb_mac.specs.declared.code.Instr.{Instr}
use Rattle.tb_mac.specs.declared.item.Item.{Item}
use Rattle.tb_mac.specs.declared.item.Item.TheVariants.{Ins}

-- the number with these bits, the first of which has this weight
abbrev pub number_from : ℕ → List Bool → ℕ
number_from w [] = 0
number_from w (b ∷ bs) = cond b w 0 + number_from (2 * w) bs

abbrev pub no_registers : List Bool
no_registers = replicate 17 false

abbrev pub with_bit : List Bool → ℕ → List Bool
with_bit bs a = slice_set bs a true

abbrev pub one_register : ℕ → List Bool
one_register a = with_bit no_registers a

-- one of these variables has this slot
abbrev pub is_home : (ℕ → ℕ) → List ℕ → ℕ → Bool
is_home home [] h = false
is_home home (x ∷ xs) h = (h == home x) || is_home home xs h

-- slots from a number on, and those of these variables
abbrev pub with_slots : (ℕ → ℕ) → List ℕ → ℕ → List Bool → List Bool
with_slots home xs h [] = []
with_slots home xs h (b ∷ bs) = (is_home home xs h || b) ∷ with_slots home xs (suc h) bs

-- an instruction with the own frame there, and one without it
abbrev pub here_item : Instr → List Bool → List Bool → Option Place → Item
here_item i rs ss p = Ins i (record { regs = number_from 1 rs; slots = Some ss }) p

abbrev pub away_item : Instr → List Bool → Option Place → Item
away_item i rs p = Ins i (record { regs = number_from 1 rs; slots = None }) p
