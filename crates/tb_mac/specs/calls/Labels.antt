-- The table of the labels that stand among items, and why items are not assembled.
use Rattle.std.specs.Prelude.{◌≡◌, ℕ, suc, List, [], ◌∷◌, ◌++◌, Option, Some, None, nat_eq}
use Rattle.std.specs.Map.{lookup, keys_of}
use Rattle.tb_semantics.specs.Graph.{IsApart, IsIn}
use Rattle.tb_mac.specs.declared.refusal.AsmRefusal.{AsmRefusal}
use Rattle.tb_mac.specs.declared.refusal.AsmRefusal.TheVariants.{NoLabel, TwiceLabel, NoMemory}
use Rattle.tb_mac.specs.declared.code.Parts.{Parts}
use Rattle.tb_mac.specs.declared.item.Item.{Item}
use Rattle.tb_mac.specs.declared.item.Item.TheVariants.{Label, Ins}
use Rattle.tb_mac.specs.Assemble.{IsTwice, IsMissing, labels}
use Rattle.tb_mac.specs.Words.{on_some}

abbrev pub Table : Type 0
Table = List (ℕ × ℕ)

-- the labels of items with the numbers of their instructions, where the first of the items is behind n of these
abbrev pub labelled : ℕ → List Item → Table
labelled n [] = []
labelled n (Label l ∷ is) = (l, n) ∷ labelled n is
labelled n (Ins i m p ∷ is) = labelled (suc n) is

-- the number of a label of a table, or 0
abbrev pub number_in : Table → ℕ → ℕ
number_in es l = on_some (lookup (nat_eq l) es) 0 (λ n. n)

-- every label of a list has a number in a table
abbrev pub HasAll : Table → List ℕ → Type 0
HasAll es [] = Unit {0}
HasAll es (l ∷ ls) = IsIn l (keys_of es) × HasAll es ls

-- a label that a table has is refused
abbrev pub StoodBefore : Table → ℕ → AsmRefusal → Type 0
StoodBefore es l (TwiceLabel k) = (k ≡ l) × IsIn l (keys_of es)
StoodBefore es l (NoLabel k) = ⊥
StoodBefore es l NoMemory = Unit {0}

-- items with a label that stands twice are refused at the first
abbrev pub StandsTwice : List Item → AsmRefusal → Type 0
StandsTwice items (TwiceLabel l) = IsTwice items l
StandsTwice items (NoLabel l) = ⊥
StandsTwice items NoMemory = Unit {0}

-- the first label of a list that a table does not have
pub record IsFirstAbsent (es : Table) (ls : List ℕ) (l : ℕ) : Type 0 where
  pub before : List ℕ
  pub behind : List ℕ
  pub named : ls ≡ before ++ l ∷ behind
  pub found : HasAll es before
  pub absent : IsIn l (keys_of es) → ⊥

abbrev pub Misses : Table → List ℕ → AsmRefusal → Type 0
Misses es ls (TwiceLabel l) = ⊥
Misses es ls (NoLabel l) = IsFirstAbsent es ls l
Misses es ls NoMemory = Unit {0}
