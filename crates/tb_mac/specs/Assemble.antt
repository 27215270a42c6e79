-- What an assembler makes of items: instructions that name labels, and labels that stand before instructions. Each
-- label that is named becomes the number of the instruction before which it stands.
use Rattle.std.specs.Prelude.{◌≡◌, ℕ, suc, ◌+◌, ◌<◌, ◌≤◌, ◌^◌, cond, ◌==◌, List, [], ◌∷◌, ◌++◌, map, length, All, Option, Some, None, is_some, slice_get}
use Rattle.tb_prim.specs.declared.place.Place.{Place}
use Rattle.tb_semantics.specs.Graph.{IsIn, IsApart}
use Rattle.tb_mac.specs.declared.code.Instr.{Instr}
use Rattle.tb_mac.specs.declared.code.Instr.TheVariants.{Proc, SetRtn, Jump, Brf, Clo}
use Rattle.tb_mac.specs.declared.code.LiveMap.{LiveMap}
use Rattle.tb_mac.specs.declared.code.LambdaEntry.{LambdaEntry}
use Rattle.tb_mac.specs.declared.code.Parts.{Parts}
use Rattle.tb_mac.specs.declared.code.PlaceEntry.{PlaceEntry}
use Rattle.tb_mac.specs.declared.item.Item.{Item}
use Rattle.tb_mac.specs.declared.item.Item.TheVariants.{Label, Ins}
use Rattle.tb_mac.specs.Assembled.{Assembled}
use Rattle.tb_mac.specs.Rules.{InstrOk, MapOk, PartsOk, instr_can_fail}
use Rattle.tb_mac.specs.Words.{on_some}

-- the labels that stand among items, in their order
abbrev pub labels : List Item → List ℕ
labels [] = []
labels (Label l ∷ is) = l ∷ labels is
labels (Ins i m p ∷ is) = labels is

-- the instructions of items, with their labels
abbrev pub instructions : List Item → List Instr
instructions [] = []
instructions (Label l ∷ is) = instructions is
instructions (Ins i m p ∷ is) = i ∷ instructions is

-- where the first of the labels with this number stands: the number of the next instruction, where the first of
-- the items is behind n of them
abbrev pub stands_at : ℕ → ℕ → List Item → Option ℕ
stands_at l n [] = None
stands_at l n (Label k ∷ is) = cond (k == l) (Some n) (stands_at l n is)
stands_at l n (Ins i m p ∷ is) = stands_at l (suc n) is

-- the number that a label becomes
abbrev pub number_of : List Item → ℕ → ℕ
number_of items l = on_some (stands_at l 0 items) 0 (λ n. n)

-- the label or the number that an instruction names
abbrev pub target : Instr → List ℕ
target (SetRtn x) = x ∷ []
target (Jump x) = x ∷ []
target (Brf a x) = x ∷ []
target (Clo a n x) = x ∷ []
target _ = []

-- an instruction that names another number in place of its own
abbrev pub with_target : (ℕ → ℕ) → Instr → Instr
with_target to (SetRtn x) = SetRtn (to x)
with_target to (Jump x) = Jump (to x)
with_target to (Brf a x) = Brf a (to x)
with_target to (Clo a n x) = Clo a n (to x)
with_target to i = i

abbrev pub with_entry : (ℕ → ℕ) → LambdaEntry → LambdaEntry
with_entry to l = record l { entry = to l.entry }

abbrev pub with_entries : (ℕ → ℕ) → Parts → Parts
with_entries to parts = record parts { lambdas = map (with_entry to) parts.lambdas }

-- the maps of the instructions
abbrev pub item_maps : List Item → List LiveMap
item_maps [] = []
item_maps (Label l ∷ is) = item_maps is
item_maps (Ins i m p ∷ is) = m ∷ item_maps is

-- the places that are given, with the numbers of their instructions, of which the first has number n
abbrev pub placed_at : ℕ → Option Place → List PlaceEntry
placed_at n None = []
placed_at n (Some p) = record { instr = n; place = p } ∷ []

abbrev pub item_places : ℕ → List Item → List PlaceEntry
item_places n [] = []
item_places n (Label l ∷ is) = item_places n is
item_places n (Ins i m p ∷ is) = placed_at n p ++ item_places (suc n) is

-- the code of items: labels are numbers of instructions, in the entries of the lambdas too
abbrev pub assembled : Parts → List Item → Assembled
assembled parts items =
    let to = number_of items in
    record {
      parts = with_entries to parts;
      code = map (with_target to) (instructions items);
      maps = item_maps items;
      places = item_places 0 items;
    }

-- the labels that are named: by the instructions in their order, and then by the entries
abbrev pub targets : List Instr → List ℕ
targets [] = []
targets (i ∷ is) = target i ++ targets is

abbrev pub entry_labels : List LambdaEntry → List ℕ
entry_labels ls = map (λ (l : LambdaEntry). l.entry) ls

abbrev pub named_labels : Parts → List Item → List ℕ
named_labels parts items = targets (instructions items) ++ entry_labels parts.lambdas

-- the first label that stood before
pub record IsTwice (items : List Item) (l : ℕ) : Type 0 where
  pub before : List ℕ
  pub behind : List ℕ
  pub stands : labels items ≡ before ++ l ∷ behind
  pub apart : IsApart before
  pub stood : IsIn l before

-- the first label that is named and stands nowhere
pub record IsMissing (parts : Parts) (items : List Item) (l : ℕ) : Type 0 where
  pub before : List ℕ
  pub behind : List ℕ
  pub named : named_labels parts items ≡ before ++ l ∷ behind
  pub found : (k : ℕ) → IsIn k before → IsIn k (labels items)
  pub nowhere : IsIn l (labels items) → ⊥

-- no label stands twice, and each that is named stands somewhere
pub record AreResolved (parts : Parts) (items : List Item) : Type 0 where
  pub apart : IsApart (labels items)
  pub found : (k : ℕ) → IsIn k (named_labels parts items) → IsIn k (labels items)

-- an instruction keeps the rules of its fields with any label as its target; its map keeps the rules; it has a
-- place exactly where it can fail
abbrev pub ItemOk : Parts → Item → Type 0
ItemOk parts (Label l) = Unit {0}
ItemOk parts (Ins i m p) = InstrOk parts 1 (with_target (λ l. 0) i) × MapOk m × (is_some p ≡ instr_can_fail i)

-- the label of an entry that stands somewhere stands before the `proc` of that lambda's number
abbrev pub EntryStands : List Item → ℕ → LambdaEntry → Type 0
EntryStands items n l =
    (at : ℕ) → stands_at l.entry 0 items ≡ Some at → slice_get (instructions items) at ≡ Some (Proc n)

-- items that can be assembled: 1 to 2^24 - 1 instructions, each label before one of them
pub record ItemsOk (parts : Parts) (items : List Item) : Type 0 where
  pub parts_ok : PartsOk parts
  pub items_ok : All (ItemOk parts) items
  pub some : 1 ≤ length (instructions items)
  pub few : length (instructions items) < 2 ^ 24
  pub labels_before : (l at : ℕ) → stands_at l 0 items ≡ Some at → at < length (instructions items)
  pub entries : (n : ℕ) (l : LambdaEntry) → slice_get parts.lambdas n ≡ Some l → EntryStands items n l
