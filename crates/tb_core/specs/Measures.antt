-- The reference machine with what its states hold, which is what the passes keep.
use Rattle.std.specs.Prelude.{ℕ, ◌+◌, Bool, true, false, List, [], ◌∷◌, length, Option, Some, None, slice_get}
use Rattle.tb_prim.specs.declared.event.Event.{Event}
use Rattle.tb_semantics.specs.Graph.{total}
use Rattle.tb_semantics.specs.Keeps.{Shape, Measured}
use Rattle.tb_core.specs.Tree.{ProgramTree}
use Rattle.tb_core.specs.OperandOrder.{Line}
use Rattle.tb_core.specs.Store.{Item, Var, Obj, Clo, object_size}
use Rattle.tb_core.specs.Reference.{Frame, Config, State, config_of, reference}
use Rattle.tb_core.specs.Space.{store_graph}

-- how many frames are marked
abbrev pub one_if : Bool → ℕ
one_if true = 1
one_if false = 0

abbrev pub marks : List Frame → ℕ
marks [] = 0
marks (f ∷ fs) = one_if f.marked + marks fs

-- procedures are counted, and of the other items the words
abbrev pub closures_in : Item → ℕ
closures_in (Var v) = 0
closures_in (Obj o) = 0
closures_in (Clo m r) = 1

abbrev pub words_in : Item → ℕ
words_in (Var v) = 2
words_in (Obj o) = object_size o
words_in (Clo m r) = 0

abbrev pub of_item : (Item → ℕ) → Option Item → ℕ
of_item size None = 0
of_item size (Some i) = size i

-- a measure of the items, summed over those that are static or can be reached
abbrev pub reached : (Item → ℕ) → ℕ → Config → ℕ
reached size statics c = total (λ l. of_item size (slice_get c.store l)) (store_graph statics c)

abbrev pub shape_of : ℕ → State → Shape
shape_of statics s =
    let c = config_of s in
    record { frames = marks c.frames; closures = reached closures_in statics c; words = length c.globals + reached words_in statics c }

-- the procedures and the words of all items that were made so far, static ones included
abbrev pub items_made : List Item → ℕ
items_made [] = 0
items_made (i ∷ st) = (closures_in i + words_in i) + items_made st

-- the reference machine of a program, with its order and the input; it has no memory that fills
abbrev pub reference_measured : ProgramTree → List Line → List ℕ → Measured Event State
reference_measured p order input = record {
  machine = reference p order input;
  shape = shape_of (length p.statics);
  made = λ s. items_made (config_of s).store;
  is_full = λ s. false;
}
