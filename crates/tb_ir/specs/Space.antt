-- What a state of the machine of values holds: the frames that wait for a procedure to come back, the procedures
-- that can be reached, and the words of the globals and of all other items that are static or can be reached.
use Rattle.std.specs.Prelude.{ℕ, ◌+◌, Bool, true, false, List, [], ◌∷◌, ◌++◌, length, Option, Some, None, slice_get}
use Rattle.tb_semantics.specs.Graph.{Graph, below, total}
use Rattle.tb_core.specs.Store.{Value, object_size}
use Rattle.tb_core.specs.Space.{value_locations, values_locations, object_locations}
use Rattle.tb_ir.specs.Machine.{Item, Cell, Obj, Clo, Callee, Closure, Lifted, Control, Eval, Bound, Val, Entering, Work, Top, Own, Frame, Config, State, Language, config_of}
use Rattle.tb_ir.specs.TreeMachine.{env_values}

-- how many frames are marked
abbrev pub one_if : Bool → ℕ
one_if true = 1
one_if false = 0

abbrev pub marks : {W : Type 0} → List (Frame W) → ℕ
marks [] = 0
marks (f ∷ fs) = one_if f.marked + marks fs

-- the locations that an item leads to
abbrev pub item_locations : Item → List ℕ
item_locations (Cell v) = value_locations v
item_locations (Obj o) = object_locations o
item_locations (Clo m r) = values_locations (env_values r)

-- the locations that a control and the frames have, where `values` gives the values of a frame of the language
abbrev pub callee_locations : Callee → List ℕ
callee_locations (Closure l) = l ∷ []
callee_locations (Lifted m) = []

abbrev pub control_locations : {C : Type 0} → Control C → List ℕ
control_locations (Eval e r) = values_locations (env_values r)
control_locations (Bound e r) = values_locations (env_values r)
control_locations (Val v) = value_locations v
control_locations (Entering callee vs) = callee_locations callee ++ values_locations vs

abbrev pub work_locations : {W : Type 0} → (W → List Value) → Work W → List ℕ
work_locations values (Top k) = []
work_locations values (Own w) = values_locations (values w)

abbrev pub frames_locations : {W : Type 0} → (W → List Value) → List (Frame W) → List ℕ
frames_locations values [] = []
frames_locations values (f ∷ fs) = work_locations values f.work ++ frames_locations values fs

-- the item at a location: what it leads to, whether it is a procedure, and the words of one that is not
abbrev pub locations_of : Option Item → List ℕ
locations_of None = []
locations_of (Some i) = item_locations i

abbrev pub closures_in : Item → ℕ
closures_in (Cell v) = 0
closures_in (Obj o) = 0
closures_in (Clo m r) = 1

abbrev pub words_in : Item → ℕ
words_in (Cell v) = 2
words_in (Obj o) = object_size o
words_in (Clo m r) = 0

abbrev pub of_item : (Item → ℕ) → Option Item → ℕ
of_item size None = 0
of_item size (Some i) = size i

-- the store as a graph: control, frames, globals and the static objects, of which there are so many and which
-- have the first locations, reach it
abbrev pub store_graph : {C W : Type 0} → (W → List Value) → ℕ → Config C W → Graph
store_graph values statics c = record {
  count = length c.store;
  next = λ l. locations_of (slice_get c.store l);
  roots = below statics ++
      (control_locations c.control ++ (frames_locations values c.frames ++ values_locations c.globals));
}

-- a measure of the items, summed over those that are static or can be reached
abbrev pub reached : {C W : Type 0} → (Item → ℕ) → Language C W → ℕ → Config C W → ℕ
reached size x statics c = total (λ l. of_item size (slice_get c.store l)) (store_graph x.values statics c)

-- the procedures and the words of all items that were made so far, static ones included
abbrev pub made : List Item → ℕ
made [] = 0
made (i ∷ st) = (closures_in i + words_in i) + made st

-- the same of a state, where so many objects are static
abbrev pub frames_of : {C W : Type 0} → State C W → ℕ
frames_of s = marks (config_of s).frames

abbrev pub closures_of : {C W : Type 0} → Language C W → ℕ → State C W → ℕ
closures_of x statics s = reached closures_in x statics (config_of s)

abbrev pub words_of : {C W : Type 0} → Language C W → ℕ → State C W → ℕ
words_of x statics s = length (config_of s).globals + reached words_in x statics (config_of s)

abbrev pub made_of : {C W : Type 0} → State C W → ℕ
made_of s = made (config_of s).store
