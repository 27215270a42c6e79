-- Locations that are there: those of the items of a store.
use Rattle.std.specs.Prelude.{◌≡◌, ℕ, ◌<◌, List, length, Some, slice_get}
use Rattle.tb_semantics.specs.Graph.{Graph, IsApart, IsIn, Reaches}
use Rattle.tb_semantics.specs.Runs.{after}
use Rattle.tb_core.specs.OperandOrder.{order_of}
use Rattle.tb_core.specs.Reference.{Config, config_of, reference}
use Rattle.tb_core.specs.Space.{store_graph}
use Rattle.tb_core.specs.Store.{Item}
use Rattle.tb_core.specs.Tree.{ProgramTree}

-- the configuration that a run of a program comes to after so many steps
abbrev pub config_at : ProgramTree → List ℕ → ℕ → Config
config_at p input n = config_of (after (reference p (order_of p) input) n)

-- the store of a configuration in a run of a program, as the graph that its space is measured by
abbrev pub graph_at : ProgramTree → List ℕ → ℕ → Graph
graph_at p input n = store_graph (length p.statics) (config_at p input n)

-- each location that the control, the frames, the globals or the static objects have is there
abbrev pub HoldsThere : ℕ → Config → Type 0
HoldsThere statics c = (l : ℕ) → IsIn l (store_graph statics c).roots → l < length c.store

-- each location that an item of the store has is there
abbrev pub LeadsThere : ℕ → Config → Type 0
LeadsThere statics c = (k l : ℕ) → IsIn l ((store_graph statics c).next k) → l < length c.store

-- an item stands at the location
abbrev pub HasItem : Config → ℕ → Type 0
HasItem c l = (i : Item) × (slice_get c.store l ≡ Some i)

-- the list has each location that can be reached, and no other, once
pub record ListsReached (g : Graph) (xs : List ℕ) : Type 0 where
  pub apart : IsApart xs
  pub sound : (l : ℕ) → IsIn l xs → Reaches g l
  pub full : (l : ℕ) → Reaches g l → IsIn l xs
