-- The space of a configuration of the reference machine, in words (after Clinger 1998): its control, its
-- frames, its globals, and each item that is static or that it can still reach, once.
use Rattle.std.specs.Prelude.{ℕ, ◌+◌, List, [], ◌∷◌, ◌++◌, length, Option, Some, None, slice_get}
use Rattle.tb_semantics.specs.Graph.{Graph, below, total}
use Rattle.tb_core.specs.Tree.{ProgramTree}
use Rattle.tb_core.specs.Store.{Value, At, Env, Empty, Bind, Object, Pair, Vec, Str, Sym, Item, Var, Obj, Clo, env_size, flat_size}
use Rattle.tb_core.specs.Reference.{Control, Eval, Bound, Val, Entering, Work, Sel, SetVar, SetGlo, Rest, Args, Top, Frame, Config, State, config_of}

-- the words of a control: the variables of its environment; a value; a procedure and its operands
abbrev pub control_words : Control → ℕ
control_words (Eval e r) = env_size r
control_words (Bound e r) = env_size r
control_words (Val v) = 1
control_words (Entering l vs) = 1 + length vs

-- the words of what waits: its variables and the values that are done, where the assignment of a variable
-- has one variable
abbrev pub work_words : Work → ℕ
work_words (Sel a b r) = env_size r
work_words (SetVar l) = 1
work_words (SetGlo g defines p) = 0
work_words (Rest es r) = env_size r
work_words (Args p s f vs r) = env_size r + length vs
work_words (Top k) = 0

-- the words of frames, each with one of its own
abbrev pub frames_words : List Frame → ℕ
frames_words [] = 0
frames_words (f ∷ fs) = (1 + work_words f.work) + frames_words fs

-- the configuration's own words, one for each global
abbrev pub own_words : Config → ℕ
own_words c = control_words c.control + (frames_words c.frames + length c.globals)

-- the locations that a value, some values or an environment have
abbrev pub value_locations : Value → List ℕ
value_locations (At l) = l ∷ []
value_locations _ = []

abbrev pub values_locations : List Value → List ℕ
values_locations [] = []
values_locations (v ∷ vs) = value_locations v ++ values_locations vs

abbrev pub env_locations : Env → List ℕ
env_locations Empty = []
env_locations (Bind x l r) = l ∷ env_locations r

-- the locations that an object or an item leads to
abbrev pub object_locations : Object → List ℕ
object_locations (Pair a b) = value_locations a ++ value_locations b
object_locations (Vec vs) = values_locations vs
object_locations (Str cs) = []
object_locations (Sym cs) = []

abbrev pub item_locations : Item → List ℕ
item_locations (Var v) = value_locations v
item_locations (Obj o) = object_locations o
item_locations (Clo l r) = env_locations r

-- the locations that a control, what waits, and the frames have
abbrev pub control_locations : Control → List ℕ
control_locations (Eval e r) = env_locations r
control_locations (Bound e r) = env_locations r
control_locations (Val v) = value_locations v
control_locations (Entering l vs) = l ∷ values_locations vs

abbrev pub work_locations : Work → List ℕ
work_locations (Sel a b r) = env_locations r
work_locations (SetVar l) = l ∷ []
work_locations (SetGlo g defines p) = []
work_locations (Rest es r) = env_locations r
work_locations (Args p s f vs r) = values_locations vs ++ env_locations r
work_locations (Top k) = []

abbrev pub frames_locations : List Frame → List ℕ
frames_locations [] = []
frames_locations (f ∷ fs) = work_locations f.work ++ frames_locations fs

-- the item at a location: what it leads to, and its size
abbrev pub locations_of : Option Item → List ℕ
locations_of None = []
locations_of (Some i) = item_locations i

abbrev pub size_of : Option Item → ℕ
size_of None = 0
size_of (Some i) = flat_size i

abbrev pub size_at : List Item → ℕ → ℕ
size_at st l = size_of (slice_get st l)

-- the store as a graph; control, frames, globals and the static objects, of which there are so many and
-- which have the first locations, reach it
abbrev pub store_graph : ℕ → Config → Graph
store_graph statics c = record {
  count = length c.store;
  next = λ l. locations_of (slice_get c.store l);
  roots = below statics ++ (control_locations c.control ++ (frames_locations c.frames ++ values_locations c.globals));
}

-- the space of a configuration: its own words, and the flat sizes of the items that it reaches
abbrev pub space : ℕ → Config → ℕ
space statics c = own_words c + total (size_at c.store) (store_graph statics c)

-- the flat sizes of the items of a store, which are all that were made so far, static ones included
abbrev pub made : List Item → ℕ
made [] = 0
made (i ∷ st) = flat_size i + made st

-- the same of a state in a run of a program
abbrev pub space_of : ProgramTree → State → ℕ
space_of p s = space (length p.statics) (config_of s)

abbrev pub made_of : State → ℕ
made_of s = made (config_of s).store
