-- What the sources, sinks and stores in memory are seen as.
use Rattle.std.specs.Prelude.{◌≡◌, ◌≢◌, ℕ, ◌<◌, List, [], ◌∷◌, length, slice_index_or, Option, Some, None, if◌then◌else◌}
use Rattle.std.specs.Str.{bytes_eq}
use Rattle.tb_base.specs.Calls.{Calls}
use Rattle.tb_base.specs.declared.entries.Entry.{Entry}

-- a source: the bytes left, its calls, and how many faults there were
pub record SourceState : Type 0 where
  pub left : List ℕ
  pub calls : Calls
  pub faults : ℕ

-- a sink: the bytes held, how many it has room for in all, its calls, and how many faults there were
pub record SinkState : Type 0 where
  pub held : List ℕ
  pub capacity : ℕ
  pub calls : Calls
  pub faults : ℕ

-- a store: its files, the names of the loads and of the saves that failed, and its calls
pub record StoreState : Type 0 where
  pub entries : List Entry
  pub failed_loads : List (List ℕ)
  pub failed_saves : List (List ℕ)
  pub calls : Calls

-- what a name holds: the bytes of the first entry of that name
abbrev pub file_of : List Entry → List ℕ → Option (List ℕ)
file_of [] name = None
file_of (entry ∷ entries) name = if bytes_eq entry.name name then Some entry.bytes else file_of entries name

-- the first entry of a name stands at this place
pub record IsFirstOf (entries : List Entry) (name : List ℕ) (place : ℕ) : Type 0 where
  pub within : place < length entries
  pub named : (d : Entry) → (slice_index_or entries place d).name ≡ name
  pub first : (k : ℕ) (d : Entry) → k < place → (slice_index_or entries k d).name ≢ name
