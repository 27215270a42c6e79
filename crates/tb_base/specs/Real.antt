-- What the sinks over real writers and the sources over real readers are seen as.
use Rattle.std.specs.Prelude.{ℕ, List, Option}

-- a sink over a writer: the bytes that the writer holds, where it tells them, and how many faults there were
pub record WriterState : Type 0 where
  pub held : Option (List ℕ)
  pub faults : ℕ

-- a source over a reader: the bytes that are left, where the reader tells them, and how many faults there were
pub record ReaderState : Type 0 where
  pub left : Option (List ℕ)
  pub faults : ℕ
