-- What the parts of the walk read of a machine, and the graph that they follow.
use Rattle.std.specs.Prelude.{ℕ, cond, nat_lt, List, [], length, slice_get}
use Rattle.tb_semantics.specs.Graph.{Graph}
use Rattle.tb_mac.specs.declared.word.Word.{Word}
use Rattle.tb_mac.specs.Frames.{Framed}
use Rattle.tb_mac.specs.LiveWords.{object_size, pointing_words, targets_from}
use Rattle.tb_mac.specs.MacStep.{Mac}

-- the same instruction and registers, with no memory: its live words are the live registers
abbrev pub without_memory : Mac → Framed
without_memory m = record { pc = m.pc; registers = m.registers; heap = []; gap = []; frames = []; ahead = m.ahead }

-- the objects of a heap, with some roots
abbrev pub heap_graph : List Word → List ℕ → Graph
heap_graph heap roots = record {
  count = length heap;
  next = λ a. targets_from heap a (pointing_words (slice_get heap a));
  roots = roots;
}

-- the words of an object that does not stand below `start`
abbrev pub size_from : List Word → ℕ → ℕ → ℕ
size_from memory start a = cond (nat_lt a start) 0 (object_size (slice_get memory a))
