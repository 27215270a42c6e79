use Rattle.std.proofs.Common.{◌≢◌, ℕ, ◌<◌, slice_index_or}
use Rattle.tb_moves.specs.declared.loc.Loc.{Loc}
use Rattle.tb_moves.proofs.order.reader_of.Given as goal

-- none of the moves before has the source
abbrev pub invariant-loop-index : goal.invariant-loop-index
invariant-loop-index l = (k : ℕ) (d : Loc × Loc) → k < l.index → (slice_index_or l.pending k d).1 ≢ l.target
