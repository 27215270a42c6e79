use Rattle.std.proofs.Common.{◌≡◌, vec_len}
use Rattle.tb_space.proofs.search.Search.clear.Given as goal

abbrev pub invariant-loop-at : goal.invariant-loop-at
invariant-loop-at l = vec_len l.self.marks ≡ vec_len l.initial.self.marks

abbrev pub decreases-loop-at : goal.decreases-loop-at
decreases-loop-at l = vec_len l.self.found
