use Rattle.std.proofs.Common.{◌≡◌, vec_len}
use Rattle.tb_expand.specs.Numbers.{unplaced}
use Rattle.tb_expand.specs.calls.Placing.{pairs_behind}
use Rattle.tb_expand.proofs.numbers.statics.finish_pairs.Given as goal

abbrev pub decreases-loop-constant : goal.decreases-loop-constant
decreases-loop-constant l = vec_len l.constants

abbrev pub invariant-loop-constant : goal.invariant-loop-constant
invariant-loop-constant l = pairs_behind l.constants.items (unplaced l.statics.objects.items l.rest) ≡ pairs_behind l.initial.constants.items (unplaced l.initial.statics.objects.items l.initial.rest)
