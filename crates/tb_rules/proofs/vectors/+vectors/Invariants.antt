use Rattle.std.proofs.Common.{◌≡◌, drop}
use Rattle.tb_rules.specs.Compiled.{first_vector_among}
use Rattle.tb_rules.specs.View.{data_of}
use Rattle.tb_rules.proofs.vectors.+vectors.Given as goal

abbrev pub invariant-first_vector_among-loop-datum : goal.invariant-first_vector_among-loop-datum
invariant-first_vector_among-loop-datum l = first_vector_among (data_of (drop l.datum-index l.datums)) ≡ first_vector_among (data_of l.datums)
