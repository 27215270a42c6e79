use Rattle.std.proofs.Common.{◌≡◌, drop}
use Rattle.tb_rules.specs.Names.{are_names}
use Rattle.tb_rules.specs.View.{data_of}
use Rattle.tb_rules.proofs.names.are_names.Given as goal

abbrev pub invariant-loop-datum : goal.invariant-loop-datum
invariant-loop-datum l = are_names (data_of (drop l.datum-index l.datums)) ≡ are_names (data_of l.datums)
