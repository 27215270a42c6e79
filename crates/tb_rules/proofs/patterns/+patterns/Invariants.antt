use Rattle.std.proofs.Common.{◌≡◌, drop, false}
use Rattle.std.specs.Prelude.{◌<◌}
use Rattle.tb_rules.specs.Patterns.{are_patterns, all_patterns}
use Rattle.tb_rules.specs.View.{data_of}
use Rattle.tb_rules.proofs.patterns.+patterns.Given as goal

abbrev pub invariant-all_patterns-loop-datum : goal.invariant-all_patterns-loop-datum
invariant-all_patterns-loop-datum l = all_patterns (data_of (drop l.datum-index l.datums)) ≡ all_patterns (data_of l.datums)

abbrev pub invariant-are_patterns-loop-i : goal.invariant-are_patterns-loop-i
invariant-are_patterns-loop-i l = are_patterns l.behind (data_of (drop l.i l.elements)) ≡ are_patterns false (data_of l.elements)
