use Rattle.std.proofs.Common.{◌≡◌, ◌++◌, drop, map}
use Rattle.tb_rules.specs.Rules.{rules_of}
use Rattle.tb_rules.specs.View.{data_of, view_rule}
use Rattle.tb_rules.proofs.copies.copy_rules.Given as goal

abbrev pub invariant-loop-datum : goal.invariant-loop-datum
invariant-loop-datum l = map view_rule l.out.items ++ rules_of (data_of (drop l.datum-index l.datums)) ≡ rules_of (data_of l.datums)
