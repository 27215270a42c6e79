use Rattle.std.proofs.Common.{◌≡◌, drop}
use Rattle.tb_rules.specs.Compiled.{are_good}
use Rattle.tb_rules.specs.View.{data_of}
use Rattle.tb_rules.proofs.compile.are_good.Given as goal

abbrev pub invariant-loop-rule : goal.invariant-loop-rule
invariant-loop-rule l = are_good (data_of l.literals) (data_of (drop l.rule-index l.rules)) ≡ are_good (data_of l.literals) (data_of l.rules)
