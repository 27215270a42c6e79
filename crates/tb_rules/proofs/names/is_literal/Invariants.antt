use Rattle.std.proofs.Common.{◌≡◌, drop}
use Rattle.tb_rules.specs.Names.{is_literal}
use Rattle.tb_rules.specs.View.{data_of}
use Rattle.tb_rules.proofs.names.is_literal.Given as goal

abbrev pub invariant-loop-literal : goal.invariant-loop-literal
invariant-loop-literal l = is_literal (data_of (drop l.literal-index l.literals)) l.text l.alias ≡ is_literal (data_of l.literals) l.text l.alias
