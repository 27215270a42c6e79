use Rattle.std.proofs.Common.{refl}
use Rattle.tb_rules.specs.Names.{is_dots, same_name}
use Rattle.tb_rules.proofs.examples.worked_matches.Goals as goal

pub returns : goal.returns
unfolding is_dots same_name
returns c = record {
  nested = λ same p. refl;
  tail = λ same p q r. refl;
  no_tail = λ same p q. refl;
  literal = λ p. refl;
  other_binding = λ p. refl;
  short = λ same p. refl;
  second = λ same p. refl;
}
