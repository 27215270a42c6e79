use Rattle.std.proofs.Common.{refl}
use Rattle.tb_rules.specs.Names.{is_dots, same_name}
use Rattle.tb_rules.proofs.examples.worked_forms.Goals as goal

pub returns : goal.returns
unfolding is_dots same_name
returns c = record {
  nested = λ p. refl;
  dotted = λ p. refl;
  literal = λ p. refl;
  middle = λ p. refl;
  twice = λ p. refl;
  uneven = λ p. refl;
  vector = λ p q. refl;
}
