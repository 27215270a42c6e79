use Rattle.std.proofs.Common.{refl}
use Rattle.tb_rules.specs.Names.{is_dots, same_name}
use Rattle.tb_rules.proofs.examples.worked_instances.Goals as goal

pub returns : goal.returns
unfolding is_dots same_name
returns c = record {
  nested = λ alias p q. refl;
  inserted = λ p q. refl;
  uneven = λ alias p q. refl;
}
