use Rattle.tb_reference.specs.Locations.{config_at}
use Rattle.tb_reference.proofs.NamedLemmas.{all-once, own-variables, size-variables}
use Rattle.tb_reference.proofs.NamedSteps.{named-at}
use Rattle.tb_reference.proofs.laws.environments_bind_once.Goals as goal

pub returns : goal.returns
returns c = record {
  once = λ p input n r k i. all-once p (config_at p input n) (named-at p k input n) r i;
  listed = λ p input n r k i. own-variables r (all-once p (config_at p input n) (named-at p k input n) r i);
  counted = λ p input n r xs k i h. size-variables r xs (all-once p (config_at p input n) (named-at p k input n) r i) h;
}
