use Rattle.tb_reference.specs.Locations.{config_at}
use Rattle.tb_reference.proofs.NamedLemmas.{all-held, all-led, all-reached, all-listed, all-counted}
use Rattle.tb_reference.proofs.NamedSteps.{named-at}
use Rattle.tb_reference.proofs.laws.locations_are_there.Goals as goal

pub returns : goal.returns
returns c = record {
  held = λ p input n k. all-held p (config_at p input n) (named-at p k input n);
  led = λ p input n k. all-led p (config_at p input n) (named-at p k input n);
  reached = λ p input n l k. all-reached p (config_at p input n) (named-at p k input n) l;
  listed = λ p input n k. all-listed p (config_at p input n) (named-at p k input n);
  counted = λ p input n xs k. all-counted p (config_at p input n) (named-at p k input n) xs;
}
