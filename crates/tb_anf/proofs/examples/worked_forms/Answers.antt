use Rattle.std.proofs.Common.{refl}
use Rattle.tb_anf.proofs.examples.worked_forms.Goals as goal

pub returns : goal.returns
returns c = record {
  rows = (refl, (refl, (refl, (refl, (refl, (refl, (refl, (refl, (refl, (refl, (refl, (refl, (refl, (refl, tt))))))))))))));
}
