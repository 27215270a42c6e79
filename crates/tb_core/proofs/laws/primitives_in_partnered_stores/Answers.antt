use Rattle.std.specs.Prelude.{IsTrue}
use Rattle.tb_core.specs.Partners.{pairs_of}
use Rattle.tb_core.proofs.Partners.{same-effect, same-walk}
use Rattle.tb_core.proofs.laws.primitives_in_partnered_stores.Goals as goal

pub returns : goal.returns
returns c = record {
  effects = λ partner marks st now h p vs ws r. same-effect (pairs_of partner) (IsTrue marks) st now h p r;
  walks = λ partner marks st now h n v w r. same-walk (pairs_of partner) (IsTrue marks) st now h n r;
}
