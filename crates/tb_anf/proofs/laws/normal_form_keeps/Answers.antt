use Rattle.tb_anf.proofs.Keeping.{normal-form-keeps}
use Rattle.tb_anf.proofs.laws.normal_form_keeps.Goals as goal

pub returns : goal.returns
returns c = record { law = normal-form-keeps }
