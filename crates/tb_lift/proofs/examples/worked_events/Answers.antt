use Rattle.std.proofs.Common.{refl}
use Rattle.tb_lift.proofs.examples.worked_events.Goals as goal

pub returns : goal.returns
returns c = record {
  let_bound = (60, refl);
  let_bound_lifted = (60, refl);
  letrec_bound = (60, refl);
  both = (60, refl);
  second = (60, refl);
}
