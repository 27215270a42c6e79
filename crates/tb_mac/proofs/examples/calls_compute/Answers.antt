use Rattle.std.proofs.Common.{refl}
use Rattle.tb_mac.specs.MacStep.{walk_list}
use Rattle.tb_mac.proofs.examples.calls_compute.Goals as goal

pub returns : goal.returns
unfolding walk_list
returns c = record { call = refl; rest_list = refl; short_list = refl; too_few = refl; applied = refl; no_list = refl; circle = refl }
