use Rattle.tb_passes.specs.Passes.{anf_of}
use Rattle.tb_scrubbed.proofs.Lockstep.{scrubbed-same}
use Rattle.tb_scrubbed.proofs.laws.scrubbed_run_does_the_same.Goals as goal

pub returns : goal.returns
returns c = record { law = λ p ok. scrubbed-same (anf_of p) (c.normal_form_fits.ensures.rules p ok) (c.normal_form_fits.ensures.fits p ok) }
