use Rattle.std.proofs.Common.{arith}
use Rattle.tb_passes.specs.Passes.{anf_of}
use Rattle.tb_bounds.proofs.laws.bounds_are_narrow.Goals as goal

pub returns : goal.returns
returns c = record {
  law = λ p ok.
      let factor = c.frames_are_narrow.ensures.factor (anf_of p) (c.normal_form_fits.ensures.rules p ok) (c.normal_form_fits.ensures.fits p ok) in
      let width = c.normal_form_fits.ensures.width p ok in
      omega (arith, factor, width);
}
