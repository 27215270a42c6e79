use Rattle.tb_passes.specs.Passes.{anf_of}
use Rattle.tb_bounds.proofs.laws.states_are_walkable.Goals as goal

pub returns : goal.returns
returns c = record {
  law = λ p ok.
      c.code_is_walkable.ensures.walkable (anf_of p) (c.normal_form_fits.ensures.rules p ok)
      (c.normal_form_fits.ensures.fits p ok);
}
