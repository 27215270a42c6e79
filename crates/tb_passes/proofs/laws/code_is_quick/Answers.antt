use Rattle.std.proofs.Common.{◌+◌, ◌*◌, ◌≤◌, arith, length}
use Rattle.std.proofs.Math.Nat.{mul-le-mul_right}
use Rattle.tb_core.specs.Width as core
use Rattle.tb_mac.specs.Bounds.{window_bound}
use Rattle.tb_passes.specs.Passes.{anf_of, program_code}
use Rattle.tb_passes.proofs.laws.code_is_quick.Goals as goal

pub returns : goal.returns
returns c = record {
  law = λ p ok heap input n m rest es e.
      let rules = c.normal_form_fits.ensures.rules p ok in
      let fits = c.normal_form_fits.ensures.fits p ok in
      let sum = c.normal_form_fits.ensures.square_sum p ok in
      let quick = c.code_is_quick.ensures.quick (anf_of p) rules fits heap input n m rest es e in
      let short = c.code_is_short.ensures.short (anf_of p) rules fits in
      let window = c.windows_are_short.ensures.short (program_code p).code in
      let more : (window_bound (program_code p).code + 2) * (length es + 1) ≤ (8 * core.square_sum p + 10) * (length es + 1) =
      mul-le-mul_right (length es + 1) (omega arith) in
      omega (arith, quick, more);
}
