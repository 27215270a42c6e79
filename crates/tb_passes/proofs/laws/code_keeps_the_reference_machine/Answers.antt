use Rattle.std.proofs.Common.{◌^◌, refl, lit≤}
use Rattle.tb_semantics.proofs.KeepsLemmas.{keeps-trans}
use Rattle.tb_core.specs.Measures.{reference_measured}
use Rattle.tb_core.specs.OperandOrder.{order_of}
use Rattle.tb_ir.specs.Measures.{anf_measured, tree_measured}
use Rattle.tb_mac.specs.FramedRuns.{measured_machine}
use Rattle.tb_assign.specs.Eliminate.{cells_of}
use Rattle.tb_passes.specs.Passes.{anf_of, program_code}
use Rattle.tb_passes.proofs.Limits.{rules-more}
use Rattle.tb_passes.proofs.laws.code_keeps_the_reference_machine.Goals as goal

-- the three passes compose, slacks adding, since the machines between have no memory that fills
pub returns : goal.returns
returns c = record {
  law = λ p ok heap input.
      let rules = ok.rules in
      let anf_rules = c.normal_form_fits.ensures.rules p ok in
      let fits = c.normal_form_fits.ensures.fits p ok in
      let cells = cells_of p in
      let code = measured_machine (program_code p) heap input in
      let anf = anf_measured (anf_of p) input in
      let tree = tree_measured cells (order_of p) input in
      let source = reference_measured p (order_of p) input in
      let cells_rules = rules-more (2 ^ 27) (2 ^ 31) cells (lit≤ tt) (c.rules_keep.ensures.rules p rules) in
      keeps-trans code anf source 1 0 (λ n. refl) (c.code_keeps.ensures.keeps (anf_of p) anf_rules fits heap input)
      (keeps-trans anf tree source 0 0 (λ n. refl)
      (c.normal_form_keeps.ensures.law cells (order_of p) input cells_rules (c.rules_keep.ensures.is_order p rules))
      (c.cells_keep.ensures.law p input rules));
}
