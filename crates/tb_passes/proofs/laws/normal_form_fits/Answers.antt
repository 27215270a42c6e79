use Rattle.std.proofs.Common.{◌^◌, ◌≤◌, refl, lit≤, subst, arith}
use Rattle.tb_core.specs.OperandOrder.{order_of}
use Rattle.tb_core.specs.Tree.{ProgramTree}
use Rattle.tb_core.specs.Width as core
use Rattle.tb_core.specs.Width.{largest, squares}
use Rattle.tb_ir.specs.AnfRules.{operations}
use Rattle.tb_ir.specs.AnfWidth.{square_sum, width_of}
use Rattle.tb_ir.specs.Rules.{KeepsRules}
use Rattle.tb_assign.specs.Eliminate.{cells_of}
use Rattle.tb_passes.specs.Compilable.{IsCompilable, is_byte}
use Rattle.tb_passes.specs.Passes.{anf_of}
use Rattle.tb_passes.proofs.Fitting.{all-bytes, parameters-few}
use Rattle.tb_passes.proofs.Limits.{rules-more}
use Rattle.tb_passes.proofs.Parts.{parts-ok}
use Rattle.tb_passes.proofs.laws.normal_form_fits.Goals as goal

pub returns : goal.returns
returns c =
    let cells_rules : (p : ProgramTree) → IsCompilable p → KeepsRules (2 ^ 31) (cells_of p) =
    λ p ok. rules-more (2 ^ 27) (2 ^ 31) (cells_of p) (lit≤ tt) (c.rules_keep.ensures.rules p ok.rules) in
    let width : (p : ProgramTree) → IsCompilable p → width_of (anf_of p) ≤ core.width_of p = λ p ok.
    subst (λ ns. width_of (anf_of p) ≤ largest ns) (c.widths_stay.ensures.law p ok.rules)
    (c.no_wider.ensures.width (cells_of p) (order_of p) (cells_rules p ok) (c.rules_keep.ensures.is_order p ok.rules)) in
    let sum : (p : ProgramTree) → IsCompilable p → square_sum (anf_of p) ≤ core.square_sum p = λ p ok.
    subst (λ ns. square_sum (anf_of p) ≤ squares ns) (c.widths_stay.ensures.law p ok.rules)
    (c.no_wider.ensures.square_sum (cells_of p) (order_of p) (cells_rules p ok) (c.rules_keep.ensures.is_order p ok.rules)) in
    record {
      rules = λ p ok. c.rules_keep-2.ensures.law (cells_of p) (order_of p) (cells_rules p ok) (c.rules_keep.ensures.is_order p ok.rules);
      fits = λ p ok.
          let w = width p ok in let s = sum p ok in
          let narrow = c.limits_are_kept.ensures.width p ok.within in
          let few = c.limits_are_kept.ensures.squares p ok.within in
          let lines = c.lists_are_few.ensures.lines p ok.rules in
          let lambdas = c.lists_are_few.ensures.lambdas p ok.rules in
          let same = c.lists_keep.ensures.lambdas (cells_of p) (order_of p) in
          let more = c.rules_keep.ensures.lambdas p in
          record {
            few_operands = c.operands_stay_few-2.ensures.operands (cells_of p) (order_of p) 12
                (c.operands_stay_few.ensures.operands p ok.rules (c.limits_are_kept.ensures.forms p ok.rules ok.within)
                (c.limits_are_kept.ensures.bodies p ok.rules ok.within));
            few_params = c.operands_stay_few-2.ensures.parameters (cells_of p) (order_of p) 12
                (parameters-few (cells_of p) refl
                (c.operands_stay_few.ensures.parameters p (c.limits_are_kept.ensures.parameters p ok.rules ok.within)));
            bytes = all-bytes (operations (anf_of p)) (c.constants_stay-2.ensures.law (cells_of p) (order_of p) is_byte (cells_rules p ok)
                (c.constants_stay.ensures p is_byte ok.rules (ok.parts).form_bytes (ok.parts).body_bytes));
            narrow = omega arith;
            few_squares = omega arith;
            parts = parts-ok (anf_of p) (ok.parts).few_globals (ok.parts).few_statics (ok.parts).names (ok.parts).few_words
                (ok.rules).statics (omega arith) lines (c.limits_are_kept.ensures.short_lines p ok.rules ok.within);
          };
      width = width;
      square_sum = sum;
    }
