use Rattle.std.proofs.Common.{◌∙◌, ap, ◌-◌, List, ℕ, map, arith}
use Rattle.std.proofs.Math.ListN.{length-set}
use Rattle.tb_core.specs.Lifting.{view_lifted}
use Rattle.tb_ir.specs.FreeVariables.{added_to}
use Rattle.tb_ir.specs.Plain.{view_lambda}
use Rattle.tb_ir.specs.declared.cells.CellLambda.{CellLambda}
use Rattle.tb_anf.specs.calls.Captures.{captured_in, row_at}
use Rattle.tb_anf.proofs.code.Uses.{captures-step}
use Rattle.tb_anf.proofs.captures.captured_rows.Goals as goal

pub loop-at-preserved : goal.loop-at-preserved
loop-at-preserved c =
    let i = c.loop-at.at - 1 in
    let rows = c.loop-at.rows.items in
    let set = map view_lifted c.args.set.now in
    let m = view_lambda c.index-lambdas-at.result in
    let extra = c.added.ensures ∙ c.requires c.in_ok-number.number ∙ ap (added_to set) c.in_ok-number.ensures in
    record {
      long = simp length-set c.loop-at.invariant.long;
      known = captures-step set c.args.lambdas.now i c.loop-at.at c.index-lambdas-at.result rows c.in_ok-rows-2.field-0 (omega arith) (omega arith)
          c.loop-at.invariant.long c.loop-at.invariant.known
          (c.in_ok-rows-2.ensures ∙ ap (λ (rs : List (List ℕ)). captured_in (row_at rs) m c.added.result.now) c.as_slice.ensures.value
          ∙ ap (captured_in (row_at rows) m) extra ∙ ap (λ (l : CellLambda). captured_in (row_at rows) (view_lambda l) (added_to set i)) c.index-lambdas-at.is);
    }
