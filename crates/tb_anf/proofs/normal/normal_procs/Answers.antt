use Rattle.std.proofs.Common.{sym, ap, ◌∙◌, ℕ, List, [], map, nat_eq}
use Rattle.indexmap.specs.IndexMap.{get}
use Rattle.tb_core.specs.FirstUses.{first_of}
use Rattle.tb_core.specs.FreeVariables.{is_in}
use Rattle.tb_core.specs.Lifting.{Lifted, view_lifted}
use Rattle.tb_core.specs.Order.{view_line}
use Rattle.tb_core.specs.declared.lift_set.LiftLine.{LiftLine}
use Rattle.tb_core.specs.declared.order.OrderLine.{OrderLine}
use Rattle.tb_ir.specs.FreeVariables.{added_to, lambdas_free}
use Rattle.tb_ir.specs.Plain.{trees, view, view_lambda}
use Rattle.tb_ir.specs.View as whole
use Rattle.tb_ir.specs.TreeMachine.{line_of}
use Rattle.tb_ir.specs.declared.cells.CellExpr.{CellExpr}
use Rattle.tb_ir.specs.declared.cells.CellLambda.{CellLambda}
use Rattle.tb_anf.specs.calls.Captures.{row_at}
use Rattle.tb_anf.specs.calls.Lines.{line_in}
use Rattle.tb_anf.proofs.code.Forms.{if-ok}
use Rattle.tb_anf.proofs.code.Procs.{made-normal}
use Rattle.tb_anf.proofs.normal.normal_procs.Goals as goal

pub returns : goal.returns
returns c =
    let p = whole.view_lifted c.args.lifted.now in
    let set = c.as_slice-set.ensures in
    let lambdas = c.as_slice-lambdas.ensures in
    if-ok _ _ c.all_procs.result
    (λ qs h. made-normal p (map view_line c.args.order.now) _ _ _ _ _ h
    (ap (λ (es : List CellExpr). trees (map view es)) c.as_slice-4.ensures) (ap (map view_lambda) lambdas)
    (λ s. ap (λ (o : List OrderLine). line_in o (get nat_eq c.in_ok-index.index s)) (c.as_slice-2.ensures ∙ sym c.as_slice.ensures) ∙ c.in_ok-index.ensures s
    ∙ ap (λ (o : List OrderLine). line_of (map view_line o) s) c.as_slice.ensures)
    (λ l. c.in_ok-lifts.ensures.added l ∙ ap (λ (ms : List LiftLine). added_to (map view_lifted ms) l) set)
    (λ l. c.in_ok-lifts.ensures.lifted l ∙ ap (λ (ms : List LiftLine). is_in (map (λ (m : Lifted). m.lambda) (map view_lifted ms)) l) set)
    (λ l. ap (λ (rs : List (List ℕ)). row_at rs l) c.as_slice-3.ensures.value ∙ c.in_ok-rows.ensures l
    ∙ ap (λ (ms : List LiftLine). first_of [] (lambdas_free (map view_lifted ms) (map view_lambda c.as_slice-lambdas.result.now) 0 l)) set
    ∙ ap (λ (ls : List CellLambda). first_of [] (lambdas_free p.set (map view_lambda ls) 0 l)) lambdas)) c.all_procs.ensures
