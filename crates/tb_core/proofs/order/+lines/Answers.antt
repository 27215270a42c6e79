use Rattle.std.proofs.Common.{ℕ, Bool, List, ◌≡◌, ◌++◌, [], length, map, sym, ap, ◌∙◌, inl, inr, arith}
use Rattle.std.proofs.lemmas.List.{length-map}
use Rattle.tb_core.specs.View.{view, view_lambda}
use Rattle.tb_core.specs.OperandOrder.{Line, lines, lines_of_lambdas, lambdas_lines}
use Rattle.tb_core.specs.declared.expr.Expr.{Expr}
use Rattle.tb_core.specs.calls.Marks.{is_marked}
use Rattle.tb_core.proofs.LinesByNumber.{put_both, lines_at, lines_past}
use Rattle.tb_core.proofs.Views.{viewing, letrec_tree}
use Rattle.tb_core.proofs.order.+lines.Goals as goal
use Rattle.tb_core.proofs.order.+lines.Goals.{put_lines_of_lambda-then-number-walk-via-then-number-walk, put_lines_of_lambda-then-number-walk-via-else-number-walk+then-walk-number}

pub put_lines_of_lambda-returns-then-number-walk : goal.put_lines_of_lambda-returns-then-number-walk
put_lines_of_lambda-returns-then-number-walk t c =
    let size : length (map view_lambda c.args.walk.lambdas.now) ≡ length c.args.walk.lambdas.now = length-map c.args.walk.lambdas.now view_lambda in
    let past : lambdas_lines (is_marked c.args.walk.marked.now) (map view_lambda c.args.walk.lambdas.now) c.args.walk.first c.args.number ≡ [] =
    elim c.then-number-walk.branch [
      | put_lines_of_lambda-then-number-walk-via-then-number-walk w ↦ lines_past (is_marked c.args.walk.marked.now) (map view_lambda c.args.walk.lambdas.now) c.args.walk.first c.args.number (inl w.if-number-walk.true)
      | put_lines_of_lambda-then-number-walk-via-else-number-walk+then-walk-number w ↦ lines_past (is_marked c.args.walk.marked.now) (map view_lambda c.args.walk.lambdas.now) c.args.walk.first c.args.number (inr (omega (arith, w.if-number-walk.false, w.if-walk-number.true)))
    ] in
    grind (viewing, past)

pub put_lines_of_lambda-returns : goal.put_lines_of_lambda-returns
put_lines_of_lambda-returns t c =
    let e = lines_at (is_marked c.args.walk.marked.now) c.args.walk.lambdas.now c.after.result.now c.args.walk.first c.args.number c.index-walk-index.result c.if-number-walk.false c.if-walk-number.false c.index-walk-index.is c.after.ensures in
    grind (viewing, e)

pub put_lines-returns-in_ok-put_lines_of_lambdas-in-Letrec : goal.put_lines-returns-in_ok-put_lines_of_lambdas-in-Letrec
put_lines-returns-in_ok-put_lines_of_lambdas-in-Letrec t c =
    let whole = letrec_tree c.args.expr.now _ _ _ c.in-Letrec.is in
    let a : ℕ → Bool = is_marked c.args.walk.marked.now in
    let inner : ℕ → List Line = lambdas_lines a (map view_lambda c.args.walk.lambdas.now) c.args.walk.first in
    let parts : lines a inner (view c.args.expr.now) ≡ lines_of_lambdas inner c.as_slice-in-Letrec.result.now ++ lines a inner (view c.get-in-Letrec.result.now) =
    ap (lines a inner) whole
    ∙ ap (λ (v : List ℕ). lines_of_lambdas inner v ++ lines a inner (view c.in-Letrec.body)) (sym c.as_slice-in-Letrec.ensures)
    ∙ ap (λ (v : Expr). lines_of_lambdas inner c.as_slice-in-Letrec.result.now ++ lines a inner (view v)) (sym c.get-in-Letrec.ensures) in
    put_both c.put_lines-in-Letrec.result _ _ _ _ _ _ c.put_lines-in-Letrec.ensures c.in_ok-put_lines_of_lambdas-in-Letrec.ensures parts
