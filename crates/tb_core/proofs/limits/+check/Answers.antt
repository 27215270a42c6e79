use Rattle.std.proofs.Common.{◌≡◌, ◌+◌, ◌-◌, length, map, drop, [], Ok, refl, sym, inl, inr, arith, ap, ◌∙◌}
use Rattle.std.proofs.lemmas.List.{length-map}
use Rattle.tb_core.specs.View.{view_lambda}
use Rattle.tb_core.specs.Limits.{judge, lambdas_measures}
use Rattle.tb_core.proofs.Judging.{judge_none, lambda_at, measures_past, judging}
use Rattle.tb_core.proofs.limits.+check.Goals as goal
use Rattle.tb_core.proofs.limits.+check.Goals.{check_lambda-then-number-first-via-then-number-first, check_lambda-then-number-first-via-else-number-first+then-lambdas-number}

pub check_expr-returns-in_err-totals-in-If-clause-value : goal.check_expr-returns-in_err-totals-in-If-clause-value
check_expr-returns-in_err-totals-in-If-clause-value t c = grind judging

pub check_expr-returns-in_err-totals-in-If-2-clause-value : goal.check_expr-returns-in_err-totals-in-If-2-clause-value
check_expr-returns-in_err-totals-in-If-2-clause-value t c = grind judging

pub check_expr-returns-in_err-totals-in-If-3-clause-value : goal.check_expr-returns-in_err-totals-in-If-3-clause-value
check_expr-returns-in_err-totals-in-If-3-clause-value t c = grind judging

pub check_expr-returns-in_err-totals-in-Let-clause-value : goal.check_expr-returns-in_err-totals-in-Let-clause-value
check_expr-returns-in_err-totals-in-Let-clause-value t c = grind judging

pub check_expr-returns-in_err-totals-in-Let-2-clause-value : goal.check_expr-returns-in_err-totals-in-Let-2-clause-value
check_expr-returns-in_err-totals-in-Let-2-clause-value t c = grind judging

pub check_expr-returns-in_err-totals-in-Letrec-clause-value : goal.check_expr-returns-in_err-totals-in-Letrec-clause-value
check_expr-returns-in_err-totals-in-Letrec-clause-value t c = grind judging

pub check_expr-returns-in_err-totals-in-Letrec-2-clause-value : goal.check_expr-returns-in_err-totals-in-Letrec-2-clause-value
check_expr-returns-in_err-totals-in-Letrec-2-clause-value t c = grind judging

pub check_expr-returns-in_err-totals-in-Call-clause-value : goal.check_expr-returns-in_err-totals-in-Call-clause-value
check_expr-returns-in_err-totals-in-Call-clause-value t c = grind judging

pub check_expr-returns-in_err-totals-in-Call-2-clause-value : goal.check_expr-returns-in_err-totals-in-Call-2-clause-value
check_expr-returns-in_err-totals-in-Call-2-clause-value t c = grind judging

pub check_expr-returns-in_err-totals-in-Call-3-clause-value : goal.check_expr-returns-in_err-totals-in-Call-3-clause-value
check_expr-returns-in_err-totals-in-Call-3-clause-value t c = grind judging

pub check_expr-returns-in_err-totals-in-Apply-clause-value : goal.check_expr-returns-in_err-totals-in-Apply-clause-value
check_expr-returns-in_err-totals-in-Apply-clause-value t c = grind judging

pub check_expr-returns-in_err-totals-in-Apply-2-clause-value : goal.check_expr-returns-in_err-totals-in-Apply-2-clause-value
check_expr-returns-in_err-totals-in-Apply-2-clause-value t c = grind judging

pub check_expr-returns-in_ok-totals-in-If-3-clause-value : goal.check_expr-returns-in_ok-totals-in-If-3-clause-value
check_expr-returns-in_ok-totals-in-If-3-clause-value t c = grind judging

pub check_expr-returns-in_ok-totals-in-Let-2-clause-value : goal.check_expr-returns-in_ok-totals-in-Let-2-clause-value
check_expr-returns-in_ok-totals-in-Let-2-clause-value t c = grind judging

pub check_expr-returns-in_ok-totals-in-Letrec-2-clause-value : goal.check_expr-returns-in_ok-totals-in-Letrec-2-clause-value
check_expr-returns-in_ok-totals-in-Letrec-2-clause-value t c = grind judging

pub check_expr-returns-in_ok-totals-in-Call-3-clause-value : goal.check_expr-returns-in_ok-totals-in-Call-3-clause-value
check_expr-returns-in_ok-totals-in-Call-3-clause-value t c = grind judging

pub check_expr-returns-in_ok-totals-in-Apply-2-clause-value : goal.check_expr-returns-in_ok-totals-in-Apply-2-clause-value
check_expr-returns-in_ok-totals-in-Apply-2-clause-value t c = grind judging

pub check_expr-returns-in-Quote-clause-value : goal.check_expr-returns-in-Quote-clause-value
check_expr-returns-in-Quote-clause-value t c = grind judging

pub check_lambda-returns-then-number-first-clause-value : goal.check_lambda-returns-then-number-first-clause-value
check_lambda-returns-then-number-first-clause-value t c =
    let size : length (map view_lambda c.args.lambdas.now) ≡ length c.args.lambdas.now = length-map c.args.lambdas.now view_lambda in
    let past : lambdas_measures (map view_lambda c.args.lambdas.now) c.args.first c.args.number c.args.scope c.args.depth ≡ [] =
    elim c.then-number-first.branch [
      | check_lambda-then-number-first-via-then-number-first w ↦ measures_past (map view_lambda c.args.lambdas.now) c.args.first c.args.number c.args.scope c.args.depth (inl w.if-number-first.true)
      | check_lambda-then-number-first-via-else-number-first+then-lambdas-number w ↦ measures_past (map view_lambda c.args.lambdas.now) c.args.first c.args.number c.args.scope c.args.depth (inr (omega (arith, w.if-number-first.false, w.if-lambdas-number.true)))
    ] in
    sym (ap (judge (Ok c.args.totals)) past ∙ judge_none _)

pub check_lambda-returns-in_err-totals-clause-value : goal.check_lambda-returns-in_err-totals-clause-value
check_lambda-returns-in_err-totals-clause-value t c =
    let e = lambda_at c.args.lambdas.now (drop (c.args.number - c.args.first + 1) c.args.lambdas.now) c.args.first c.args.number c.index-lambdas-index.result c.args.scope c.args.depth c.if-number-first.false c.if-lambdas-number.false c.index-lambdas-index.is refl in
    grind (judging, e)

pub check_lambda-returns-in_err-totals-2-clause-value : goal.check_lambda-returns-in_err-totals-2-clause-value
check_lambda-returns-in_err-totals-2-clause-value t c =
    let e = lambda_at c.args.lambdas.now (drop (c.args.number - c.args.first + 1) c.args.lambdas.now) c.args.first c.args.number c.index-lambdas-index.result c.args.scope c.args.depth c.if-number-first.false c.if-lambdas-number.false c.index-lambdas-index.is refl in
    grind (judging, e)

pub check_lambda-returns-in_err-totals-3-clause-value : goal.check_lambda-returns-in_err-totals-3-clause-value
check_lambda-returns-in_err-totals-3-clause-value t c =
    let e = lambda_at c.args.lambdas.now (drop (c.args.number - c.args.first + 1) c.args.lambdas.now) c.args.first c.args.number c.index-lambdas-index.result c.args.scope c.args.depth c.if-number-first.false c.if-lambdas-number.false c.index-lambdas-index.is refl in
    grind (judging, e)

pub check_lambda-returns-clause-value : goal.check_lambda-returns-clause-value
check_lambda-returns-clause-value t c =
    let e = lambda_at c.args.lambdas.now c.after.result.now c.args.first c.args.number c.index-lambdas-index.result c.args.scope c.args.depth c.if-number-first.false c.if-lambdas-number.false c.index-lambdas-index.is c.after.ensures in
    grind (judging, e)
