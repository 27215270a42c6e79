use Rattle.std.proofs.Common.{◌≡◌, refl, sym, ap, ◌∙◌, List, [], ◌∷◌, ◌++◌, map, length, arith}
use Rattle.tb_ir.specs.Plain.{trees, view, view_core}
use Rattle.tb_ir.specs.Tree.{count, CellSet, Let, Seq, Call, Direct, PrimUse, Apply}
use Rattle.tb_ir.specs.declared.anf.Block.{Block as BlockCode}
use Rattle.tb_ir.specs.declared.cells.CellExpr.{CellExpr}
use Rattle.tb_anf.specs.NormalForm.{AtEnd, size_form, size_all}
use Rattle.tb_anf.specs.calls.Lines.{line_at}
use Rattle.tb_anf.specs.calls.Steps.{wrap}
use Rattle.tb_anf.specs.declared.steps.Step.{Step}
use Rattle.tb_anf.specs.declared.steps.Step.TheVariants as step
use Rattle.tb_anf.proofs.code.Forms.{form-is, next-item, next-name, count-trees, if-ok, of-node, operands-step, named-step, front-step, value-binds, call-evaluates, apply-evaluates, prim-evaluates, direct-evaluates, cell-evaluates, let-evaluates, sequence-evaluates, sequence-size}
use Rattle.tb_anf.proofs.code.Steps.{view_tail}
use Rattle.tb_anf.proofs.code.Views.{viewing, view_node, op_cell_set, op_call, op_direct, op_prim, op_apply}
use Rattle.tb_anf.proofs.pass.+pass.Goals as goal

pub evaluation_of-returns-in_ok-steps-in-CellSet-clause-evaluates : goal.evaluation_of-returns-in_ok-steps-in-CellSet-clause-evaluates
evaluation_of-returns-in_ok-steps-in-CellSet-clause-evaluates t c =
    let x = view c.get-in-CellSet.result.now in
    let y = view c.get-in-CellSet-2.result.now in
    let form : view_core c.args.core.now ≡ CellSet x y = grind (viewing, c.in-CellSet.is, c.get-in-CellSet.ensures, c.get-in-CellSet-2.ensures) in
    form-is (line_at c.args.walk) c.args.number.now c.args.place c.args.site _ _ _ form
    (cell-evaluates (line_at c.args.walk) c.args.number.now c.args.place c.args.site x y _ c.in_ok-cell-in-CellSet.cell c.in_ok-value-in-CellSet.value _
    c.in_ok-cell-in-CellSet.ensures.binds c.in_ok-value-in-CellSet.ensures.binds c.in_ok-cell-in-CellSet.ensures.number c.in_ok-steps-in-CellSet.ensures (op_cell_set _ _))

pub evaluation_of-returns-in_ok-steps-in-Call-2-clause-evaluates : goal.evaluation_of-returns-in_ok-steps-in-Call-2-clause-evaluates
evaluation_of-returns-in_ok-steps-in-Call-2-clause-evaluates t c =
    let x = view c.get-in-Call.result.now in
    let ys = trees (map view c.as_slice-in-Call.result.now) in
    let form : view_core c.args.core.now ≡ Call x ys = grind (viewing, c.in-Call.is, c.get-in-Call.ensures, c.as_slice-in-Call.ensures) in
    form-is (line_at c.args.walk) c.args.number.now c.args.place c.args.site _ _ _ form
    (call-evaluates (line_at c.args.walk) c.args.number.now c.args.place c.args.site x ys _ c.in_ok-steps-in-Call.field-0 c.in_ok-groups-in-Call.field-0 _ _ _ c.from_vec.ensures
    c.in_ok-steps-in-Call.ensures.binds c.in_ok-groups-in-Call.ensures.binds c.in_ok-steps-in-Call.ensures.number c.in_ok-with_operator-in-Call.ensures c.in_ok-steps-in-Call-2.ensures (op_call _ _ _))

pub evaluation_of-returns-in_ok-steps-in-Direct-clause-evaluates : goal.evaluation_of-returns-in_ok-steps-in-Direct-clause-evaluates
evaluation_of-returns-in_ok-steps-in-Direct-clause-evaluates t c =
    let ys = trees (map view c.as_slice-in-Direct.result.now) in
    let form : view_core c.args.core.now ≡ Direct c.in-Direct.lambda ys = grind (viewing, c.in-Direct.is, c.as_slice-in-Direct.ensures) in
    form-is (line_at c.args.walk) c.args.number.now c.args.place c.args.site _ _ _ form
    (direct-evaluates (line_at c.args.walk) c.args.number.now c.args.place c.args.site c.in-Direct.lambda ys c.in_ok-groups-in-Direct.field-0 _ _ c.from_vec-in-Direct.ensures
    c.in_ok-groups-in-Direct.ensures.binds c.in_ok-steps-in-Direct.ensures (op_direct _ _))

pub evaluation_of-returns-in_ok-steps-in-Prim-clause-evaluates : goal.evaluation_of-returns-in_ok-steps-in-Prim-clause-evaluates
evaluation_of-returns-in_ok-steps-in-Prim-clause-evaluates t c =
    let ys = trees (map view c.as_slice-in-Prim.result.now) in
    let form : view_core c.args.core.now ≡ PrimUse c.in-Prim.prim ys = grind (viewing, c.in-Prim.is, c.as_slice-in-Prim.ensures) in
    form-is (line_at c.args.walk) c.args.number.now c.args.place c.args.site _ _ _ form
    (prim-evaluates (line_at c.args.walk) c.args.number.now c.args.place c.args.site c.in-Prim.prim ys c.in_ok-groups-in-Prim.field-0 _ _ c.from_vec-in-Prim.ensures
    c.in_ok-groups-in-Prim.ensures.binds c.in_ok-steps-in-Prim.ensures (op_prim _ _ _))

pub evaluation_of-returns-in_ok-steps-in-Apply-clause-evaluates : goal.evaluation_of-returns-in_ok-steps-in-Apply-clause-evaluates
evaluation_of-returns-in_ok-steps-in-Apply-clause-evaluates t c =
    let x = view c.get-in-Apply.result.now in
    let y = view c.get-in-Apply-2.result.now in
    let form : view_core c.args.core.now ≡ Apply x y = grind (viewing, c.in-Apply.is, c.get-in-Apply.ensures, c.get-in-Apply-2.ensures) in
    form-is (line_at c.args.walk) c.args.number.now c.args.place c.args.site _ _ _ form
    (apply-evaluates (line_at c.args.walk) c.args.number.now c.args.place c.args.site x y _ c.in_ok-procedure-in-Apply.procedure c.in_ok-list-in-Apply.list _ _
    c.in_ok-procedure-in-Apply.ensures.binds c.in_ok-list-in-Apply.ensures.binds c.in_ok-procedure-in-Apply.ensures.number
    (c.in_ok-with_operator-in-Apply.ensures ∙ ap (λ (gs : List (List Step)). c.in_ok-procedure-in-Apply.procedure.steps.items ∷ gs) (c.in_ok-groups-in-Apply.ensures.items ∙ ap (λ (g : List Step). g ∷ []) c.from_vec-in-Apply.ensures))
    c.in_ok-steps-in-Apply.ensures (op_apply _ _ _))

pub evaluation_of-returns-in_ok-followed-in-Let-clause-evaluates : goal.evaluation_of-returns-in_ok-followed-in-Let-clause-evaluates
evaluation_of-returns-in_ok-followed-in-Let-clause-evaluates t c =
    let xs = c.as_slice-variables.result.now in
    let es = c.as_slice-values.result.now in
    let ys = trees (map view es) in
    let e = view c.get-in-Let.result.now in
    let form : view_core c.args.core.now ≡ Let xs ys e = grind (viewing, c.in-Let.is, c.as_slice-variables.ensures, c.as_slice-values.ensures, c.get-in-Let.ensures) in
    let same = c.if-variables-values.false in
    let counted = count-trees es in
    let long : length xs ≡ count ys = omega (arith, same, counted) in
    form-is (line_at c.args.walk) c.args.number.now c.args.place c.args.site _ _ _ form
    (let-evaluates (line_at c.args.walk) c.args.number.now c.args.place c.args.site xs ys e _ c.in_ok-groups-in-Let.groups.items c.in_ok-ordered-in-Let.field-0.items
    c.in_ok-steps-in-Let.field-0 _ long c.in_ok-groups-in-Let.ensures.binds c.in_ok-steps-in-Let.ensures.evaluates c.in_ok-groups-in-Let.ensures.number
    c.in_ok-ordered-in-Let.ensures c.in_ok-followed-in-Let.ensures refl)

pub evaluation_of-returns-in_ok-followed-in-Seq-clause-number : goal.evaluation_of-returns-in_ok-followed-in-Seq-clause-number
evaluation_of-returns-in_ok-followed-in-Seq-clause-number t c =
    let d = c.in-Some.ensures.cases in
    let all = c.as_slice-in-Seq.result.now in
    let form : view_core c.args.core.now ≡ Seq (trees (map view all)) = grind (viewing, c.in-Seq.is, c.as_slice-in-Seq.ensures) in
    let whole = ap size_form form ∙ ap (λ (es : List CellExpr). size_all (trees (map view es))) d.0 ∙ sequence-size c.in-Some.before.now c.in-Some.end.now in
    let first = c.in_ok-first-in-Seq.ensures.number in
    let last = c.in_ok-steps-in-Seq.ensures.number in
    omega (arith, whole, first, last)

pub evaluation_of-returns-in_ok-followed-in-Seq-clause-evaluates : goal.evaluation_of-returns-in_ok-followed-in-Seq-clause-evaluates
evaluation_of-returns-in_ok-followed-in-Seq-clause-evaluates t c =
    let d = c.in-Some.ensures.cases in
    let all = c.as_slice-in-Seq.result.now in
    let form : view_core c.args.core.now ≡ Seq (trees (map view all)) = grind (viewing, c.in-Seq.is, c.as_slice-in-Seq.ensures) in
    form-is (line_at c.args.walk) c.args.number.now c.args.place c.args.site _ _ _ form
    (sequence-evaluates (line_at c.args.walk) c.args.number.now c.args.place c.args.site all c.in-Some.before.now c.in-Some.end.now _ c.in_ok-first-in-Seq.first.items
    c.in_ok-steps-in-Seq.field-0 _ d.0 c.in_ok-first-in-Seq.ensures.binds c.in_ok-steps-in-Seq.ensures.evaluates c.in_ok-first-in-Seq.ensures.number
    c.in_ok-followed-in-Seq.ensures refl)

pub block-returns-clause-block : goal.block-returns-clause-block
block-returns-clause-block t c =
    let r = c.in_ok-steps.field-0 in
    if-ok _ _ c.wrapped.result
    (λ (b : BlockCode) h. h ∙ ap (wrap r.steps.items) (view_tail r.last) ∙ sym (c.in_ok-steps.ensures.evaluates.is AtEnd)) c.wrapped.ensures

pub evaluation-returns-clause-evaluates : goal.evaluation-returns-clause-evaluates
evaluation-returns-clause-evaluates t c =
    let one = c.in_ok-number.ensures in
    if-ok _ _ c.evaluation_of.result
    (λ r h. of-node (line_at c.args.walk) c.args.number.now _ c.args.expr.now.place c.args.expr.now.site (view_core c.args.expr.now.core) (view c.args.expr.now) r
    (view_node c.args.expr.now) (omega (arith, one)) h) c.evaluation_of.ensures.evaluates

pub front-loop-expr-preserved : goal.front-loop-expr-preserved
front-loop-expr-preserved t c =
    front-step (line_at c.args.walk) _ _ _ _ _ _ _ c.in_ok-value_name.field-0 c.loop-expr.out.items _ _ c.in_ok-steps.field-0
    (next-item c.args.exprs.now c.loop-expr.expr-index c.expr-item.result (omega arith) c.expr-item.is) c.in_ok-value_name.ensures
    c.in_ok-steps.ensures.evaluates c.in_ok-steps.ensures.number
    (c.in_ok-push.ensures.items ∙ ap (λ (g : List Step). c.loop-expr.out.items ++ step.Group g ∷ []) c.from_vec.ensures) c.in_ok-push-2.ensures.items c.loop-expr.invariant

pub named_operands-loop-index-preserved : goal.named_operands-loop-index-preserved
named_operands-loop-index-preserved t c =
    let long = c.requires.long in
    named-step (line_at c.args.walk) _ _ _ _ _ _ _ _ _ _ _ c.loop-index.groups.items _ _ _ c.in_ok-steps.field-0
    (next-item c.args.values.now c.loop-index.index c.index-values-index.result (omega arith) c.index-values-index.is)
    (next-name c.args.variables.now c.loop-index.index (omega (arith, long)))
    c.in_ok-steps.ensures.evaluates c.in_ok-steps.ensures.number c.from_vec.ensures c.in_ok-push.ensures.items c.in_ok-push-2.ensures.items c.loop-index.invariant

pub operand-returns-clause-binds : goal.operand-returns-clause-binds
operand-returns-clause-binds t c =
    let e = c.args.expr.now in
    value-binds (line_at c.args.walk) c.args.number.now c.in_ok-variable.variable e.place e.site (view_core e.core) (view e) c.in_ok-steps.field-0 _
    (view_node e) c.in_default.ensures c.in_ok-variable.ensures c.in_ok-steps.ensures.evaluates refl c.in_ok-push.ensures.items

pub operands-loop-expr-preserved : goal.operands-loop-expr-preserved
operands-loop-expr-preserved t c =
    operands-step (line_at c.args.walk) _ _ _ _ _ _ _ c.loop-expr.groups.items _ c.loop-expr.atoms.items _ c.in_ok-steps.field-0
    (next-item c.args.exprs.now c.loop-expr.expr-index c.expr-item.result (omega arith) c.expr-item.is) c.in_ok-steps.ensures.binds c.in_ok-steps.ensures.number
    (c.in_ok-push.ensures.items ∙ ap (λ (g : List Step). c.loop-expr.groups.items ++ g ∷ []) c.from_vec.ensures) c.in_ok-push-2.ensures.items c.loop-expr.invariant
