use Rattle.std.proofs.Common.{◌≡◌, ◌∙◌, ap, ℕ, arith}
use Rattle.std.proofs.lemmas.Grind.{common_steps}
use Rattle.tb_core.specs.FreeVariables.{is_assigned, is_in}
use Rattle.tb_core.specs.calls.Marks.{is_marked}
use Rattle.tb_core.specs.View.{view_program}
use Rattle.tb_core.proofs.LinesByNumber.{order_by_table}
use Rattle.tb_core.proofs.order.operand_order.Goals as goal

pub returns : goal.returns
returns c =
    let e : c.as_slice.result.now ≡ c.in_ok-assigned.assigned.items = c.as_slice.ensures.value in
    let listed : (x : ℕ) → is_marked c.in_ok-marked.marked.items x ≡ is_assigned (view_program c.args.program.now) x =
    λ x. c.in_ok-marked.ensures x ∙ ap (λ xs. is_in xs x) (e ∙ c.in_ok-assigned.ensures) in
    let o = order_by_table (view_program c.args.program.now) c.in_ok-marked.marked.items listed in
    grind (arith, common_steps, o)
