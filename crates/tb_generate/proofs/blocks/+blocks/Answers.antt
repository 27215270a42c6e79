use Rattle.std.proofs.Common.{◌≡◌, ◌∙◌, arith}
use Rattle.tb_ir.specs.AnfPlain.{view_atom, view_block, view_op}
use Rattle.tb_ir.specs.AnfTree.{Branch}
use Rattle.tb_generate.specs.calls.Bodies.{body_at}
use Rattle.tb_generate.proofs.Forms.{bound-parts, tail-parts}
use Rattle.tb_generate.proofs.Members.{on-ok}
use Rattle.tb_generate.proofs.Views.{viewing}
use Rattle.tb_generate.proofs.blocks.+blocks.Goals as goal

pub put_bound-returns-in_ok-put_block-in-Branch-2-clause-items : goal.put_bound-returns-in_ok-put_block-in-Branch-2-clause-items
put_bound-returns-in_ok-put_block-in-Branch-2-clause-items t c =
    let b = view_block c.get.result.now in
    let d = view_block c.get-in-Branch.result.now in
    let form : view_op c.args.op.now ≡ Branch (view_atom c.in-Branch.atom) b d = grind (viewing, c.in-Branch.is, c.get.ensures, c.get-in-Branch.ensures) in
    let one = c.in_ok-own.ensures.next in
    let two = c.in_ok-second-in-Branch.ensures.taken in
    let three = c.in_ok-second-in-Branch.ensures.next in
    on-ok _ _ c.put_label-in-Branch.result
    (λ h. bound-parts (body_at c.args.body) _ (view_atom c.in-Branch.atom) b d c.args.variable (view_block c.args.rest.now) c.args.waiting.now c.args.slots.now
    c.in_ok-arm-in-Branch.arm.slots c.in_ok-arm-in-Branch.arm.ending c.args.label.now c.in_ok-own.own c.in_ok-second-in-Branch.second _ _ _ _ _ _ _ _ form
    c.in_ok-own.ensures.taken (omega (arith, one, two)) (omega (arith, one, two, three)) c.in_ok-put_block-in-Branch.ensures.label
    (c.in_ok-arm-in-Branch.ensures.slots ∙ c.in_ok-value.ensures) c.in_ok-arm-in-Branch.ensures.ending c.in_ok-put_test-in-Branch.ensures
    c.in_ok-put_block-in-Branch.ensures.items c.in_ok-put_label-in-Branch.ensures c.in_ok-put_block-in-Branch-2.ensures.items h)
    c.put_label-in-Branch.ensures

pub put_tail-returns-in_ok-put_block-in-Branch-2-clause-items : goal.put_tail-returns-in_ok-put_block-in-Branch-2-clause-items
put_tail-returns-in_ok-put_block-in-Branch-2-clause-items t c =
    let b = view_block c.get.result.now in
    let d = view_block c.get-in-Branch.result.now in
    let form : view_op c.args.op.now ≡ Branch (view_atom c.in-Branch.atom) b d = grind (viewing, c.in-Branch.is, c.get.ensures, c.get-in-Branch.ensures) in
    let one = c.in_ok-own.ensures.next in
    let two = c.in_ok-second-in-Branch.ensures.taken in
    let three = c.in_ok-second-in-Branch.ensures.next in
    on-ok _ _ c.put_passed.result
    (λ h. tail-parts (body_at c.args.body) _ (view_atom c.in-Branch.atom) b d c.args.waiting.now.slots c.args.slots.now c.args.waiting.now.ending
    c.args.label.now c.in_ok-own.own c.in_ok-second-in-Branch.second _ _ _ _ _ _ _ _ _ form
    c.in_ok-own.ensures.taken (omega (arith, one, two)) (omega (arith, one, two, three)) c.in_ok-put_block-in-Branch.ensures.label
    c.in_ok-put_test-in-Branch.ensures c.in_ok-put_block-in-Branch.ensures.items c.in_ok-put_passing-in-Branch.ensures c.in_ok-put_label-in-Branch.ensures
    c.in_ok-put_block-in-Branch-2.ensures.items h)
    c.put_passed.ensures
