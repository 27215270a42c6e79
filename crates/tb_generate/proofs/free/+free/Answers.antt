use Rattle.std.proofs.Common.{◌≡◌, ◌∙◌, ◌||◌, sym, ap, ℕ, List, nat_eq}
use Rattle.indexmap.specs.IndexSet.{contains}
use Rattle.tb_core.proofs.FirstUses.{is_in-asked}
use Rattle.tb_core.specs.FreeVariables.{is_in}
use Rattle.tb_ir.specs.AnfMachine.{free_block, free_op}
use Rattle.tb_ir.specs.AnfPlain.{view_atom, view_block, view_op}
use Rattle.tb_ir.specs.AnfTree.{Bind, CloseAll, Branch, Block, Op}
use Rattle.tb_generate.specs.calls.Bodies.{captured_at}
use Rattle.tb_generate.proofs.Members.{on-ok, bind-free, group-free, branch-free}
use Rattle.tb_generate.proofs.Views.{viewing}
use Rattle.tb_generate.proofs.free.+free.Goals as goal

pub add_free-returns-in_ok-add-in-Branch-2 : goal.add_free-returns-in_ok-add-in-Branch-2
add_free-returns-in_ok-add-in-Branch-2 t c =
    let captured = captured_at c.args.body in
    let then = view_block c.get-in-Branch.result.now in
    let other = view_block c.get.result.now in
    let form : view_op c.args.op.now ≡ Branch (view_atom c.in-Branch.atom) then other = grind (viewing, c.in-Branch.is, c.get.ensures, c.get-in-Branch.ensures) in
    let keys-then = c.as_slice-in-Branch-4.ensures.keys in
    let keys-other = c.as_slice-in-Branch-2.ensures.keys in
    on-ok _ _ c.add_atom-in-Branch.result
    (λ h x.
    branch-free captured (view_atom c.in-Branch.atom) then other c.as_slice-in-Branch-4.result.now c.as_slice-in-Branch-2.result.now x _ _ _ _ (h x)
    (c.in_ok-add-in-Branch-2.ensures x) (c.in_ok-add-in-Branch.ensures x)
    (ap (λ (xs : List ℕ). is_in xs x) keys-then ∙ sym (is_in-asked c.in_ok-free-in-Branch-2.field-0.keys x) ∙ c.in_ok-free-in-Branch-2.ensures x)
    (ap (λ (xs : List ℕ). is_in xs x) keys-other ∙ sym (is_in-asked c.in_ok-free-in-Branch.field-0.keys x) ∙ c.in_ok-free-in-Branch.ensures x)
    ∙ ap (λ (o : Op). is_in (free_op captured o) x || contains nat_eq c.args.set.now x) (sym form))
    c.add_atom-in-Branch.ensures

pub free-returns-in_ok-add_free-in-Bind : goal.free-returns-in_ok-add_free-in-Bind
free-returns-in_ok-add_free-in-Bind t c x =
    let captured = captured_at c.args.body in
    let form : view_block c.args.block.now ≡ Bind c.in-Bind.variable (view_op c.in-Bind.op) (view_block c.get.result.now) = grind (viewing, c.in-Bind.is, c.get.ensures) in
    bind-free captured c.in-Bind.variable (view_op c.in-Bind.op) (view_block c.get.result.now) x _ _ _ (c.in_ok-add_free-in-Bind.ensures x) (c.remove.ensures x) (c.in_ok-set-in-Bind.ensures x)
    ∙ ap (λ (b : Block). is_in (free_block captured b) x) (sym form)

pub free-returns-in_ok-add_captured-in-CloseAll : goal.free-returns-in_ok-add_captured-in-CloseAll
free-returns-in_ok-add_captured-in-CloseAll t c x =
    let captured = captured_at c.args.body in
    let xs = c.as_slice-in-CloseAll.result.now in
    let ls = c.as_slice.result.now in
    let b = view_block c.get-in-CloseAll.result.now in
    let form : view_block c.args.block.now ≡ CloseAll xs ls b = grind (viewing, c.in-CloseAll.is, c.get-in-CloseAll.ensures, c.as_slice.ensures, c.as_slice-in-CloseAll.ensures) in
    group-free captured xs ls b x _ _ _ (c.remove-in-CloseAll.ensures x) (c.in_ok-add_captured-in-CloseAll.ensures x) (c.in_ok-set-in-CloseAll.ensures x)
    ∙ ap (λ (b : Block). is_in (free_block captured b) x) (sym form)
