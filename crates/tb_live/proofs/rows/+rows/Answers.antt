use Rattle.std.proofs.Common.{◌≡◌, ◌∙◌, ◌++◌, sym, ap, ℕ, List, []}
use Rattle.tb_core.specs.FreeVariables.{without, of_lambdas}
use Rattle.tb_ir.specs.AnfMachine.{free_op}
use Rattle.tb_ir.specs.AnfPlain.{view_atom, view_block, view_op}
use Rattle.tb_ir.specs.AnfRules.{blocks, blocks_in}
use Rattle.tb_ir.specs.AnfTree.{Bind, CloseAll, Branch, Block, Op}
use Rattle.tb_live.specs.Live.{live_row}
use Rattle.tb_live.specs.calls.Captures.{captured_at}
use Rattle.tb_live.specs.calls.Rows.{back_rows}
use Rattle.tb_live.specs.calls.Sets.{joined}
use Rattle.tb_live.proofs.Parts.{bind-row, group-row, branch-row, two-rows, on-ok}
use Rattle.tb_live.proofs.Views.{viewing}
use Rattle.tb_live.proofs.rows.+rows.Goals as goal

pub add_op-returns-in_ok-add-in-Branch-clause-set : goal.add_op-returns-in_ok-add-in-Branch-clause-set
add_op-returns-in_ok-add-in-Branch-clause-set t c =
    let captured = captured_at c.args.source in
    let then = view_block c.get-in-Branch.result.now in
    let other = view_block c.get.result.now in
    let form : view_op c.args.op.now ≡ Branch (view_atom c.in-Branch.atom) then other = grind (viewing, c.in-Branch.is, c.get.ensures, c.get-in-Branch.ensures) in
    on-ok _ _ c.add-in-Branch-2.result
    (λ h. branch-row captured (view_atom c.in-Branch.atom) then other c.args.set.now.keys c.add_atom-in-Branch.new.set.keys c.add-in-Branch.new.set.keys
    c.add-in-Branch-2.new.set.keys c.as_slice-in-Branch.result.now c.as_slice-in-Branch-2.result.now c.in_ok-add_atom-in-Branch.ensures c.in_ok-add-in-Branch.ensures h
    (c.as_slice-in-Branch.ensures.keys ∙ c.in_ok-in_then-in-Branch.ensures.set) (c.as_slice-in-Branch-2.ensures.keys ∙ c.in_ok-in_other-in-Branch.ensures.set)
    ∙ ap (λ (o : Op). joined c.args.set.now.keys (free_op captured o)) (sym form))
    c.add-in-Branch-2.ensures

pub add_op-returns-in_ok-add-in-Branch-clause-rows : goal.add_op-returns-in_ok-add-in-Branch-clause-rows
add_op-returns-in_ok-add-in-Branch-clause-rows t c =
    let captured = captured_at c.args.source in
    let then = view_block c.get-in-Branch.result.now in
    let other = view_block c.get.result.now in
    let form : view_op c.args.op.now ≡ Branch (view_atom c.in-Branch.atom) then other = grind (viewing, c.in-Branch.is, c.get.ensures, c.get-in-Branch.ensures) in
    on-ok _ _ c.add-in-Branch-2.result
    (λ h. two-rows captured (blocks then) (blocks other) c.args.rows.now.items c.put_rows.new.rows.items c.put_rows-in-Branch.new.rows.items
    c.in_ok-in_other-in-Branch.ensures.rows c.in_ok-in_then-in-Branch.ensures.rows
    ∙ ap (λ (o : Op). c.args.rows.now.items ++ back_rows captured (blocks_in o)) (sym form))
    c.add-in-Branch-2.ensures

pub put_later-returns-in_ok-add_others-in-Bind-clause-set : goal.put_later-returns-in_ok-add_others-in-Bind-clause-set
put_later-returns-in_ok-add_others-in-Bind-clause-set t c =
    let captured = captured_at c.args.source in
    let op = view_op c.in-Bind.op in
    let b = view_block c.get.result.now in
    let form : view_block c.args.block.now ≡ Bind c.in-Bind.variable op b = grind (viewing, c.in-Bind.is, c.get.ensures) in
    bind-row captured c.in-Bind.variable op b c.add_op-in-Bind.new.set.keys c.as_slice.result.now c.add_others.new.set.keys
    (c.as_slice.ensures.keys ∙ c.in_ok-later-in-Bind.ensures.set)
    (c.in_ok-add_op-in-Bind.ensures.set ∙ ap (λ (zs : List ℕ). joined zs (free_op captured op)) c.new-set.ensures.empty)
    c.in_ok-add_others-in-Bind.ensures
    ∙ ap (λ (d : Block). live_row captured d) (sym form)

pub put_later-returns-in_ok-add_others-in-CloseAll-clause-set : goal.put_later-returns-in_ok-add_others-in-CloseAll-clause-set
put_later-returns-in_ok-add_others-in-CloseAll-clause-set t c =
    let captured = captured_at c.args.source in
    let xs = c.as_slice-in-CloseAll-3.result.now in
    let ls = c.as_slice-in-CloseAll.result.now in
    let b = view_block c.get-in-CloseAll.result.now in
    let form : view_block c.args.block.now ≡ CloseAll xs ls b = grind (viewing, c.in-CloseAll.is, c.get-in-CloseAll.ensures, c.as_slice-in-CloseAll.ensures, c.as_slice-in-CloseAll-3.ensures) in
    group-row captured xs ls b c.add_captured.new.set.keys c.as_slice-in-CloseAll-2.result.now c.add.new.set.keys c.add_others-in-CloseAll.new.set.keys
    (c.as_slice-in-CloseAll-2.ensures.keys ∙ c.in_ok-later-in-CloseAll.ensures.set)
    (c.in_ok-add_captured-in-CloseAll.ensures ∙ ap (λ (zs : List ℕ). joined zs (of_lambdas captured ls)) c.new-inside.ensures.empty)
    c.in_ok-add-in-CloseAll.ensures
    (c.in_ok-add_others-in-CloseAll.ensures ∙ ap (λ (zs : List ℕ). joined zs (without xs c.as_slice-in-CloseAll-4.result.now)) c.new-set.ensures.empty
    ∙ ap (λ (ys : List ℕ). joined [] (without xs ys)) c.as_slice-in-CloseAll-4.ensures.keys)
    ∙ ap (λ (d : Block). live_row captured d) (sym form)
