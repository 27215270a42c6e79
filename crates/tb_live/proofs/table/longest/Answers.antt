use Rattle.std.proofs.Common.{◌∙◌, ap, ◌^◌, ◌-◌, ℕ, List, max, min, length, arith}
use Rattle.tb_live.proofs.Longest.{longest-step, longest-done}
use Rattle.tb_live.proofs.table.longest.Goals as goal

pub loop-row-preserved : goal.loop-row-preserved
loop-row-preserved c =
    longest-step c.args.rows.now c.loop-row.row-index _ c.row-item.result c.loop-row.longest _ (2 ^ 32 - 1) _ c.loop-row-test.true (omega arith)
    (c.max-longest.ensures
    ∙ ap (λ n. max n c.loop-row.longest) (c.length_32.ensures ∙ ap (λ (xs : List ℕ). min (length xs) (2 ^ 32 - 1)) (c.as_slice.ensures ∙ c.row-item.is)))
    c.loop-row.invariant

pub returns : goal.returns
returns c = longest-done c.args.rows.now c.loop-row.row-index c.loop-row.longest (2 ^ 32 - 1) _ c.loop-row-test.false c.loop-row.invariant
