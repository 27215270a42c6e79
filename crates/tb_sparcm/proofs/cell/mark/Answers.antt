use Rattle.std.proofs.Common.{ℕ, refl, subst}
use Rattle.std.specs.Prelude.{List}
use Rattle.tb_sparcm.specs.declared.cell.Cell.{Cell}
use Rattle.tb_sparcm.proofs.CellLaws.{Marking, marking_past, marking_step}
use Rattle.tb_sparcm.proofs.cell.mark.Goals as goal
use Rattle.tb_sparcm.proofs.cell.mark.Goals.{then-at-cells, else-at-cells}
use Rattle.std.proofs.Common.{◌+◌, ◌≡◌, sym}

same_marking : (cells cells' : List Cell) (k : ℕ) (words starts : List ℕ) → cells ≡ cells' → Marking cells' k words starts → Marking cells k words starts
same_marking cells cells' k words starts e m = subst (λ cs. Marking cs k words starts) (sym e) m

pub loop-number-preserved : goal.loop-number-preserved
loop-number-preserved c = elim c.if-at-cells.branch [
  | then-at-cells w ↦ same_marking c.if-at-cells.cells _ (c.loop-number.number + 1) c.args.words.now c.args.starts.now w.cells-is
      (marking_step c.loop-number.cells c.loop-number.number c.args.words.now c.args.starts.now _ _ _ c.loop-number-test.true refl w.if-at-cells.true refl refl c.loop-number.invariant)
  | else-at-cells w ↦ same_marking c.if-at-cells.cells c.loop-number.cells (c.loop-number.number + 1) c.args.words.now c.args.starts.now w.cells-is
      (marking_past c.loop-number.cells c.loop-number.number c.args.words.now c.args.starts.now _ c.loop-number-test.true refl w.if-at-cells.false c.loop-number.invariant)
]
