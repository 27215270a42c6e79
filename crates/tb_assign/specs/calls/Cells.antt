-- A cell that is made, and an expression of the code with cells.
use Rattle.std.specs.Prelude.{ℕ, Bool}
use Rattle.tb_prim.specs.declared.place.Place.{Place}
use Rattle.tb_core.specs.declared.expr.Expr.{Expr}
use Rattle.tb_core.specs.Plain.{view}
use Rattle.tb_ir.specs.Tree.{Tree, Node, NewCell, Local}
use Rattle.tb_assign.specs.Eliminate.{fresh, cell_site, operand_site, eliminate}

-- the new cell of a variable, made of its fresh one
abbrev pub made : Place → ℕ → Tree
made p x = Node p (cell_site x) (NewCell (Node p (operand_site x) (Local (fresh x))))

-- an expression of the code with cells
abbrev pub eliminated : (ℕ → Bool) → Expr → Tree
eliminated assigned e = eliminate assigned (view e)
