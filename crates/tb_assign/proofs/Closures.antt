-- A procedure is made with what it captures, as in the source.
use Rattle.std.proofs.Common.{sym, ◌∙◌, ℕ, List, []}
use Rattle.tb_semantics.specs.Graph.{IsIn}
use Rattle.tb_semantics.proofs.Worlds.{World}
use Rattle.tb_core.specs.Tree.{ProgramTree}
use Rattle.tb_core.specs.FreeVariables.{inner_free, is_assigned}
use Rattle.tb_core.specs.Store as S
use Rattle.tb_core.specs.Store.{Value}
use Rattle.tb_core.proofs.FirstUses.{first_of-in}
use Rattle.tb_core.proofs.Members.{in-tested, tested-in}
use Rattle.tb_ir.specs.FreeVariables as F
use Rattle.tb_ir.specs.Machine as M
use Rattle.tb_assign.specs.Eliminate.{cells_of}
use Rattle.tb_assign.proofs.Free.{Same}
use Rattle.tb_assign.proofs.Rel as Rel
use Rattle.tb_assign.proofs.Rel.{EnvRel, Covers, ItemRel, inner_cells}
use Rattle.tb_assign.proofs.Envs.{covers-gather, gather-cut}

module _ (p : ProgramTree) (inner : (l : ℕ) → Same (inner_cells p l) (inner_free p l)) where
  captured_in : (l y : ℕ) → IsIn y (inner_cells p l) → IsIn y (F.captured (cells_of p) l)
  captured_in l y i = in-tested (F.captured (cells_of p) l) y
      (first_of-in [] (inner_cells p l) y ∙ tested-in (inner_cells p l) y i)

  captured_free : (l y : ℕ) → IsIn y (F.captured (cells_of p) l) → IsIn y (inner_free p l)
  captured_free l y i = (inner l).to y
      (in-tested (inner_cells p l) y
      (sym (first_of-in [] (inner_cells p l) y) ∙ tested-in (F.captured (cells_of p) l) y i))

  -- a procedure that is made
  pub closure-made : (w : World Value) (l : ℕ) (xs : List ℕ) (r : M.Env) (h : S.Env) → Covers xs r →
      ((y : ℕ) → IsIn y (inner_cells p l) → IsIn y xs) → EnvRel (is_assigned p) w r h →
      ItemRel p w (M.Clo l (M.gather (F.captured (cells_of p) l) r)) (S.Clo l (S.cut (inner_free p l) h))
  closure-made w l xs r h cv sub v =
      Rel.closure (covers-gather xs (inner_cells p l) (F.captured (cells_of p) l) r cv sub (captured_in l))
      (gather-cut (is_assigned p) w (F.captured (cells_of p) l) (inner_free p l) r h v (captured_free l))
