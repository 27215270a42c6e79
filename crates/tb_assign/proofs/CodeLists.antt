-- Lists of expressions and cells, as the code makes them.
use Rattle.std.proofs.Common.{◌≡◌, refl, sym, ap, ◌∙◌, ℕ, ◌<◌, Bool, List, [], ◌∷◌, map, length, arith}
use Rattle.tb_prim.specs.declared.place.Place.{Place}
use Rattle.tb_core.specs.declared.expr.Expr.{Expr}
use Rattle.tb_core.specs.Plain as core
use Rattle.tb_ir.specs.declared.cells.CellExpr.{CellExpr}
use Rattle.tb_ir.specs.Tree as C
use Rattle.tb_ir.specs.Plain.{trees, view}
use Rattle.tb_assign.specs.Eliminate.{new_cells, bind_cells, eliminate_all}
use Rattle.tb_assign.specs.calls.Cells.{made, eliminated}
use Rattle.tb_assign.proofs.Views.{viewing}

pub cells_made : (g : ℕ → Bool) (p : Place) (xs : List ℕ) → new_cells g p xs ≡ trees (map (made p) xs)
cells_made g p [] = refl
cells_made g p (x ∷ xs) = ap (λ es. C.more (made p x) es) (cells_made g p xs)

pub all_eliminated : (g : ℕ → Bool) (es : List Expr) → eliminate_all g (core.trees (map core.view es)) ≡ trees (map (eliminated g) es)
all_eliminated g [] = refl
all_eliminated g (e ∷ es) = ap (λ ds. C.more (eliminated g e) ds) (all_eliminated g es)

-- a body with cells, as the code makes it
pub bound_cells : (g : ℕ → Bool) (p : Place) (s : ℕ) (xs : List ℕ) (cells : List CellExpr) (e : C.Tree) → 0 < length xs →
    map view cells ≡ map (made p) xs → bind_cells g p s xs e ≡ C.Node p s (C.Let xs (trees (map view cells)) e)
bound_cells g p s [] cells e h k = absurd (omega arith)
bound_cells g p s (x ∷ xs) cells e h k = ap (λ es. C.Node p s (C.Let (x ∷ xs) es e)) (cells_made g p (x ∷ xs) ∙ ap trees (sym k))

pub ruleset making = (viewing, cells_made, all_eliminated)
