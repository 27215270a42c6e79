-- Rows of data: joined, in reverse, and as the elements of a list.
use Rattle.std.proofs.Common.{◌≡◌, List, [], ◌∷◌, ◌++◌, map, refl, sym, ap, ◌∙◌}
use Rattle.std.specs.Prelude.{reverse, Option, Some, None}
use Rattle.std.proofs.lemmas.List.{reverse-append, reverse-reverse}
use Rattle.tb_prim.specs.declared.place.Place.{Place}
use Rattle.tb_sexp.specs.declared.datum.Datum.{Datum}
use Rattle.tb_sexp.specs.declared.datum.Node.TheFolds.{fold-roll-Node, fold_out-Datum}
use Rattle.tb_sexp.specs.declared.datum.Node.TheOpen.{Node-F}
use Rattle.tb_sexp.specs.declared.datum.Node.TheVariants as node
use Rattle.tb_sexp.specs.declared.datum.Node.TheVariants.{rolls-List}
use Rattle.tb_sexp.specs.ListShapes.{dotted, front_of}
use Rattle.tb_sexp.specs.calls.Tails.{ended}
use Rattle.tb_sexp.specs.Tree.{Tree, At, Shape, Trees, more}
use Rattle.tb_sexp.specs.View.{trees, view, view_in, view_at, view_node}

trees-joined : (xs ys : List Datum) → trees (map view (xs ++ ys)) ≡ front_of (map view xs) (trees (map view ys))
trees-joined [] ys = refl
trees-joined (x ∷ xs) ys = ap (more (view x)) (trees-joined xs ys)

-- the front and the back in one row, from the last to the first
pub trees-reversed : (xs ys : List Datum) → trees (map view (reverse (ys ++ reverse xs))) ≡ front_of (map view xs) (trees (map view (reverse ys)))
trees-reversed xs ys =
    ap (λ ds. trees (map view ds)) (reverse-append ys (reverse xs) ∙ ap (λ ds. ds ++ reverse ys) (reverse-reverse xs)) ∙ trees-joined xs (reverse ys)

dotted-ended : (ds : List Tree) (p : Place) (ts : Trees) (end : Option Datum) → dotted ds (At p (ended ts end)) ≡ ended (front_of ds ts) end
dotted-ended ds p ts None = refl
dotted-ended ds p ts (Some d) = refl

view_list : (ds : List Datum) (end : Option Datum) → view_node (node.List ds end) ≡ ended (trees (map view ds)) end
view_list ds None = ap view_node (sym (rolls-List ds None)) ∙ fold-roll-Node Shape Tree view_in view_at (Node-F.List ds None)
view_list ds (Some d) = ap view_node (sym (rolls-List ds (Some d))) ∙ fold-roll-Node Shape Tree view_in view_at (Node-F.List ds (Some d))

-- a front before a list
pub dotted-list : (ds : List Tree) (d : Datum) (es : List Datum) (end : Option Datum) → d.node ≡ node.List es end → dotted ds (view d) ≡ ended (front_of ds (trees (map view es))) end
dotted-list ds d es end is =
    ap (dotted ds) (fold_out-Datum Shape Tree view_in view_at d ∙ ap (At d.place) (ap view_node is ∙ view_list es end)) ∙ dotted-ended ds d.place (trees (map view es)) end
