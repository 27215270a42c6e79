-- A finished datum that may become the tail of a dotted list.
use Rattle.std.specs.Prelude.{map, reverse, Option, Some, None}
use Rattle.tb_sexp.specs.declared.datum.Datum.{Datum}
use Rattle.tb_sexp.specs.declared.tails.Tail.{Tail}
use Rattle.tb_sexp.specs.declared.tails.Tail.TheVariants.{Whole, Reversed}
use Rattle.tb_sexp.specs.Tree.{Tree, At, Shape, Proper, Dotted, Trees}
use Rattle.tb_sexp.specs.View.{trees, view}

-- the list of these data, and of its tail, if any
abbrev pub ended : Trees → Option Datum → Shape
ended ts None = Proper ts
ended ts (Some d) = Dotted ts (view d)

-- the tree that it is
abbrev pub view_tail : Tail → Tree
view_tail (Whole d) = view d
view_tail (Reversed p ds end) = At p (ended (trees (map view (reverse ds.items))) end)
