-- The plain data that the types of data are seen as.
use Rattle.std.specs.Prelude.{List, [], ◌∷◌, Some, None}
use Rattle.tb_sexp.specs.declared.datum.Node.{Node}
use Rattle.tb_sexp.specs.declared.datum.Node.TheOpen.{Node-F, Datum-F}
use Rattle.tb_sexp.specs.declared.datum.Node.TheFolds.{fold-Node, fold-Datum}
use Rattle.tb_sexp.specs.declared.datum.Datum.{Datum}
use Rattle.tb_sexp.specs.Tree.{Tree, At, Shape, Nil, Truth, Fixnum, Character, String, Name, Proper, Dotted, Vector, Trees, none, more}

-- a list of data as data of its own
abbrev pub trees : List Tree → Trees
trees [] = none
trees (d ∷ ds) = more d (trees ds)

abbrev pub view_in : Node-F Shape Tree → Shape
view_in Node-F.Nil = Nil
view_in (Node-F.Bool b) = Truth b
view_in (Node-F.Fix n) = Fixnum n
view_in (Node-F.Char c) = Character c
view_in (Node-F.Str s) = String s
view_in (Node-F.Name s a) = Name s a
view_in (Node-F.List ds None) = Proper (trees ds)
view_in (Node-F.List ds (Some d)) = Dotted (trees ds) d
view_in (Node-F.Vector ds) = Vector (trees ds)

abbrev pub view_at : Datum-F Shape Tree → Tree
view_at d = At d.place d.node

-- a datum as a tree
abbrev pub view : Datum → Tree
view = fold-Datum Shape Tree view_in view_at

abbrev pub view_node : Node → Shape
view_node = fold-Node Shape Tree view_in view_at
