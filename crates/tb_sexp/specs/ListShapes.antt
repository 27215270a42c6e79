-- What the written lists and marks denote.
use Rattle.std.specs.Prelude.{ℕ, List, [], ◌∷◌, codes}
use Rattle.tb_prim.specs.declared.place.Place.{Place}
use Rattle.tb_sexp.specs.declared.token.Mark.{Mark}
use Rattle.tb_sexp.specs.declared.token.Mark.TheVariants.{Quote, Quasiquote, Unquote, UnquoteSplicing}
use Rattle.tb_sexp.specs.Tree.{Tree, At, Shape, Nil, Truth, Fixnum, Character, String, Name, Proper, Dotted, Vector, Trees, none, more}
use Rattle.tb_sexp.specs.View.{trees}

-- the names that the marks stand for
abbrev pub name_of_mark : Mark → List ℕ
name_of_mark Quote = codes "quote"
name_of_mark Quasiquote = codes "quasiquote"
name_of_mark Unquote = codes "unquote"
name_of_mark UnquoteSplicing = codes "unquote-splicing"

-- a mark and a datum: a list of a name and the datum, both at the place of the mark
abbrev pub marked : Place → Mark → Tree → Tree
marked p m d = At p (Proper (more (At p (Name (name_of_mark m) 0)) (more d none)))

abbrev pub list_of : List Tree → Shape
list_of [] = Nil
list_of (d ∷ ds) = Proper (trees (d ∷ ds))

abbrev pub front_of : List Tree → Trees → Trees
front_of [] ts = ts
front_of (d ∷ ds) ts = more d (front_of ds ts)

-- a dotted list whose tail is a list or empty is the list that it denotes
abbrev pub dotted_with : List Tree → Tree → Shape → Shape
dotted_with ds d Nil = list_of ds
dotted_with ds d (Proper es) = Proper (front_of ds es)
dotted_with ds d (Dotted es t) = Dotted (front_of ds es) t
dotted_with ds d (Truth b) = Dotted (trees ds) d
dotted_with ds d (Fixnum n) = Dotted (trees ds) d
dotted_with ds d (Character c) = Dotted (trees ds) d
dotted_with ds d (String s) = Dotted (trees ds) d
dotted_with ds d (Name s a) = Dotted (trees ds) d
dotted_with ds d (Vector es) = Dotted (trees ds) d

abbrev pub dotted : List Tree → Tree → Shape
dotted ds (At p s) = dotted_with ds (At p s) s
