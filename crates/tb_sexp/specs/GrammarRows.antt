-- Worked rows of tokens, all at one place.
use Rattle.std.specs.Prelude.{List, [], ◌∷◌, codes, true, pos}
use Rattle.tb_prim.specs.declared.place.Place.{Place}
use Rattle.tb_sexp.specs.declared.token.Mark.TheVariants.{Quote}
use Rattle.tb_sexp.specs.declared.token.Token.{Token}
use Rattle.tb_sexp.specs.declared.token.Token.TheVariants as token
use Rattle.tb_sexp.specs.Grammar.{Placed, placed}
use Rattle.tb_sexp.specs.Tree.{Tree, At, Truth, Fixnum, Name, Proper, Vector, none, more}

abbrev pub row : Place → List Token → List Placed
row p [] = []
row p (t ∷ ts) = placed p t ∷ row p ts

-- `(a . (b))` spells `(a b)`
abbrev pub joined_row : List Token
joined_row = token.Open ∷ token.Name (codes "a") ∷ token.Dot ∷ token.Open ∷ token.Name (codes "b") ∷ token.Close ∷ token.Close ∷ []

abbrev pub joined_data : Place → List Tree
joined_data p = At p (Proper (more (At p (Name (codes "a") 0)) (more (At p (Name (codes "b") 0)) none))) ∷ []

-- `'#(1) #t` spells two data, of which the first is a list of `quote` and a vector
abbrev pub quoted_row : List Token
quoted_row = token.Mark Quote ∷ token.OpenVector ∷ token.Fix (pos 1) ∷ token.Close ∷ token.Bool true ∷ []

abbrev pub quoted_data : Place → List Tree
quoted_data p = At p (Proper (more (At p (Name (codes "quote") 0)) (more (At p (Vector (more (At p (Fixnum (pos 1))) none))) none))) ∷ At p (Truth true) ∷ []
