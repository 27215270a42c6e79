-- What the variables of a pattern are bound to: a datum, or the list of the parts under an ellipsis.
use Rattle.std.specs.Prelude.{List, [], ◌∷◌}
use Rattle.tb_sexp.specs.Tree.{Tree}
use Rattle.tb_rules.specs.Names.{Variable}

mutual
  pub data Part : Type 0 where
    One : Tree → Part
    Many : Parts → Part

  pub data Parts : Type 0 where
    nothing : Parts
    part : Part → Parts → Parts

abbrev pub joined : Parts → Parts → Parts
joined nothing ys = ys
joined (part x xs) ys = part x (joined xs ys)

-- no parts yet for each of these variables
abbrev pub no_parts : List Variable → Parts
no_parts [] = nothing
no_parts (v ∷ vs) = part (Many nothing) (no_parts vs)

-- a part in front of the others of its variable
abbrev pub in_front : Part → Part → Part
in_front x (One d) = One d
in_front x (Many xs) = Many (part x xs)

-- the parts of one element, each in front of the others of its variable
abbrev pub put_in_front : Parts → Parts → Parts
put_in_front nothing ys = nothing
put_in_front (part x xs) nothing = nothing
put_in_front (part x xs) (part y ys) = part (in_front x y) (put_in_front xs ys)
