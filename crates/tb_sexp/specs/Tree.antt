-- Data as plain data, which the definitions go over by cases.
use Rattle.std.specs.Prelude.{ℕ, ℤ, Bool, List}
use Rattle.tb_prim.specs.declared.place.Place.{Place}

mutual
  -- a datum: where it begins, and what it is
  pub data Tree : Type 0 where
    At : Place → Shape → Tree

  -- what a datum is; a name has its text and its alias, and a dotted list its tail apart
  pub data Shape : Type 0 where
    Nil : Shape
    Truth : Bool → Shape
    Fixnum : ℤ → Shape
    Character : ℕ → Shape
    String : List ℕ → Shape
    Name : List ℕ → ℕ → Shape
    Proper : Trees → Shape
    Dotted : Trees → Tree → Shape
    Vector : Trees → Shape

  -- a list of data
  pub data Trees : Type 0 where
    none : Trees
    more : Tree → Trees → Trees
