-- Small macro uses, and the parts that patterns get from them.
use Rattle.std.specs.Prelude.{ℕ, pos, List, [], ◌∷◌, codes}
use Rattle.tb_prim.specs.declared.place.Place.{Place}
use Rattle.tb_sexp.specs.Tree.{Tree, At, Fixnum}
use Rattle.tb_rules.specs.Rules.{Rule}
use Rattle.tb_rules.specs.Names.{Variable}
use Rattle.tb_rules.specs.Examples.{word, row}
use Rattle.tb_rules.specs.Parts.{Part, One, Many, Parts, nothing, part}

abbrev pub number : Place → ℕ → Tree
number p n = At p (Fixnum (pos n))

abbrev pub parts : List Part → Parts
parts [] = nothing
parts (x ∷ xs) = part x (parts xs)

-- a use of a macro with these operands
abbrev pub use_of : Place → List Tree → Tree
use_of p ds = row p (word p (codes "m") ∷ ds)

abbrev pub only : Tree → Rule
only pattern = record { pattern = pattern; template = pattern }

-- `(m (1 2 3) (4))`
abbrev pub nested_use : Place → Tree
nested_use p = use_of p (row p (number p 1 ∷ number p 2 ∷ number p 3 ∷ []) ∷ row p (number p 4 ∷ []) ∷ [])

-- 1 and 4; and 2 and 3, and nothing
abbrev pub nested_parts : Place → Parts
nested_parts p = parts (Many (parts (One (number p 1) ∷ One (number p 4) ∷ []))
    ∷ Many (parts (Many (parts (One (number p 2) ∷ One (number p 3) ∷ [])) ∷ Many nothing ∷ [])) ∷ [])

-- the variables of `(_ (a b ...) ...)`
abbrev pub nested_variables : Place → List Variable
nested_variables p = record { text = codes "a"; alias = 0; depth = 1 } ∷ record { text = codes "b"; alias = 0; depth = 2 } ∷ []
