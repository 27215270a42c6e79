-- Small forms of `syntax-rules`, all at one place.
use Rattle.std.specs.Prelude.{ℕ, pos, List, [], ◌∷◌, codes}
use Rattle.tb_prim.specs.declared.place.Place.{Place}
use Rattle.tb_sexp.specs.Tree.{Tree, At, Nil, Fixnum, Name, Proper, Dotted, Vector}
use Rattle.tb_sexp.specs.View.{trees}

abbrev pub word : Place → List ℕ → Tree
word p s = At p (Name s 0)

abbrev pub row : Place → List Tree → Tree
row p ds = At p (Proper (trees ds))

abbrev pub dots : Place → Tree
dots p = word p (codes "...")

abbrev pub a : Place → Tree
a p = word p (codes "a")

abbrev pub b : Place → Tree
b p = word p (codes "b")

-- `(_ (a b ...) ...)`
abbrev pub nested : Place → Tree
nested p = row p (word p (codes "_") ∷ row p (a p ∷ b p ∷ dots p ∷ []) ∷ dots p ∷ [])

-- `((a ...) (b ... ) ...)`
abbrev pub nested_template : Place → Tree
nested_template p = row p (row p (a p ∷ dots p ∷ []) ∷ row p (b p ∷ dots p ∷ []) ∷ dots p ∷ [])

-- `(_ a . b)`
abbrev pub with_tail : Place → Tree
with_tail p = At p (Dotted (trees (word p (codes "_") ∷ a p ∷ [])) (b p))

-- `(_ a ... b)`
abbrev pub middle : Place → Tree
middle p = row p (word p (codes "_") ∷ a p ∷ dots p ∷ b p ∷ [])

-- `(_ a a)`
abbrev pub twice : Place → Tree
twice p = row p (word p (codes "_") ∷ a p ∷ a p ∷ [])

-- `(syntax-rules () (pattern template))`
abbrev pub form : Place → Tree → Tree → Tree
form p pattern template = row p (word p (codes "syntax-rules") ∷ At p Nil ∷ row p (pattern ∷ template ∷ []) ∷ [])

-- `(syntax-rules (a) (pattern template))`
abbrev pub with_literal : Place → Tree → Tree → Tree
with_literal p pattern template =
    row p (word p (codes "syntax-rules") ∷ row p (a p ∷ []) ∷ row p (pattern ∷ template ∷ []) ∷ [])
