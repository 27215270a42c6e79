-- The variables that are added to the parameters of lambda expressions when some of these are lifted.
use Rattle.std.specs.Prelude.{◌≡◌, ℕ, ◌<◌, Bool, false, cond, nat_lt, ◌==◌, List, [], ◌∷◌, Option, Some, None}
use Rattle.tb_semantics.specs.Graph.{Graph, IsIn, reaches, kept, below}
use Rattle.tb_core.specs.FreeVariables.{of_lambdas}
use Rattle.tb_liftable.specs.Procedures.{Procedures, or_else}

abbrev pub is_name : Option ℕ → ℕ → Bool
is_name None x = false
is_name (Some y) x = y == x

abbrev pub named : Procedures → ℕ → ℕ → Option ℕ
named g l x = cond (is_name (g.name l) x) (Some l) None

-- the lambda expression of a set that a variable is bound to
abbrev pub member : Procedures → List ℕ → ℕ → Option ℕ
member g [] x = None
member g (l ∷ ls) x = or_else (member g ls x) (named g l x)

-- The least solution. A free variable that names no member is added, and what is added to a member that is
-- named is added to those that name it.
pub data Added (g : Procedures) (set : List ℕ) : ℕ → ℕ → Type 0 where
  itself : {l y : ℕ} → IsIn y (g.free l) → member g set y ≡ None → Added g set l y
  through : {l y : ℕ} (f m : ℕ) → IsIn f (g.free l) → member g set f ≡ Some m → Added g set m y → Added g set l y

-- of these variables those that name no lambda expression, and the lambda expressions that the others name
abbrev pub plain_by : Option ℕ → ℕ → List ℕ → List ℕ
plain_by None x xs = x ∷ xs
plain_by (Some l) x xs = xs

abbrev pub plain : (ℕ → Option ℕ) → List ℕ → List ℕ
plain known [] = []
plain known (x ∷ xs) = plain_by (known x) x (plain known xs)

abbrev pub called_by : Option ℕ → List ℕ → List ℕ
called_by None ls = ls
called_by (Some l) ls = l ∷ ls

abbrev pub called : (ℕ → Option ℕ) → List ℕ → List ℕ
called known [] = []
called known (x ∷ xs) = called_by (known x) (called known xs)

-- a number put into a list in ascending order, where it is not in it
abbrev pub put : ℕ → List ℕ → List ℕ
put x [] = x ∷ []
put x (y ∷ ys) = cond (nat_lt x y) (x ∷ y ∷ ys) (cond (x == y) (y ∷ ys) (y ∷ put x ys))

-- the members of a list, each once, in ascending order
abbrev pub ascending : List ℕ → List ℕ
ascending [] = []
ascending (x ∷ xs) = put x (ascending xs)

-- each number of a list is less than all after it
abbrev pub Rising : List ℕ → Type 0
Rising [] = Unit {0}
Rising (x ∷ xs) = ((y : ℕ) → IsIn y xs → x < y) × Rising xs

-- which lambda expressions a lambda expression comes to by the variables that name some
abbrev pub calls_from : Procedures → (ℕ → Option ℕ) → ℕ → Graph
calls_from g known l = record { count = g.count; next = λ m. called known (g.free m); roots = l ∷ [] }

-- the least solution as a list, in the order of the variables' numbers: what is named by all the lambda
-- expressions that it comes to
unfoldable pub added_to : Procedures → List ℕ → ℕ → List ℕ
added_to g set l = ascending (of_lambdas (λ m. plain (member g set) (g.free m)) (kept (reaches (calls_from g (member g set) l)) (below g.count)))
