-- Graphs on numbers, what can be reached in them, and the size of all that.
use Rattle.std.specs.Prelude.{◌≡◌, ℕ, zero, suc, ◌+◌, ◌<◌, Bool, false, cond, ◌==◌, ◌||◌, ◌&&◌, ◌⊎◌, List, [], ◌∷◌}

-- an element of a list
abbrev pub IsIn : {X : Type 0} → X → List X → Type 0
IsIn x [] = ⊥
IsIn x (y ∷ ys) = (y ≡ x) ⊎ IsIn x ys

-- a list without repeats
abbrev pub IsApart : List ℕ → Type 0
IsApart [] = Unit {0}
IsApart (x ∷ xs) = (IsIn x xs → ⊥) × IsApart xs

-- a graph on the numbers below `count`: the nodes that each leads to, and those that are reached at once
pub record Graph : Type 0 where
  pub count : ℕ
  pub next : ℕ → List ℕ
  pub roots : List ℕ

-- only nodes of the graph lead to others
abbrev pub IsClosed : Graph → Type 0
IsClosed g = (k l : ℕ) → IsIn l (g.next k) → k < g.count

-- what can be reached
pub data Reaches (g : Graph) : ℕ → Type 0 where
  root : {l : ℕ} → IsIn l g.roots → Reaches g l
  child : {k l : ℕ} → Reaches g k → IsIn l (g.next k) → Reaches g l

-- the same nodes and edges, with other roots
abbrev pub with_roots : Graph → List ℕ → Graph
with_roots g rs = record { count = g.count; next = g.next; roots = rs }

-- the list holds exactly the nodes that can be reached, each once
pub record ListsReachable (g : Graph) (xs : List ℕ) : Type 0 where
  pub apart : IsApart xs
  pub sound : (l : ℕ) → IsIn l xs → (l < g.count) × Reaches g l
  pub full : (l : ℕ) → l < g.count → Reaches g l → IsIn l xs

-- the same as a test, by the nodes that a path may go through (Warshall 1962)
abbrev pub has : List ℕ → ℕ → Bool
has [] x = false
has (y ∷ ys) x = (y == x) || has ys x

-- from a to b by one edge, or through nodes of the list
abbrev pub joined : (ℕ → List ℕ) → List ℕ → ℕ → ℕ → Bool
joined next [] a b = has (next a) b
joined next (u ∷ us) a b = joined next us a b || (joined next us a u && joined next us u b)

-- the numbers below another
abbrev pub below : ℕ → List ℕ
below zero = []
below (suc n) = n ∷ below n

abbrev pub from_some : (ℕ → List ℕ) → List ℕ → List ℕ → ℕ → Bool
from_some next us [] l = false
from_some next us (r ∷ rs) l = ((r == l) || joined next us r l) || from_some next us rs l

unfoldable pub reaches : Graph → ℕ → Bool
reaches g l = from_some g.next (below g.count) g.roots l

-- the elements that pass a test
abbrev pub kept : (ℕ → Bool) → List ℕ → List ℕ
kept test [] = []
kept test (x ∷ xs) = cond (test x) (x ∷ kept test xs) (kept test xs)

abbrev pub sum_of : (ℕ → ℕ) → List ℕ → ℕ
sum_of size [] = 0
sum_of size (x ∷ xs) = size x + sum_of size xs

-- the size of all that can be reached, each node once
unfoldable pub total : (ℕ → ℕ) → Graph → ℕ
total size g = sum_of size (kept (reaches g) (below g.count))
