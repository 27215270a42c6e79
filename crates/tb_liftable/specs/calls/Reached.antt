-- How the lambda expressions that one comes to are found.
use Rattle.std.specs.Prelude.{◌≡◌, ℕ, ◌<◌, List, [], ◌∷◌, Option, Some, nat_eq, slice_get}
use Rattle.indexmap.specs.IndexSet.{insert_key}
use Rattle.tb_semantics.specs.Graph.{IsIn, Reaches}
use Rattle.tb_liftable.specs.Procedures.{Procedures}
use Rattle.tb_liftable.specs.Added.{called, calls_from}

-- these put into a list, each where it is not in it
abbrev pub inserted : List ℕ → List ℕ → List ℕ
inserted ks [] = ks
inserted ks (x ∷ xs) = inserted (insert_key nat_eq ks x) xs

-- the list holds exactly what can be reached
pub record Reached (g : Procedures) (known : ℕ → Option ℕ) (l : ℕ) (ks : List ℕ) : Type 0 where
  pub sound : (m : ℕ) → IsIn m ks → Reaches (calls_from g known l) m
  pub full : (m : ℕ) → Reaches (calls_from g known l) m → IsIn m ks

-- the same on the way: the calls of those below an index are in the list
pub record Progress (g : Procedures) (known : ℕ → Option ℕ) (l next : ℕ) (ks : List ℕ) : Type 0 where
  pub sound : (m : ℕ) → IsIn m ks → Reaches (calls_from g known l) m
  pub start : IsIn l ks
  pub closed : (j m c : ℕ) → j < next → slice_get ks j ≡ Some m → IsIn c (called known (g.free m)) → IsIn c ks
