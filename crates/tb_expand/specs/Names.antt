-- Names, and lists of names that are bound together.
use Rattle.std.specs.Prelude.{ℕ, ◌==◌, ◌&&◌, Bool, cond, List, [], ◌∷◌, ◌++◌, Option, Some, None, bytes_eq}
use Rattle.std.specs.List.{list_any}
use Rattle.tb_prim.specs.declared.place.Place.{Place}

-- a name is a text and an alias; alias 0 is a name as it was written
pub record Name : Type 0 where
  pub text : List ℕ
  pub alias : ℕ

unfoldable pub same_name : Name → Name → Bool
same_name x y = bytes_eq x.text y.text && (x.alias == y.alias)

-- whether a name is one of these
abbrev pub is_among : Name → List Name → Bool
is_among x ys = list_any (same_name x) ys

-- a name that is bound, and where it stands
pub record Binder : Type 0 where
  pub place : Place
  pub name : Name

abbrev pub names : List Binder → List Name
names [] = []
names (b ∷ bs) = b.name ∷ names bs

-- the place of the first binder that has one of these names or the name of a binder before it
abbrev pub again : List Name → List Binder → Option Place
again seen [] = None
again seen (b ∷ bs) = cond (is_among b.name seen) (Some b.place) (again (seen ++ (b.name ∷ [])) bs)

-- the place of the second of two binders with one name, the first such in written order
abbrev pub bound_twice : List Binder → Option Place
bound_twice bs = again [] bs
