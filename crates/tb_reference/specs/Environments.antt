-- The environments of a configuration, and the variables that they bind.
use Rattle.std.specs.Prelude.{◌≡◌, ℕ, List, [], ◌∷◌, ◌++◌, Some}
use Rattle.tb_semantics.specs.Graph.{IsApart, IsIn}
use Rattle.tb_core.specs.Reference.{Control, Eval, Bound, Val, Entering, Work, Sel, SetVar, SetGlo, Rest, Args, Top, Frame, Config}
use Rattle.tb_core.specs.Store.{Env, Empty, Bind, Item, Var, Obj, Clo, lookup}

-- the variables of an environment, as often as it binds them
abbrev pub env_variables : Env → List ℕ
env_variables Empty = []
env_variables (Bind x l r) = x ∷ env_variables r

-- no variable is bound twice
abbrev pub BindsOnce : Env → Type 0
BindsOnce r = IsApart (env_variables r)

-- the environment has a location for the variable
abbrev pub HasVariable : Env → ℕ → Type 0
HasVariable r x = (l : ℕ) × (lookup r x ≡ Some l)

-- the list has each variable for which the environment has a location, and no other, once
pub record ListsVariables (r : Env) (xs : List ℕ) : Type 0 where
  pub apart : IsApart xs
  pub sound : (x : ℕ) → IsIn x xs → HasVariable r x
  pub full : (x : ℕ) → HasVariable r x → IsIn x xs

-- the environments of a control, of what waits, of frames, of an item and of a store
abbrev pub control_environments : Control → List Env
control_environments (Eval e r) = r ∷ []
control_environments (Bound e r) = r ∷ []
control_environments (Val v) = []
control_environments (Entering l vs) = []

abbrev pub work_environments : Work → List Env
work_environments (Sel a b r) = r ∷ []
work_environments (SetVar l) = []
work_environments (SetGlo g defines p) = []
work_environments (Rest es r) = r ∷ []
work_environments (Args p s f vs r) = r ∷ []
work_environments (Top k) = []

abbrev pub frames_environments : List Frame → List Env
frames_environments [] = []
frames_environments (f ∷ fs) = work_environments f.work ++ frames_environments fs

abbrev pub item_environments : Item → List Env
item_environments (Var v) = []
item_environments (Obj o) = []
item_environments (Clo m r) = r ∷ []

abbrev pub store_environments : List Item → List Env
store_environments [] = []
store_environments (i ∷ st) = item_environments i ++ store_environments st

-- all environments of a configuration
abbrev pub environments : Config → List Env
environments c = control_environments c.control ++ (frames_environments c.frames ++ store_environments c.store)
