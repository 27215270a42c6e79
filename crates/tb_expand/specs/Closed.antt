-- The variables that a node binds, and nodes that name only variables of their scopes.
use Rattle.std.specs.Prelude.{◌≡◌, ℕ, ◌+◌, Bool, true, cond, List, [], ◌∷◌, ◌++◌}
use Rattle.std.specs.List.{list_any}
use Rattle.tb_expand.specs.Shapes.{option_list}
use Rattle.tb_expand.specs.Trees.{Var, same_var, Node, At, Core, Constant, Unspecified, Undefined, Local, Global, Lambda, If, SetLocal, SetGlobal, DefGlobal, Let, Letrec, Seq, Call, PrimUse, Apply, Nodes, nil, cons}

abbrev mutual
  -- the variables that are bound in a node, lambda expressions included
  pub binders_of : Node → List Var
  binders_of (At p c) = binders_in c

  pub binders_in : Core → List Var
  binders_in (Constant s) = []
  binders_in Unspecified = []
  binders_in Undefined = []
  binders_in (Local x) = []
  binders_in (Global g) = []
  binders_in (Lambda xs r b) = (xs ++ option_list r) ++ binders_of b
  binders_in (If a b c) = binders_of a ++ (binders_of b ++ binders_of c)
  binders_in (SetLocal x e) = binders_of e
  binders_in (SetGlobal q g e) = binders_of e
  binders_in (DefGlobal g e) = binders_of e
  binders_in (Let xs es e) = xs ++ (binders_of_all es ++ binders_of e)
  binders_in (Letrec xs es e) = xs ++ (binders_of_all es ++ binders_of e)
  binders_in (Seq es) = binders_of_all es
  binders_in (Call f es) = binders_of f ++ binders_of_all es
  binders_in (PrimUse q es) = binders_of_all es
  binders_in (Apply f l) = binders_of f ++ binders_of l

  pub binders_of_all : Nodes → List Var
  binders_of_all nil = []
  binders_of_all (cons e es) = binders_of e ++ binders_of_all es

-- whether a variable is one of these
abbrev pub is_bound : List Var → Var → Bool
is_bound xs x = list_any (same_var x) xs

abbrev mutual
  -- a node names only these variables and those that it binds round the places where it names them
  pub IsClosed : List Var → Node → Type 0
  IsClosed xs (At p c) = IsClosedIn xs c

  pub IsClosedIn : List Var → Core → Type 0
  IsClosedIn xs (Constant s) = Unit {0}
  IsClosedIn xs Unspecified = Unit {0}
  IsClosedIn xs Undefined = Unit {0}
  IsClosedIn xs (Local x) = is_bound xs x ≡ true
  IsClosedIn xs (Global g) = Unit {0}
  IsClosedIn xs (Lambda ys r b) = IsClosed ((ys ++ option_list r) ++ xs) b
  IsClosedIn xs (If a b c) = IsClosed xs a × IsClosed xs b × IsClosed xs c
  IsClosedIn xs (SetLocal x e) = (is_bound xs x ≡ true) × IsClosed xs e
  IsClosedIn xs (SetGlobal q g e) = IsClosed xs e
  IsClosedIn xs (DefGlobal g e) = IsClosed xs e
  IsClosedIn xs (Let ys es e) = AreClosed xs es × IsClosed (ys ++ xs) e
  IsClosedIn xs (Letrec ys es e) = AreClosed (ys ++ xs) es × IsClosed (ys ++ xs) e
  IsClosedIn xs (Seq es) = AreClosed xs es
  IsClosedIn xs (Call f es) = IsClosed xs f × AreClosed xs es
  IsClosedIn xs (PrimUse q es) = AreClosed xs es
  IsClosedIn xs (Apply f l) = IsClosed xs f × IsClosed xs l

  pub AreClosed : List Var → Nodes → Type 0
  AreClosed xs nil = Unit {0}
  AreClosed xs (cons e es) = IsClosed xs e × AreClosed xs es

-- how many elements of a list pass a test
abbrev pub one_if : Bool → ℕ
one_if b = cond b 1 0

abbrev pub times : {X : Type 0} → (X → Bool) → List X → ℕ
times test [] = 0
times test (x ∷ xs) = one_if (test x) + times test xs
