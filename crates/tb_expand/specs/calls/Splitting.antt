-- Bindings that are split one after another.
use Rattle.std.specs.Prelude.{ℕ, zero, suc, ◌+◌, nat_le, ◌&&◌, not, Bool, cond, List, [], ◌∷◌, ◌++◌}
use Rattle.std.specs.List.{list_any}
use Rattle.tb_prim.specs.declared.place.Place.{Place}
use Rattle.tb_expand.specs.Trees.{Var, same_var, Node, At, Core, Constant, Unspecified, Undefined, Local, Global, Lambda, If, SetLocal, SetGlobal, DefGlobal, Let, Letrec, Seq, Call, PrimUse, Apply, Nodes, nil, cons, joined, is_lambda}
use Rattle.tb_expand.specs.Splits.{Bindings}

abbrev mutual
  -- the variables that a `set!` in a node names
  pub assigned_of : Node → List Var
  assigned_of (At p c) = assigned_in c

  pub assigned_in : Core → List Var
  assigned_in (Constant s) = []
  assigned_in Unspecified = []
  assigned_in Undefined = []
  assigned_in (Local y) = []
  assigned_in (Global g) = []
  assigned_in (Lambda ys r b) = assigned_of b
  assigned_in (If a b c) = (assigned_of a ++ assigned_of b) ++ assigned_of c
  assigned_in (SetLocal y e) = (y ∷ []) ++ assigned_of e
  assigned_in (SetGlobal q g e) = assigned_of e
  assigned_in (DefGlobal g e) = assigned_of e
  assigned_in (Let ys es e) = assigned_all es ++ assigned_of e
  assigned_in (Letrec ys es e) = assigned_all es ++ assigned_of e
  assigned_in (Seq es) = assigned_all es
  assigned_in (Call f es) = assigned_of f ++ assigned_all es
  assigned_in (PrimUse p es) = assigned_all es
  assigned_in (Apply f l) = assigned_of f ++ assigned_of l

  pub assigned_all : Nodes → List Var
  assigned_all nil = []
  assigned_all (cons e es) = assigned_of e ++ assigned_all es

-- whether a variable is one of these
abbrev pub is_one : List Var → Var → Bool
is_one ys x = list_any (λ y. same_var y x) ys

-- a lambda expression whose variable is none of these
abbrev pub is_kept : List Var → Var → Node → Bool
is_kept ys x e = is_lambda e && not (is_one ys x)

-- one binding more, and all of two
abbrev pub with_binding : Bindings → Var → Node → Bindings
with_binding b x e = record { variables = b.variables ++ (x ∷ []); values = joined b.values (cons e nil) }

abbrev pub both : Bindings → Bindings → Bindings
both a b = record { variables = a.variables ++ b.variables; values = joined a.values b.values }

-- what is bound together and what is assigned
pub record Halves : Type 0 where
  pub together : Bindings
  pub others : Bindings

abbrev pub halves : Bindings → Bindings → Halves
halves t o = record { together = t; others = o }

-- the bindings behind some that are split already
abbrev pub split_from : List Var → Bindings → Bindings → List Var → Nodes → Halves
split_from ys t o [] es = halves t o
split_from ys t o (x ∷ xs) nil = halves t o
split_from ys t o (x ∷ xs) (cons e es) =
    cond (is_kept ys x e) (split_from ys (with_binding t x e) o xs es) (split_from ys t (with_binding o x e) xs es)

-- the assignments of variables, in order
abbrev pub assignments : Place → List Var → Nodes → Nodes
assignments p [] vs = nil
assignments p (x ∷ xs) nil = nil
assignments p (x ∷ xs) (cons v vs) = cons (At p (SetLocal x v)) (assignments p xs vs)

-- how many nodes are inserted, by the numbers of variables that are assigned, of lambda expressions among their
-- values, of variables that are bound together, and of expressions
abbrev pub one_if_some : ℕ → ℕ
one_if_some zero = 0
one_if_some (suc n) = 1

abbrev pub inserted_by : ℕ → ℕ → ℕ → ℕ → ℕ
inserted_by o l t b = one_if_some o + (o + (o + (l + (one_if_some t + cond (nat_le 2 (o + b)) 1 0))))
