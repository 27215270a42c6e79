-- Variables that are bound in the scope of all of them, by a `letrec` or by the definitions of a body: those whose
-- expression is a lambda expression and which no `set!` names are bound together, and the others start as Undefined
-- and are assigned in written order. A `let` of the others stands round a `letrec` of the first, and that round the
-- assignments and the expressions of the body. What would bind nothing is not made, and a sequence of one expression
-- is that expression.
use Rattle.std.specs.Prelude.{ℕ, zero, suc, ◌+◌, ◌&&◌, not, nat_le, Bool, true, false, cond, List, [], ◌∷◌, length, Option, Some, None}
use Rattle.tb_prim.specs.declared.place.Place.{Place}
use Rattle.tb_expand.specs.Trees.{Var, Node, At, Core, Constant, Unspecified, Undefined, Local, Global, Lambda, If, SetLocal, SetGlobal, DefGlobal, Let, Letrec, Seq, Call, PrimUse, Apply, Nodes, nil, cons, how_many, joined, is_lambda, assigns_any}

-- variables, and as many expressions
pub record Bindings : Type 0 where
  pub variables : List Var
  pub values : Nodes

abbrev pub no_bindings : Bindings
no_bindings = record { variables = []; values = nil }

-- a binding before others, where it is one of them
abbrev pub binding_if : Bool → Var → Node → Bindings → Bindings
binding_if true x e b = record { variables = x ∷ b.variables; values = cons e b.values }
binding_if false x e b = b

-- a lambda expression whose variable none of these parts assigns
abbrev pub is_steady : Nodes → Var → Node → Bool
is_steady parts x e = is_lambda e && not (assigns_any x parts)

-- the bindings for which that is so, or is not so
abbrev pub chosen : Bool → Nodes → List Var → Nodes → Bindings
chosen b parts [] es = no_bindings
chosen b parts (x ∷ xs) nil = no_bindings
chosen true parts (x ∷ xs) (cons e es) = binding_if (is_steady parts x e) x e (chosen true parts xs es)
chosen false parts (x ∷ xs) (cons e es) = binding_if (not (is_steady parts x e)) x e (chosen false parts xs es)

-- a split: what is bound together, what is assigned, and the expressions of the body
pub record Split : Type 0 where
  pub together : Bindings
  pub others : Bindings
  pub body : Nodes

abbrev pub split : List Var → Nodes → Nodes → Split
split xs vs es = record { together = chosen true (joined vs es) xs vs; others = chosen false (joined vs es) xs vs; body = es }

-- an assignment for each variable, at this place, before these expressions
abbrev pub assigned_before : Place → List Var → Nodes → Nodes → Nodes
assigned_before p [] vs es = es
assigned_before p (x ∷ xs) nil es = es
assigned_before p (x ∷ xs) (cons v vs) es = cons (At p (SetLocal x v)) (assigned_before p xs vs es)

abbrev pub in_order : Place → Nodes → Node
in_order p nil = At p (Seq nil)
in_order p (cons e nil) = e
in_order p (cons e (cons f es)) = At p (Seq (cons e (cons f es)))

abbrev pub letrec_round : Place → List Var → Nodes → Node → Node
letrec_round p [] vs e = e
letrec_round p (x ∷ xs) vs e = At p (Letrec (x ∷ xs) vs e)

abbrev pub undefined : Place → List Var → Nodes
undefined p [] = nil
undefined p (x ∷ xs) = cons (At p Undefined) (undefined p xs)

abbrev pub let_round : Place → List Var → Node → Node
let_round p [] e = e
let_round p (x ∷ xs) e = At p (Let (x ∷ xs) (undefined p (x ∷ xs)) e)

-- the node of a split; what it inserts has this place
abbrev pub node_of : Place → Split → Node
node_of p s =
    let_round p s.others.variables (letrec_round p s.together.variables s.together.values
    (in_order p (assigned_before p s.others.variables s.others.values s.body)))

abbrev pub one_unless : {X : Type 0} → List X → ℕ
one_unless [] = 0
one_unless (x ∷ xs) = 1

abbrev pub lambdas_among : Nodes → ℕ
lambdas_among nil = 0
lambdas_among (cons e es) = cond (is_lambda e) 1 0 + lambdas_among es

-- how many nodes a split adds to those of its parts, where a lambda expression that is a value counts as none: the
-- `let` and its marks, the assignments and the lambda expressions in them, the `letrec`, and the sequence
abbrev pub inserted : Split → ℕ
inserted s =
    one_unless s.others.variables + (length s.others.variables + (length s.others.variables
    + (lambdas_among s.others.values + (one_unless s.together.variables
    + cond (nat_le 2 (length s.others.variables + how_many s.body)) 1 0))))

abbrev pub or_first : Option Place → Option Place → Option Place
or_first None b = b
or_first (Some p) b = Some p

abbrev mutual
  -- the place of the first node, in written order, that has this many nodes around it or more. The lambda
  -- expressions that a `letrec` binds are as deep as the `letrec`
  pub first_deep : ℕ → Node → Option Place
  first_deep zero (At p c) = Some p
  first_deep (suc n) (At p c) = first_deep_in n c

  pub first_deep_in : ℕ → Core → Option Place
  first_deep_in n (Constant s) = None
  first_deep_in n Unspecified = None
  first_deep_in n Undefined = None
  first_deep_in n (Local x) = None
  first_deep_in n (Global g) = None
  first_deep_in n (Lambda xs r b) = first_deep n b
  first_deep_in n (If a b c) = or_first (first_deep n a) (or_first (first_deep n b) (first_deep n c))
  first_deep_in n (SetLocal x e) = first_deep n e
  first_deep_in n (SetGlobal q g e) = first_deep n e
  first_deep_in n (DefGlobal g e) = first_deep n e
  first_deep_in n (Let xs es e) = or_first (first_deep_of n es) (first_deep n e)
  first_deep_in n (Letrec xs es e) = or_first (first_deep_of (suc n) es) (first_deep n e)
  first_deep_in n (Seq es) = first_deep_of n es
  first_deep_in n (Call f es) = or_first (first_deep n f) (first_deep_of n es)
  first_deep_in n (PrimUse p es) = first_deep_of n es
  first_deep_in n (Apply f l) = or_first (first_deep n f) (first_deep n l)

  pub first_deep_of : ℕ → Nodes → Option Place
  first_deep_of n nil = None
  first_deep_of n (cons e es) = or_first (first_deep n e) (first_deep_of n es)
