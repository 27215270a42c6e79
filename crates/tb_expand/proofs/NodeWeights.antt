-- What the constants of nodes weigh together: a split has no more than its parts.
use Rattle.std.proofs.Common.{◌≡◌, refl, ℕ, ◌+◌, ◌≤◌, arith, not, Bool, true, false, List, [], ◌∷◌, Option, Some, None}
use Rattle.tb_prim.specs.declared.place.Place.{Place}
use Rattle.tb_sexp.specs.Tree as datum
use Rattle.tb_expand.specs.declared.context.Context.{Context}
use Rattle.tb_expand.specs.Scopes.{State}
use Rattle.tb_expand.specs.Trees.{Var, Node, At, Core, Constant, Unspecified, Undefined, Local, Global, Lambda, If, SetLocal, SetGlobal, DefGlobal, Let, Letrec, Seq, Call, PrimUse, Apply, Nodes, nil, cons, joined}
use Rattle.tb_expand.specs.Splits.{Bindings, binding_if, is_steady, chosen, split, assigned_before, in_order, letrec_round, let_round, undefined, node_of}
use Rattle.tb_expand.specs.Expressions.{Build, Choosing, ChoosingOne, AssigningLocal, AssigningGlobal, Using, ApplyingTo, Calling, built}
use Rattle.tb_expand.proofs.GoodExpressions.{IsGoodName}

module _ (weight : datum.Shape → ℕ) where
  abbrev mutual
    pub weigh : Node → ℕ
    weigh (At p c) = weigh_in c

    pub weigh_in : Core → ℕ
    weigh_in (Constant s) = weight s
    weigh_in Unspecified = 0
    weigh_in Undefined = 0
    weigh_in (Local x) = 0
    weigh_in (Global g) = 0
    weigh_in (Lambda xs r b) = weigh b
    weigh_in (If a b c) = weigh a + (weigh b + weigh c)
    weigh_in (SetLocal x e) = weigh e
    weigh_in (SetGlobal q g e) = weigh e
    weigh_in (DefGlobal g e) = weigh e
    weigh_in (Let xs es e) = weigh_all es + weigh e
    weigh_in (Letrec xs es e) = weigh_all es + weigh e
    weigh_in (Seq es) = weigh_all es
    weigh_in (Call f es) = weigh f + weigh_all es
    weigh_in (PrimUse q es) = weigh_all es
    weigh_in (Apply f l) = weigh f + weigh l

    pub weigh_all : Nodes → ℕ
    weigh_all nil = 0
    weigh_all (cons e es) = weigh e + weigh_all es

  one_weighs : (b : Bool) (x : Var) (e : Node) (t o : Bindings) (n : ℕ) → weigh_all t.values + weigh_all o.values ≤ n →
      weigh_all (binding_if b x e t).values + weigh_all (binding_if (not b) x e o).values ≤ weigh e + n
  one_weighs true x e t o n h = omega arith
  one_weighs false x e t o n h = omega arith

  both_weigh : (parts : Nodes) (xs : List Var) (vs : Nodes) → weigh_all (chosen true parts xs vs).values + weigh_all (chosen false parts xs vs).values ≤ weigh_all vs
  both_weigh parts [] vs = omega arith
  both_weigh parts (x ∷ xs) nil = omega arith
  both_weigh parts (x ∷ xs) (cons e es) = one_weighs (is_steady parts x e) x e (chosen true parts xs es) (chosen false parts xs es) (weigh_all es) (both_weigh parts xs es)

  before_weighs : (p : Place) (xs : List Var) (vs es : Nodes) → weigh_all (assigned_before p xs vs es) ≤ weigh_all vs + weigh_all es
  before_weighs p [] vs es = omega arith
  before_weighs p (x ∷ xs) nil es = omega arith
  before_weighs p (x ∷ xs) (cons v vs) es = let h = before_weighs p xs vs es in omega arith

  in_order_weighs : (p : Place) (es : Nodes) → weigh (in_order p es) ≤ weigh_all es
  in_order_weighs p nil = omega arith
  in_order_weighs p (cons e nil) = omega arith
  in_order_weighs p (cons e (cons f es)) = omega arith

  letrec_weighs : (p : Place) (xs : List Var) (vs : Nodes) (e : Node) → weigh (letrec_round p xs vs e) ≤ weigh_all vs + weigh e
  letrec_weighs p [] vs e = omega arith
  letrec_weighs p (x ∷ xs) vs e = omega arith

  undefined_weighs : (p : Place) (xs : List Var) → weigh_all (undefined p xs) ≡ 0
  undefined_weighs p [] = refl
  undefined_weighs p (x ∷ xs) = let h = undefined_weighs p xs in omega arith

  let_weighs : (p : Place) (xs : List Var) (e : Node) → weigh (let_round p xs e) ≤ weigh e
  let_weighs p [] e = omega arith
  let_weighs p (x ∷ xs) e = let h = undefined_weighs p (x ∷ xs) in omega arith

  pub split_weighs : (p : Place) (xs : List Var) (vs es : Nodes) → weigh (node_of p (split xs vs es)) ≤ weigh_all vs + weigh_all es
  split_weighs p xs vs es =
      let parts = joined vs es in
      let t = chosen true parts xs vs in
      let o = chosen false parts xs vs in
      let body = assigned_before p o.variables o.values es in
      let a = before_weighs p o.variables o.values es in
      let b = in_order_weighs p body in
      let c = letrec_weighs p t.variables t.values (in_order p body) in
      let d = let_weighs p o.variables (letrec_round p t.variables t.values (in_order p body)) in
      let e = both_weigh parts xs vs in
      omega arith

  abbrev pub WeighsAs : Nodes → Option Core → Type 0
  WeighsAs es None = Unit {0}
  WeighsAs es (Some e) = weigh_in e ≡ weigh_all es

  pub built_weighs : (p : Place) (k : Build) (es : Nodes) → WeighsAs es (built p k es)
  built_weighs p Choosing (cons a (cons b (cons c nil))) = omega arith
  built_weighs p ChoosingOne (cons a (cons b nil)) = omega arith
  built_weighs p (AssigningLocal x) (cons e nil) = omega arith
  built_weighs p (AssigningGlobal q r) (cons e nil) = omega arith
  built_weighs p (Using q) es = refl
  built_weighs p ApplyingTo (cons f (cons l nil)) = omega arith
  built_weighs p Calling (cons f es) = refl
  built_weighs p k es = tt

  pub name_weighs : (st : State) (c : Context) (e : Core) → IsGoodName st c e → weigh_in e ≡ 0
  name_weighs st c (Local x) h = refl
  name_weighs st c (Global g) h = refl
  name_weighs st c e h = absurd h

  pub joined_weighs : (es fs : Nodes) → weigh_all (joined es fs) ≡ weigh_all es + weigh_all fs
  joined_weighs nil fs = omega arith
  joined_weighs (cons e es) fs = let h = joined_weighs es fs in omega arith
