-- How many nodes a split has, and which variables it binds.
use Rattle.std.proofs.Common.{◌≡◌, refl, ap, ℕ, ◌+◌, ◌≤◌, arith, not, nat_le, Bool, true, false, cond, List, [], ◌∷◌, ◌++◌, length}
use Rattle.std.proofs.lemmas.Bool.{le-leb}
use Rattle.tb_prim.specs.declared.place.Place.{Place}
use Rattle.tb_expand.specs.Trees.{Var, Node, At, Nodes, nil, cons, how_many, joined, is_lambda, assigns_any}
use Rattle.tb_expand.specs.Splits.{Bindings, binding_if, is_steady, chosen, split, assigned_before, in_order, letrec_round, let_round, undefined, node_of, one_unless, lambdas_among, inserted}
use Rattle.tb_expand.specs.Numbers.{nodes, nodes_in, nodes_of_all, nodes_of_values}
use Rattle.tb_expand.specs.Closed.{binders_of, binders_of_all, one_if, times}
use Rattle.tb_expand.proofs.ShortConstants.{both_true}
use Rattle.tb_expand.proofs.Times.{times_joined}

-- bindings that are chosen are as many variables as values
even_one : (b : Bool) (x : Var) (e : Node) (r : Bindings) → length r.variables ≡ how_many r.values → length (binding_if b x e r).variables ≡ how_many (binding_if b x e r).values
even_one true x e r h = omega arith
even_one false x e r h = h

pub chosen_even : (b : Bool) (parts : Nodes) (xs : List Var) (es : Nodes) → length (chosen b parts xs es).variables ≡ how_many (chosen b parts xs es).values
chosen_even b parts [] es = refl
chosen_even b parts (x ∷ xs) nil = refl
chosen_even true parts (x ∷ xs) (cons e es) = even_one (is_steady parts x e) x e (chosen true parts xs es) (chosen_even true parts xs es)
chosen_even false parts (x ∷ xs) (cons e es) = even_one (not (is_steady parts x e)) x e (chosen false parts xs es) (chosen_even false parts xs es)

values_counted : (es : Nodes) → nodes_of_values es + how_many es ≡ nodes_of_all es
values_counted nil = refl
values_counted (cons (At p c) es) = let h = values_counted es in omega arith

lambda_bit : (e : Node) → cond (is_lambda e) 1 0 ≤ nodes e
lambda_bit (At p c) = least (is_lambda (At p c)) (nodes_in c)
  where
    least : (b : Bool) (n : ℕ) → cond b 1 0 ≤ 1 + n
    least true n = omega arith
    least false n = omega arith

-- the values, of both kinds
parts_one : (b : Bool) (x : Var) (e : Node) (t o : Bindings) (n l : ℕ) → (b ≡ true → is_lambda e ≡ true) →
    (nodes_of_all t.values + nodes_of_all o.values) + l ≤ n + (how_many t.values + lambdas_among o.values) →
    (nodes_of_all (binding_if b x e t).values + nodes_of_all (binding_if (not b) x e o).values) + (cond (is_lambda e) 1 0 + l) ≤ (nodes e + n) + (how_many (binding_if b x e t).values + lambdas_among (binding_if (not b) x e o).values)
parts_one true x e t o n l s h = let k : one_if (is_lambda e) ≡ 1 = ap one_if (s refl) in omega arith
parts_one false x e t o n l s h = omega arith

lambdas_few : (es : Nodes) → lambdas_among es ≤ nodes_of_all es
lambdas_few nil = omega arith
lambdas_few (cons e es) = let a = lambda_bit e in let b = lambdas_few es in omega arith

parts_counted : (parts : Nodes) (xs : List Var) (vs : Nodes) →
    (nodes_of_all (chosen true parts xs vs).values + nodes_of_all (chosen false parts xs vs).values) + lambdas_among vs ≤ nodes_of_all vs + (how_many (chosen true parts xs vs).values + lambdas_among (chosen false parts xs vs).values)
parts_counted parts [] vs = let h = lambdas_few vs in omega arith
parts_counted parts (x ∷ xs) nil = omega arith
parts_counted parts (x ∷ xs) (cons e es) =
    parts_one (is_steady parts x e) x e (chosen true parts xs es) (chosen false parts xs es) (nodes_of_all es) (lambdas_among es) (λ k. (both_true (is_lambda e) (not (assigns_any x parts)) k).0) (parts_counted parts xs es)

before_counted : (p : Place) (xs : List Var) (vs es : Nodes) → length xs ≡ how_many vs → nodes_of_all (assigned_before p xs vs es) ≡ length xs + (nodes_of_all vs + nodes_of_all es)
before_counted p [] nil es h = omega arith
before_counted p [] (cons v vs) es h = absurd (omega arith)
before_counted p (x ∷ xs) nil es h = absurd (omega arith)
before_counted p (x ∷ xs) (cons v vs) es h = let k = before_counted p xs vs es (omega arith) in omega arith

before_many : (p : Place) (xs : List Var) (vs es : Nodes) → length xs ≡ how_many vs → how_many (assigned_before p xs vs es) ≡ length xs + how_many es
before_many p [] nil es h = omega arith
before_many p [] (cons v vs) es h = absurd (omega arith)
before_many p (x ∷ xs) nil es h = absurd (omega arith)
before_many p (x ∷ xs) (cons v vs) es h = let k = before_many p xs vs es (omega arith) in omega arith

in_order_counted : (p : Place) (es : Nodes) → 1 ≤ how_many es → nodes (in_order p es) ≤ cond (nat_le 2 (how_many es)) 1 0 + nodes_of_all es
in_order_counted p nil h = absurd (omega arith)
in_order_counted p (cons e nil) h = omega arith
in_order_counted p (cons e (cons f es)) h = let k : one_if (nat_le 2 (how_many (cons e (cons f es)))) ≡ 1 = ap one_if (le-leb 2 (how_many (cons e (cons f es))) (omega arith)) in omega arith

letrec_counted : (p : Place) (xs : List Var) (vs : Nodes) (e : Node) → nodes (letrec_round p xs vs e) ≤ one_unless xs + (nodes_of_values vs + nodes e)
letrec_counted p [] vs e = omega arith
letrec_counted p (x ∷ xs) vs e = omega arith

undefined_counted : (p : Place) (xs : List Var) → nodes_of_all (undefined p xs) ≡ length xs
undefined_counted p [] = refl
undefined_counted p (x ∷ xs) = let h = undefined_counted p xs in omega arith

let_counted : (p : Place) (xs : List Var) (e : Node) → nodes (let_round p xs e) ≤ one_unless xs + (length xs + nodes e)
let_counted p [] e = omega arith
let_counted p (x ∷ xs) e = let h = undefined_counted p (x ∷ xs) in omega arith

pub split_counted : (p : Place) (xs : List Var) (vs es : Nodes) → 1 ≤ how_many es →
    nodes (node_of p (split xs vs es)) + lambdas_among vs ≤ inserted (split xs vs es) + (nodes_of_all vs + nodes_of_all es)
split_counted p xs vs es some =
    let parts = joined vs es in
    let t = chosen true parts xs vs in
    let o = chosen false parts xs vs in
    let body = assigned_before p o.variables o.values es in
    let even = chosen_even false parts xs vs in
    let many = before_many p o.variables o.values es even in
    let two = ap (λ n. one_if (nat_le 2 n)) many in
    let a = before_counted p o.variables o.values es even in
    let b = in_order_counted p body (omega arith) in
    let c = letrec_counted p t.variables t.values (in_order p body) in
    let d = let_counted p o.variables (letrec_round p t.variables t.values (in_order p body)) in
    let v = values_counted t.values in
    let w = parts_counted parts xs vs in
    omega arith

-- the variables that a split binds
module _ (test : Var → Bool) where
  -- how many of these pass the test
  abbrev passing : List Var → ℕ
  passing xs = times test xs

  two_passing : (xs ys : List Var) → passing (xs ++ ys) ≡ passing xs + passing ys
  two_passing xs ys = times_joined test xs ys

  one_bound : (b : Bool) (x : Var) (e : Node) (t o : Bindings) (n : ℕ) → passing t.variables + passing o.variables ≤ n →
      passing (binding_if b x e t).variables + passing (binding_if (not b) x e o).variables ≤ one_if (test x) + n
  one_bound true x e t o n h = omega arith
  one_bound false x e t o n h = omega arith

  pub both_bound : (parts : Nodes) (xs : List Var) (vs : Nodes) → passing (chosen true parts xs vs).variables + passing (chosen false parts xs vs).variables ≤ passing xs
  both_bound parts [] vs = omega arith
  both_bound parts (x ∷ xs) nil = omega arith
  both_bound parts (x ∷ xs) (cons e es) = one_bound (is_steady parts x e) x e (chosen true parts xs es) (chosen false parts xs es) (passing xs) (both_bound parts xs es)

  one_inside : (b : Bool) (x : Var) (e : Node) (t o : Bindings) (n : ℕ) → passing (binders_of_all t.values) + passing (binders_of_all o.values) ≤ n →
      passing (binders_of_all (binding_if b x e t).values) + passing (binders_of_all (binding_if (not b) x e o).values) ≤ passing (binders_of e) + n
  one_inside true x e t o n h = let k = two_passing (binders_of e) (binders_of_all t.values) in omega arith
  one_inside false x e t o n h = let k = two_passing (binders_of e) (binders_of_all o.values) in omega arith

  both_inside : (parts : Nodes) (xs : List Var) (vs : Nodes) → passing (binders_of_all (chosen true parts xs vs).values) + passing (binders_of_all (chosen false parts xs vs).values) ≤ passing (binders_of_all vs)
  both_inside parts [] vs = omega arith
  both_inside parts (x ∷ xs) nil = omega arith
  both_inside parts (x ∷ xs) (cons e es) =
      let k = two_passing (binders_of e) (binders_of_all es) in
      let h = one_inside (is_steady parts x e) x e (chosen true parts xs es) (chosen false parts xs es) (passing (binders_of_all es)) (both_inside parts xs es) in
      omega arith

  before_binds : (p : Place) (xs : List Var) (vs es : Nodes) → passing (binders_of_all (assigned_before p xs vs es)) ≤ passing (binders_of_all vs) + passing (binders_of_all es)
  before_binds p [] vs es = omega arith
  before_binds p (x ∷ xs) nil es = omega arith
  before_binds p (x ∷ xs) (cons v vs) es =
      let h = before_binds p xs vs es in
      let j = two_passing (binders_of v) (binders_of_all (assigned_before p xs vs es)) in
      let k = two_passing (binders_of v) (binders_of_all vs) in
      omega arith

  in_order_binds : (p : Place) (es : Nodes) → passing (binders_of (in_order p es)) ≤ passing (binders_of_all es)
  in_order_binds p nil = omega arith
  in_order_binds p (cons e nil) = let k = two_passing (binders_of e) [] in omega arith
  in_order_binds p (cons e (cons f es)) = omega arith

  letrec_binds : (p : Place) (xs : List Var) (vs : Nodes) (e : Node) → passing (binders_of (letrec_round p xs vs e)) ≤ passing xs + (passing (binders_of_all vs) + passing (binders_of e))
  letrec_binds p [] vs e = omega arith
  letrec_binds p (x ∷ xs) vs e =
      let j = two_passing (x ∷ xs) (binders_of_all vs ++ binders_of e) in
      let k = two_passing (binders_of_all vs) (binders_of e) in
      omega arith

  undefined_binds : (p : Place) (xs : List Var) → passing (binders_of_all (undefined p xs)) ≡ 0
  undefined_binds p [] = refl
  undefined_binds p (x ∷ xs) = undefined_binds p xs

  let_binds : (p : Place) (xs : List Var) (e : Node) → passing (binders_of (let_round p xs e)) ≤ passing xs + passing (binders_of e)
  let_binds p [] e = omega arith
  let_binds p (x ∷ xs) e =
      let h = undefined_binds p (x ∷ xs) in
      let j = two_passing (x ∷ xs) (binders_of_all (undefined p (x ∷ xs)) ++ binders_of e) in
      let k = two_passing (binders_of_all (undefined p (x ∷ xs))) (binders_of e) in
      omega arith

  pub split_binds : (p : Place) (xs : List Var) (vs es : Nodes) → passing (binders_of (node_of p (split xs vs es))) ≤ passing xs + (passing (binders_of_all vs) + passing (binders_of_all es))
  split_binds p xs vs es =
      let parts = joined vs es in
      let t = chosen true parts xs vs in
      let o = chosen false parts xs vs in
      let body = assigned_before p o.variables o.values es in
      let a = before_binds p o.variables o.values es in
      let b = in_order_binds p body in
      let c = letrec_binds p t.variables t.values (in_order p body) in
      let d = let_binds p o.variables (letrec_round p t.variables t.values (in_order p body)) in
      let e = both_bound parts xs vs in
      let f = both_inside parts xs vs in
      omega arith
