-- A program with cells has fewer than 2^27 nodes.
use Rattle.std.proofs.Common.{◌≡◌, refl, ap, ℕ, zero, suc, ◌+◌, ◌*◌, ◌^◌, ◌<◌, ◌≤◌, inl, inr, ⊎_elim, arith, Bool, true, false, cond, ◌==◌, List, [], ◌∷◌, ◌++◌, length, length-append, eq-eqb}
use Rattle.std.proofs.lemmas.Bool.{cases_Bool, cases_lt}
use Rattle.tb_prim.specs.declared.place.Place.{Place}
use Rattle.tb_semantics.specs.Graph.{IsIn, IsApart}
use Rattle.tb_core.specs.Tree.{Tree, Node, Form, Quote, Local, Global, Lambda, If, SetLocal, SetGlobal, DefGlobal, Let, Letrec, Seq, Call, PrimUse, Apply, Trees, none, more, LambdaTree, ProgramTree, parameters}
use Rattle.tb_core.specs.FreeVariables.{is_assigned}
use Rattle.tb_core.specs.Rules.{Each, EachForm, EachAll, KeepsRules, bound, bound_form, bound_all, bound_in_lambdas, variables, size, size_form, size_all, size_of_lambdas}
use Rattle.tb_ir.specs.Tree as C
use Rattle.tb_ir.specs.Rules.{nodes, nodes_of, nodes_of_lambdas, all_nodes, times}
use Rattle.tb_assign.specs.Eliminate.{celled, new_cells, with_cells, eliminate, eliminate_all, eliminate_lambdas, let_site, body_site, cells_of}
use Rattle.tb_assign.proofs.Counts.{one_if, apart-times}
use Rattle.tb_assign.proofs.InnerSmall.{variable-small}
use Rattle.tb_assign.proofs.VariablesApart.{own_bound}
use Rattle.tb_assign.proofs.Weights.{weigh, weigh_form, weigh_all, weigh-grows, all-grows, sum_nodes, sum-bind, binding, reading, stands, sum-tree, sum-all}

-- numbers that are apart are no more than the numbers below a bound
module _ (xs : List ℕ) (apart : IsApart xs) where
  abbrev below : ℕ → List ℕ → ℕ
  below zero ys = 0
  below (suc n) ys = times n ys + below n ys

  below_few : (n : ℕ) → below n xs ≤ n
  below_few zero = omega arith
  below_few (suc n) = let h = below_few n in let a = apart-times n xs apart in omega arith

  below_more : (n y : ℕ) (ys : List ℕ) → below n (y ∷ ys) ≡ below n (y ∷ []) + below n ys
  below_more zero y ys = omega arith
  below_more (suc n) y ys = let h = below_more n y ys in omega arith

  below_one : (n y : ℕ) → y < n → 1 ≤ below n (y ∷ [])
  below_one zero y lt = absurd (omega arith)
  below_one (suc n) y lt =
      ⊎_elim (λ t. let v : one_if (y == n) ≡ 1 = ap one_if t in omega arith)
      (λ f. ⊎_elim (λ l. let h = below_one n y l in omega arith)
      (λ g. let e = times_here y n (omega arith) in omega arith) (cases_lt y n))
      (cases_Bool (y == n))
    where
      times_here : (y n : ℕ) → y ≡ n → one_if (y == n) ≡ 1
      times_here y n e = ap one_if (eq-eqb y n e)

  below_all : (n : ℕ) (ys : List ℕ) → ((y : ℕ) → IsIn y ys → y < n) → length ys ≤ below n ys
  below_all n [] h = omega arith
  below_all n (y ∷ ys) h =
      let a = below_one n y (h y (inl refl)) in let b = below_all n ys (λ z i. h z (inr i)) in
      let c = below_more n y ys in omega arith

  pub few-apart : (n : ℕ) → ((y : ℕ) → IsIn y xs → y < n) → length xs ≤ n
  few-apart n h = let a = below_few n in let b = below_all n xs h in omega arith

abbrev one : C.Tree → ℕ
one e = 1

one_each : (es : List C.Tree) → sum_nodes one es ≡ length es
one_each [] = refl
one_each (e ∷ es) = let h = one_each es in omega arith

-- what a node stands for has at most so many nodes
abbrev room : Place → ℕ → Form → ℕ
room p s f = 2 + 2 * length (own_bound f)

mutual
  tree_room : (e : Tree) → weigh room e ≡ 2 * size e + 2 * length (bound e)
  tree_room (Node p s f) = form_room p s f

  form_room : (p : Place) (s : ℕ) (f : Form) → room p s f + weigh_form room f ≡ 2 * suc (size_form f) + 2 * length (bound_form f)
  form_room p s (Quote c) = omega arith
  form_room p s (Local x) = omega arith
  form_room p s (Global n) = omega arith
  form_room p s (Lambda l) = omega arith
  form_room p s (If a b c) =
      let i = tree_room a in let j = tree_room b in let k = tree_room c in
      let u = length-append (bound a) (bound b ++ bound c) in let v = length-append (bound b) (bound c) in omega arith
  form_room p s (SetLocal x e) = let i = tree_room e in omega arith
  form_room p s (SetGlobal n e) = let i = tree_room e in omega arith
  form_room p s (DefGlobal n e) = let i = tree_room e in omega arith
  form_room p s (Let xs es e) =
      let i = all_room es in let j = tree_room e in
      let u = length-append xs (bound_all es ++ bound e) in let v = length-append (bound_all es) (bound e) in omega arith
  form_room p s (Letrec xs ls e) = let i = tree_room e in let u = length-append xs (bound e) in omega arith
  form_room p s (Seq es) = let i = all_room es in omega arith
  form_room p s (Call f es) =
      let i = tree_room f in let j = all_room es in let u = length-append (bound f) (bound_all es) in omega arith
  form_room p s (PrimUse q es) = let i = all_room es in omega arith
  form_room p s (Apply f l) =
      let i = tree_room f in let j = tree_room l in let u = length-append (bound f) (bound l) in omega arith

  all_room : (es : Trees) → weigh_all room es ≡ 2 * size_all es + 2 * length (bound_all es)
  all_room none = refl
  all_room (more e es) =
      let i = tree_room e in let j = all_room es in let u = length-append (bound e) (bound_all es) in omega arith

-- nothing is asked of a node
abbrev Any : ℕ → Form → Type 0
Any s f = Unit {0}

mutual
  any_tree : (e : Tree) → Each Any e
  any_tree (Node p s f) = (tt, any_form f)

  any_form : (f : Form) → EachForm Any f
  any_form (Quote c) = tt
  any_form (Local x) = tt
  any_form (Global n) = tt
  any_form (Lambda l) = tt
  any_form (If a b c) = (any_tree a, any_tree b, any_tree c)
  any_form (SetLocal x e) = any_tree e
  any_form (SetGlobal n e) = any_tree e
  any_form (DefGlobal n e) = any_tree e
  any_form (Let xs es e) = (any_all es, any_tree e)
  any_form (Letrec xs ls e) = any_tree e
  any_form (Seq es) = any_all es
  any_form (Call f es) = (any_tree f, any_all es)
  any_form (PrimUse q es) = any_all es
  any_form (Apply f l) = (any_tree f, any_tree l)

  any_all : (es : Trees) → EachAll Any es
  any_all none = tt
  any_all (more e es) = (any_tree e, any_all es)

module _ (g : ℕ → Bool) where
  cells_two : (p : Place) (xs : List ℕ) → sum_nodes one (nodes_of (new_cells g p xs)) ≡ 2 * length xs
  cells_two p [] = refl
  cells_two p (x ∷ xs) = let h = cells_two p xs in omega arith

  celled_few : (xs : List ℕ) → length (celled g xs) ≤ length xs
  celled_few [] = omega arith
  celled_few (x ∷ xs) = by_test (g x) (celled_few xs)
    where
      by_test : (b : Bool) → length (celled g xs) ≤ length xs → length (cond b (x ∷ celled g xs) (celled g xs)) ≤ length (x ∷ xs)
      by_test true h = omega arith
      by_test false h = omega arith

  bind_few : (p : Place) (s : ℕ) (xs : List ℕ) (e : C.Tree) → binding one g p s xs e ≤ 1 + 2 * length xs
  bind_few p s [] e = omega arith
  bind_few p s (x ∷ xs) e = let h = cells_two p (x ∷ xs) in omega arith

  node_few : (p : Place) (s : ℕ) (f : Form) → Any s f → stands one g p s f ≤ room p s f
  node_few p s (Local x) h = by_read (g x)
    where
      by_read : (b : Bool) → reading one g p s x b ≤ 2 + 0
      by_read true = omega arith
      by_read false = omega arith
  node_few p s (Let xs es e) h =
      let a = bind_few p (let_site s) (celled g xs) (eliminate g e) in let b = celled_few xs in omega arith
  node_few p s (Quote c) h = omega arith
  node_few p s (Global n) h = omega arith
  node_few p s (Lambda l) h = omega arith
  node_few p s (If a b c) h = omega arith
  node_few p s (SetLocal x e) h = omega arith
  node_few p s (SetGlobal n e) h = omega arith
  node_few p s (DefGlobal n e) h = omega arith
  node_few p s (Letrec xs ls e) h = omega arith
  node_few p s (Seq es) h = omega arith
  node_few p s (Call f es) h = omega arith
  node_few p s (PrimUse q es) h = omega arith
  node_few p s (Apply f l) h = omega arith

  forms_few : (es : Trees) → length (nodes_of (eliminate_all g es)) ≤ 2 * size_all es + 2 * length (bound_all es)
  forms_few es =
      let a = one_each (nodes_of (eliminate_all g es)) in let b = sum-all one g es in
      let c = all-grows Any (stands one g) room node_few es (any_all es) in let d = all_room es in omega arith

  own_node : (e : Tree) → 1 ≤ size e
  own_node (Node p s f) = omega arith

  lambdas_few : (n : ℕ) (ls : List LambdaTree) →
      length (nodes_of_lambdas (eliminate_lambdas g n ls)) ≤ 3 * size_of_lambdas ls + 2 * length (bound_in_lambdas ls)
  lambdas_few n [] = omega arith
  lambdas_few n (l ∷ ls) =
      let a = length-append (nodes (with_cells g l.place (body_site n) (parameters l) (eliminate g l.body))) (nodes_of_lambdas (eliminate_lambdas g (suc n) ls)) in
      let b = one_each (nodes (with_cells g l.place (body_site n) (parameters l) (eliminate g l.body))) in
      let c = sum-bind one g l.place (body_site n) (celled g (parameters l)) (eliminate g l.body) in
      let d = bind_few l.place (body_site n) (celled g (parameters l)) (eliminate g l.body) in
      let e = celled_few (parameters l) in
      let f = sum-tree one g l.body in
      let h = weigh-grows Any (stands one g) room node_few l.body (any_tree l.body) in
      let i = tree_room l.body in
      let j = own_node l.body in
      let k = lambdas_few (suc n) ls in
      let u = length-append (parameters l) (bound l.body ++ bound_in_lambdas ls) in
      let v = length-append (bound l.body) (bound_in_lambdas ls) in omega arith

pub few-nodes : (p : ProgramTree) → KeepsRules p → length (all_nodes (cells_of p)) < 2 ^ 27
few-nodes p r =
    let g : ℕ → Bool = is_assigned p in
    let a = length-append (nodes_of (eliminate_all g p.forms)) (nodes_of_lambdas (eliminate_lambdas g 0 p.lambdas)) in
    let b = forms_few g p.forms in
    let c = lambdas_few g 0 p.lambdas in
    let d = few-apart (variables p) r.bound_once (2 ^ 24) (variable-small p r) in
    let e = length-append (bound_all p.forms) (bound_in_lambdas p.lambdas) in
    let f = r.few_nodes in omega arith
