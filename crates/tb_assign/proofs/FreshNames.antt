-- A fresh variable is named in the cell that is made of it, and nowhere else.
use Rattle.std.proofs.Common.{◌≡◌, refl, ℕ, suc, ◌+◌, ◌-◌, ◌^◌, ◌<◌, ◌≤◌, inl, inr, arith, Bool, true, false, cond, ◌==◌, List, [], ◌∷◌, ◌++◌}
use Rattle.tb_prim.specs.declared.place.Place.{Place}
use Rattle.tb_semantics.specs.Graph.{IsIn}
use Rattle.tb_core.specs.Tree.{Tree, Form, Quote, Local, Global, Lambda, If, SetLocal, SetGlobal, DefGlobal, Let, Letrec, Seq, Call, PrimUse, Apply, Trees, LambdaTree, ProgramTree, parameters}
use Rattle.tb_core.specs.FreeVariables.{is_assigned}
use Rattle.tb_core.specs.Rules.{Every, Each, EachAll, KeepsRules, bound, bound_all, bound_in_lambdas, variables}
use Rattle.tb_core.proofs.Members.{in-left, in-right}
use Rattle.tb_ir.specs.Tree as C
use Rattle.tb_ir.specs.Rules as K
use Rattle.tb_ir.specs.Rules.{nodes, nodes_of, nodes_of_lambdas, all_nodes, form_of, of_nodes, named, times, times_named}
use Rattle.tb_assign.specs.Eliminate.{fresh, celled, new_cells, with_cells, eliminate, eliminate_all, eliminate_lambdas, let_site, body_site, cells_of}
use Rattle.tb_assign.proofs.AllNamed.{all-named}
use Rattle.tb_assign.proofs.Counts.{one_if, times-append, times-other}
use Rattle.tb_assign.proofs.Free.{AreSmall, NamesSmall}
use Rattle.tb_assign.proofs.InnerSmall.{variable-small}
use Rattle.tb_assign.proofs.ReadyFrom.{ready-from}
use Rattle.tb_assign.proofs.VariablesApart.{BindsSmall, binds_small, all_binds_small, bound_here, bound-count, bound-all-count, Stems, fresh_stems}
use Rattle.tb_assign.proofs.Weights.{weigh-grows, all-grows, sum_nodes, sum-append, sum-bind, binding, reading, stands, sum-tree, sum-all, times-nodes}

-- of each list a body binds, so many fresh variables are z
module _ (g : ℕ → Bool) (z w : ℕ) (le : 2 ^ 24 ≤ z) (stems : Stems z w) where
  abbrev Names : C.Tree → ℕ
  Names e = times z (named (form_of e))

  abbrev Makes : C.Tree → ℕ
  Makes e = times z (K.celled (form_of e))

  cells_same : (p : Place) (xs : List ℕ) → sum_nodes Names (nodes_of (new_cells g p xs)) ≡ sum_nodes Makes (nodes_of (new_cells g p xs))
  cells_same p [] = refl
  cells_same p (x ∷ xs) = let h = cells_same p xs in omega arith

  bind_same : (p : Place) (s : ℕ) (xs : List ℕ) (e : C.Tree) → binding Names g p s xs e ≡ binding Makes g p s xs e
  bind_same p s [] e = refl
  bind_same p s (x ∷ xs) e = let h = cells_same p (x ∷ xs) in omega arith

  cells_within : (p : Place) (xs : List ℕ) → AreSmall xs → sum_nodes Makes (nodes_of (new_cells g p (celled g xs))) ≤ times w xs
  cells_within p [] h = omega arith
  cells_within p (x ∷ xs) h = by_test (g x) (cells_within p xs (λ y i. h y (inr i))) (stems x (h x (inl refl)))
    where
      by_test : (b : Bool) → sum_nodes Makes (nodes_of (new_cells g p (celled g xs))) ≤ times w xs →
          one_if (fresh x == z) + one_if (x == z) ≤ one_if (x == w) →
          sum_nodes Makes (nodes_of (new_cells g p (cond b (x ∷ celled g xs) (celled g xs)))) ≤ times w (x ∷ xs)
      by_test true r o = omega arith
      by_test false r o = omega arith

  bind_within : (p : Place) (s : ℕ) (xs : List ℕ) (e : C.Tree) → binding Makes g p s xs e ≡ sum_nodes Makes (nodes_of (new_cells g p xs))
  bind_within p s [] e = refl
  bind_within p s (x ∷ xs) e = omega arith

  node_same : (p : Place) (s : ℕ) (f : Form) → NamesSmall s f → stands Names g p s f ≡ stands Makes g p s f
  node_same p s (Local x) h = by_read (g x)
    where
      other : one_if (x == z) ≡ 0
      other = times-other z x (λ e. absurd (omega arith))

      by_read : (b : Bool) → reading Names g p s x b ≡ reading Makes g p s x b
      by_read true = let o = other in omega arith
      by_read false = let o = other in omega arith
  node_same p s (SetLocal x e) h = let o : one_if (x == z) ≡ 0 = times-other z x (λ e. absurd (omega arith)) in omega arith
  node_same p s (Let xs es e) h = let a = bind_same p (let_site s) (celled g xs) (eliminate g e) in omega arith
  node_same p s (Quote c) h = refl
  node_same p s (Global n) h = refl
  node_same p s (Lambda l) h = refl
  node_same p s (If a b c) h = refl
  node_same p s (SetGlobal n e) h = refl
  node_same p s (DefGlobal n e) h = refl
  node_same p s (Letrec xs ls e) h = refl
  node_same p s (Seq es) h = refl
  node_same p s (Call f es) h = refl
  node_same p s (PrimUse q es) h = refl
  node_same p s (Apply f l) h = refl

  node_within : (p : Place) (s : ℕ) (f : Form) → BindsSmall s f → stands Makes g p s f ≤ bound_here w p s f
  node_within p s (Local x) h = by_read (g x)
    where
      by_read : (b : Bool) → reading Makes g p s x b ≤ 0
      by_read true = omega arith
      by_read false = omega arith
  node_within p s (Let xs es e) h =
      let a = bind_within p (let_site s) (celled g xs) (eliminate g e) in let b = cells_within p xs h in omega arith
  node_within p s (SetLocal x e) h = omega arith
  node_within p s (Quote c) h = omega arith
  node_within p s (Global n) h = omega arith
  node_within p s (Lambda l) h = omega arith
  node_within p s (If a b c) h = omega arith
  node_within p s (SetGlobal n e) h = omega arith
  node_within p s (DefGlobal n e) h = omega arith
  node_within p s (Letrec xs ls e) h = omega arith
  node_within p s (Seq es) h = omega arith
  node_within p s (Call f es) h = omega arith
  node_within p s (PrimUse q es) h = omega arith
  node_within p s (Apply f l) h = omega arith

  abbrev Both : ℕ → Form → Type 0
  Both s f = NamesSmall s f × BindsSmall s f

  abbrev Equal : ℕ → ℕ → ℕ → Type 0
  Equal a b c = (a ≡ b) × (b ≤ c)

  tree_equal : (e : Tree) → Each NamesSmall e → Each BindsSmall e →
      Equal (sum_nodes Names (nodes (eliminate g e))) (sum_nodes Makes (nodes (eliminate g e))) (times w (bound e))
  tree_equal e n b =
      let i = sum-tree Names g e in let j = sum-tree Makes g e in
      let u = weigh-grows NamesSmall (stands Names g) (stands Makes g) (λ p s f h. let q = node_same p s f h in omega arith) e n in
      let v = weigh-grows NamesSmall (stands Makes g) (stands Names g) (λ p s f h. let q = node_same p s f h in omega arith) e n in
      let k = weigh-grows BindsSmall (stands Makes g) (bound_here w) node_within e b in let l = bound-count w e in
      (omega arith, omega arith)

  forms_equal : (es : Trees) → EachAll NamesSmall es → EachAll BindsSmall es →
      Equal (sum_nodes Names (nodes_of (eliminate_all g es))) (sum_nodes Makes (nodes_of (eliminate_all g es))) (times w (bound_all es))
  forms_equal es n b =
      let i = sum-all Names g es in let j = sum-all Makes g es in
      let u = all-grows NamesSmall (stands Names g) (stands Makes g) (λ p s f h. let q = node_same p s f h in omega arith) es n in
      let v = all-grows NamesSmall (stands Makes g) (stands Names g) (λ p s f h. let q = node_same p s f h in omega arith) es n in
      let k = all-grows BindsSmall (stands Makes g) (bound_here w) node_within es b in let l = bound-all-count w es in
      (omega arith, omega arith)

  lambdas_equal : (n : ℕ) (ls : List LambdaTree) → Every (λ (l : LambdaTree). Each NamesSmall l.body) ls →
      ((y : ℕ) → IsIn y (bound_in_lambdas ls) → y < 2 ^ 24) →
      Equal (sum_nodes Names (nodes_of_lambdas (eliminate_lambdas g n ls))) (sum_nodes Makes (nodes_of_lambdas (eliminate_lambdas g n ls))) (times w (bound_in_lambdas ls))
  lambdas_equal n [] h k = (refl, omega arith)
  lambdas_equal n (l ∷ ls) h k =
      let a = sum-append Names (nodes (with_cells g l.place (body_site n) (parameters l) (eliminate g l.body))) (nodes_of_lambdas (eliminate_lambdas g (suc n) ls)) in
      let b = sum-append Makes (nodes (with_cells g l.place (body_site n) (parameters l) (eliminate g l.body))) (nodes_of_lambdas (eliminate_lambdas g (suc n) ls)) in
      let c = sum-bind Names g l.place (body_site n) (celled g (parameters l)) (eliminate g l.body) in
      let d = sum-bind Makes g l.place (body_site n) (celled g (parameters l)) (eliminate g l.body) in
      let e = bind_same l.place (body_site n) (celled g (parameters l)) (eliminate g l.body) in
      let f = bind_within l.place (body_site n) (celled g (parameters l)) (eliminate g l.body) in
      let i = cells_within l.place (parameters l) (λ y j. k y (in-left y (parameters l) _ j)) in
      let t = tree_equal l.body h.0 (binds_small l.body (λ y j. k y (in-right y (parameters l) _ (in-left y (bound l.body) _ j)))) in
      let r = lambdas_equal (suc n) ls h.1 (λ y j. k y (in-right y (parameters l) _ (in-right y (bound l.body) _ j))) in
      let u = times-append w (parameters l) (bound l.body ++ bound_in_lambdas ls) in
      let v = times-append w (bound l.body) (bound_in_lambdas ls) in
      let t0 = t.0 in let t1 = t.1 in let r0 = r.0 in let r1 = r.1 in
      (omega arith, omega arith)

module _ (p : ProgramTree) (r : KeepsRules p) (z : ℕ) (le : 2 ^ 24 ≤ z) where
  -- what is named is made into cells, and at most once
  pub named-once : (times_named (cells_of p) z ≡ times z (of_nodes K.celled (all_nodes (cells_of p)))) × (times_named (cells_of p) z ≤ times (z - 2 ^ 24) (variables p))
  named-once =
      let g : ℕ → Bool = is_assigned p in
      let stems = fresh_stems p r z le in
      let ready = ready-from p r (all-named p r) in
      let a = times-nodes z named (all_nodes (cells_of p)) in
      let b = times-nodes z K.celled (all_nodes (cells_of p)) in
      let c = sum-append (λ e. times z (named (form_of e))) (nodes_of (eliminate_all g p.forms)) (nodes_of_lambdas (eliminate_lambdas g 0 p.lambdas)) in
      let d = sum-append (λ e. times z (K.celled (form_of e))) (nodes_of (eliminate_all g p.forms)) (nodes_of_lambdas (eliminate_lambdas g 0 p.lambdas)) in
      let e = forms_equal g z (z - 2 ^ 24) le stems p.forms ready.names_forms (all_binds_small p.forms (λ y i. variable-small p r y (in-left y (bound_all p.forms) _ i))) in
      let f = lambdas_equal g z (z - 2 ^ 24) le stems 0 p.lambdas ready.names_bodies (λ y i. variable-small p r y (in-right y (bound_all p.forms) _ i)) in
      let h = times-append (z - 2 ^ 24) (bound_all p.forms) (bound_in_lambdas p.lambdas) in
      let e0 = e.0 in let e1 = e.1 in let f0 = f.0 in let f1 = f.1 in
      (omega arith, omega arith)
