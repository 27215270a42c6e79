-- Each variable of a program that is assigned is bound to a cell, and what is named is a variable of the program.
use Rattle.std.proofs.Common.{◌≡◌, refl, sym, ap, ◌∙◌, subst, ℕ, suc, ◌≤◌, inl, inr, ⊎_elim, arith, Bool, true, false, cond, ◌==◌, List, [], ◌∷◌, ◌++◌, Some, slice_get, eqb-true}
use Rattle.std.proofs.lemmas.Bool.{cases_Bool, both_ways}
use Rattle.tb_prim.specs.declared.place.Place.{Place}
use Rattle.tb_semantics.specs.Graph.{IsIn}
use Rattle.tb_core.specs.Tree.{Tree, Node, Form, Quote, Local, Global, Lambda, If, SetLocal, SetGlobal, DefGlobal, Let, Letrec, Seq, Call, PrimUse, Apply, Trees, none, more, LambdaTree, ProgramTree, parameters}
use Rattle.tb_core.specs.FreeVariables.{is_in, without, of_lambdas, free, free_form, free_all, inner_free, is_assigned}
use Rattle.tb_core.specs.Rules.{Every, Each, EachForm, EachAll, BindsForGood, NodeKeeps, LambdaKeeps, KeepsRules, bound, bound_form, bound_all, bound_in_lambdas, variables}
use Rattle.tb_core.proofs.Members.{in-left, in-right, in-tested, in-without, tested-in}
use Rattle.tb_ir.specs.Tree as C
use Rattle.tb_ir.specs.Rules.{nodes, nodes_of, nodes_of_lambdas, all_nodes, form_of, of_nodes, of_kind, cell_binders, times}
use Rattle.tb_assign.specs.Eliminate.{celled, new_cells, with_cells, eliminate, eliminate_all, eliminate_lambdas, let_site, body_site, cells_of}
use Rattle.tb_assign.proofs.Counts.{one_if, times-append, times-in, in-times}
use Rattle.tb_assign.proofs.InnerSmall.{body-known, lambda-bound}
use Rattle.tb_assign.proofs.ReadyFrom.{each-then, all-then}
use Rattle.tb_assign.proofs.VariablesApart.{bound_here, bound-count, bound-all-count}
use Rattle.tb_assign.proofs.Weights.{weigh-grows, all-grows, sum_nodes, sum-append, sum-bind, binding, stands, sum-tree, sum-all, times-nodes}

module _ (I : ℕ → List ℕ) (known : List ℕ) where
  abbrev AreKnown : List ℕ → Type 0
  AreKnown xs = (y : ℕ) → IsIn y xs → IsIn y known

  -- a node names variables of a list
  abbrev pub NamesKnown : ℕ → Form → Type 0
  NamesKnown s (Local x) = IsIn x known
  NamesKnown s (SetLocal x e) = IsIn x known
  NamesKnown s f = Unit {0}

  left : (xs ys : List ℕ) → AreKnown (xs ++ ys) → AreKnown xs
  left xs ys h y i = h y (in-left y xs ys i)

  right : (xs ys : List ℕ) → AreKnown (xs ++ ys) → AreKnown ys
  right xs ys h y i = h y (in-right y xs ys i)

  inside : (xs ns : List ℕ) → AreKnown xs → AreKnown (without xs ns) → AreKnown ns
  inside xs ns h k y i = ⊎_elim (λ t. h y (in-tested xs y t)) (λ f. k y (in-without xs ns y i f)) (cases_Bool (is_in xs y))

  mutual
    pub names-known : (e : Tree) → AreKnown (free I e) → AreKnown (bound e) → Each NamesKnown e
    names-known (Node p s f) h b = (here s f h, form_known f h b)

    here : (s : ℕ) (f : Form) → AreKnown (free_form I f) → NamesKnown s f
    here s (Local x) h = h x (inl refl)
    here s (SetLocal x e) h = h x (inl refl)
    here s (Quote c) h = tt
    here s (Global n) h = tt
    here s (Lambda l) h = tt
    here s (If a b c) h = tt
    here s (SetGlobal n e) h = tt
    here s (DefGlobal n e) h = tt
    here s (Let xs es e) h = tt
    here s (Letrec xs ls e) h = tt
    here s (Seq es) h = tt
    here s (Call f es) h = tt
    here s (PrimUse q es) h = tt
    here s (Apply f l) h = tt

    form_known : (f : Form) → AreKnown (free_form I f) → AreKnown (bound_form f) → EachForm NamesKnown f
    form_known (Quote c) h b = tt
    form_known (Local x) h b = tt
    form_known (Global n) h b = tt
    form_known (Lambda l) h b = tt
    form_known (If a c d) h b = (
      names-known a (left (free I a) _ h) (left (bound a) _ b),
      names-known c (left (free I c) _ (right (free I a) _ h)) (left (bound c) _ (right (bound a) _ b)),
      names-known d (right (free I c) _ (right (free I a) _ h)) (right (bound c) _ (right (bound a) _ b)),
    )
    form_known (SetLocal x e) h b = names-known e (λ y i. h y (inr i)) b
    form_known (SetGlobal n e) h b = names-known e h b
    form_known (DefGlobal n e) h b = names-known e h b
    form_known (Let xs es e) h b = (
      all-known es (left (free_all I es) _ h) (left (bound_all es) _ (right xs _ b)),
      names-known e (inside xs (free I e) (left xs _ b) (right (free_all I es) _ h)) (right (bound_all es) _ (right xs _ b)),
    )
    form_known (Letrec xs ls e) h b =
        names-known e (right (of_lambdas I ls) _ (inside xs (of_lambdas I ls ++ free I e) (left xs _ b) h)) (right xs _ b)
    form_known (Seq es) h b = all-known es h b
    form_known (Call f es) h b =
        (names-known f (left (free I f) _ h) (left (bound f) _ b), all-known es (right (free I f) _ h) (right (bound f) _ b))
    form_known (PrimUse q es) h b = all-known es h b
    form_known (Apply f l) h b =
        (names-known f (left (free I f) _ h) (left (bound f) _ b), names-known l (right (free I f) _ h) (right (bound f) _ b))

    pub all-known : (es : Trees) → AreKnown (free_all I es) → AreKnown (bound_all es) → EachAll NamesKnown es
    all-known none h b = tt
    all-known (more e es) h b =
        (names-known e (left (free I e) _ h) (left (bound e) _ b), all-known es (right (free I e) _ h) (right (bound e) _ b))

-- a variable that is assigned is bound to a cell where it is bound
module _ (g : ℕ → Bool) (z : ℕ) (assigned : g z ≡ true) where
  abbrev B : C.Tree → ℕ
  B e = times z (cell_binders (form_of e))

  cells_bound : (p : Place) (xs : List ℕ) → times z (of_kind true xs (new_cells g p xs)) ≡ times z xs
  cells_bound p [] = refl
  cells_bound p (x ∷ xs) = let h = cells_bound p xs in omega arith

  all_celled : (xs : List ℕ) → times z (celled g xs) ≡ times z xs
  all_celled [] = refl
  all_celled (x ∷ xs) = by_test (g x) refl (all_celled xs)
    where
      by_test : (b : Bool) → g x ≡ b → times z (celled g xs) ≡ times z xs → times z (cond b (x ∷ celled g xs) (celled g xs)) ≡ times z (x ∷ xs)
      by_test true e h = omega arith
      by_test false e h = ⊎_elim (λ t. absurd (both_ways (g z) (sym (ap g (eqb-true x z t)) ∙ e) assigned))
          (λ f. let v : one_if (x == z) ≡ 0 = ap one_if f in omega arith) (cases_Bool (x == z))

  never_bound : (xs : List ℕ) → Every (λ x. g x ≡ false) xs → times z xs ≡ 0
  never_bound [] h = refl
  never_bound (x ∷ xs) h =
      let r = never_bound xs h.1 in
      ⊎_elim (λ t. absurd (both_ways (g z) (sym (ap g (eqb-true x z t)) ∙ h.0) assigned))
      (λ f. let v : one_if (x == z) ≡ 0 = ap one_if f in omega arith) (cases_Bool (x == z))

  bind_bound : (p : Place) (s : ℕ) (xs : List ℕ) (e : C.Tree) → times z xs ≤ binding B g p s xs e
  bind_bound p s [] e = omega arith
  bind_bound p s (x ∷ xs) e = let h = cells_bound p (x ∷ xs) in omega arith

  node_bound : (p : Place) (s : ℕ) (f : Form) → BindsForGood g f → bound_here z p s f ≤ stands B g p s f
  node_bound p s (Let xs es e) h =
      let a = bind_bound p (let_site s) (celled g xs) (eliminate g e) in let b = all_celled xs in omega arith
  node_bound p s (Letrec xs ls e) h = let a = never_bound xs h in omega arith
  node_bound p s (Quote c) h = omega arith
  node_bound p s (Local x) h = omega arith
  node_bound p s (Global n) h = omega arith
  node_bound p s (Lambda l) h = omega arith
  node_bound p s (If a b c) h = omega arith
  node_bound p s (SetLocal x e) h = omega arith
  node_bound p s (SetGlobal n e) h = omega arith
  node_bound p s (DefGlobal n e) h = omega arith
  node_bound p s (Seq es) h = omega arith
  node_bound p s (Call f es) h = omega arith
  node_bound p s (PrimUse q es) h = omega arith
  node_bound p s (Apply f l) h = omega arith

  abbrev ForGood : ℕ → Form → Type 0
  ForGood s f = BindsForGood g f

  forms_bound : (es : Trees) → EachAll ForGood es → times z (bound_all es) ≤ sum_nodes B (nodes_of (eliminate_all g es))
  forms_bound es h =
      let a = sum-all B g es in let b = all-grows ForGood (bound_here z) (stands B g) node_bound es h in
      let c = bound-all-count z es in omega arith

  lambdas_bound : (n : ℕ) (ls : List LambdaTree) → Every (λ (l : LambdaTree). Each ForGood l.body) ls →
      times z (bound_in_lambdas ls) ≤ sum_nodes B (nodes_of_lambdas (eliminate_lambdas g n ls))
  lambdas_bound n [] h = omega arith
  lambdas_bound n (l ∷ ls) h =
      let a = sum-append B (nodes (with_cells g l.place (body_site n) (parameters l) (eliminate g l.body))) (nodes_of_lambdas (eliminate_lambdas g (suc n) ls)) in
      let b = sum-bind B g l.place (body_site n) (celled g (parameters l)) (eliminate g l.body) in
      let c = bind_bound l.place (body_site n) (celled g (parameters l)) (eliminate g l.body) in
      let d = all_celled (parameters l) in
      let e = sum-tree B g l.body in
      let f = weigh-grows ForGood (bound_here z) (stands B g) node_bound l.body h.0 in
      let i = bound-count z l.body in
      let r = lambdas_bound (suc n) ls h.1 in
      let u = times-append z (parameters l) (bound l.body ++ bound_in_lambdas ls) in
      let v = times-append z (bound l.body) (bound_in_lambdas ls) in omega arith

module _ (p : ProgramTree) (r : KeepsRules p) where
  good_bodies : (ls : List LambdaTree) → Every (LambdaKeeps p) ls → Every (λ (l : LambdaTree). Each (λ s f. BindsForGood (is_assigned p) f) l.body) ls
  good_bodies [] h = tt
  good_bodies (l ∷ ls) h =
      (each-then (NodeKeeps p) (λ s f. BindsForGood (is_assigned p) f) (λ s f k. k.letrec_for_good) l.body (h.0).nodes, good_bodies ls h.1)

  pub bound-to-cells : (x : ℕ) → IsIn x (variables p) → is_assigned p x ≡ true →
      is_in (of_nodes cell_binders (all_nodes (cells_of p))) x ≡ true
  bound-to-cells x i assigned =
      let g : ℕ → Bool = is_assigned p in
      let a = times-nodes x cell_binders (all_nodes (cells_of p)) in
      let b = sum-append (λ e. times x (cell_binders (form_of e))) (nodes_of (eliminate_all g p.forms)) (nodes_of_lambdas (eliminate_lambdas g 0 p.lambdas)) in
      let c = forms_bound g x assigned p.forms (all-then (NodeKeeps p) (λ s f. BindsForGood (is_assigned p) f) (λ s f k. k.letrec_for_good) p.forms r.forms) in
      let d = lambdas_bound g x assigned 0 p.lambdas (good_bodies p.lambdas r.lambdas) in
      let e = times-append x (bound_all p.forms) (bound_in_lambdas p.lambdas) in
      let f = in-times x (variables p) i in
      tested-in (of_nodes cell_binders (all_nodes (cells_of p))) x (times-in x (of_nodes cell_binders (all_nodes (cells_of p))) (omega arith))

  -- each node names variables of the program
  pub forms-names : EachAll (NamesKnown (inner_free p) (variables p)) p.forms
  forms-names = all-known (inner_free p) (variables p) p.forms (λ y i. absurd (subst (IsIn y) r.in_scope i)) (λ y i. in-left y (bound_all p.forms) _ i)

  pub body-names : (n : ℕ) (l : LambdaTree) → slice_get p.lambdas n ≡ Some l → Each (NamesKnown (inner_free p) (variables p)) l.body
  body-names n l e = names-known (inner_free p) (variables p) l.body (body-known p r n l e)
      (λ y i. in-right y (bound_all p.forms) _ (lambda-bound p.lambdas n l y e (in-right y (parameters l) _ i)))
