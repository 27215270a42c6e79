-- The variables of a program with cells are apart, and below 2^25: each is one of its source, or the fresh one of it.
use Rattle.std.proofs.Common.{◌≡◌, refl, ap, ℕ, suc, ◌+◌, ◌-◌, ◌^◌, ◌<◌, ◌≤◌, inl, inr, ⊎_elim, arith, Bool, true, false, cond, ◌==◌, List, [], ◌∷◌, ◌++◌, eqb-true}
use Rattle.std.proofs.lemmas.Bool.{cases_Bool, cases_lt}
use Rattle.tb_prim.specs.declared.place.Place.{Place}
use Rattle.tb_semantics.specs.Graph.{IsIn, IsApart}
use Rattle.tb_core.specs.Tree.{Tree, Node, Form, Quote, Local, Global, Lambda, If, SetLocal, SetGlobal, DefGlobal, Let, Letrec, Seq, Call, PrimUse, Apply, Trees, none, more, LambdaTree, ProgramTree, parameters}
use Rattle.tb_core.specs.Rules.{Every, Each, EachForm, EachAll, bound, bound_form, bound_all, bound_in_lambdas, variables, KeepsRules}
use Rattle.tb_core.specs.FreeVariables.{is_assigned}
use Rattle.tb_core.proofs.Members.{in-left, in-right}
use Rattle.tb_ir.specs.Tree as C
use Rattle.tb_ir.specs.FreeVariables as F
use Rattle.tb_ir.specs.Rules as K
use Rattle.tb_ir.specs.Rules.{nodes, nodes_of, nodes_of_lambdas, form_of, of_nodes, binders, times}
use Rattle.tb_assign.specs.Eliminate.{fresh, celled, renamed, new_cells, with_cells, eliminate, eliminate_all, eliminate_lambda, eliminate_lambdas, let_site, body_site, cells_of}
use Rattle.tb_assign.proofs.Free.{AreSmall, renamed-parameters}
use Rattle.tb_assign.proofs.Counts.{one_if, times-append, times-same, times-other, times-in, in-times, apart-times, times-apart}
use Rattle.tb_assign.proofs.InnerSmall.{variable-small}
use Rattle.tb_assign.proofs.Standing.{of-nodes-append}
use Rattle.tb_assign.proofs.Weights.{weigh, weigh_form, weigh_all, weigh-grows, all-grows, sum_nodes, sum-bind, binding, reading, stands, sum-tree, sum-all, times-nodes}

-- the variables that a node binds
abbrev pub own_bound : Form → List ℕ
own_bound (Let xs es e) = xs
own_bound (Letrec xs ls e) = xs
own_bound f = []

module _ (w : ℕ) where
  abbrev pub bound_here : Place → ℕ → Form → ℕ
  bound_here p s f = times w (own_bound f)

  mutual
    pub bound-count : (e : Tree) → weigh bound_here e ≡ times w (bound e)
    bound-count (Node p s f) = bound_form_count p s f

    bound_form_count : (p : Place) (s : ℕ) (f : Form) → bound_here p s f + weigh_form bound_here f ≡ times w (bound_form f)
    bound_form_count p s (Quote c) = refl
    bound_form_count p s (Local x) = refl
    bound_form_count p s (Global n) = refl
    bound_form_count p s (Lambda l) = refl
    bound_form_count p s (If a b c) =
        let i = bound-count a in let j = bound-count b in let k = bound-count c in
        let v = times-append w (bound a) (bound b ++ bound c) in let u = times-append w (bound b) (bound c) in omega arith
    bound_form_count p s (SetLocal x e) = let i = bound-count e in omega arith
    bound_form_count p s (SetGlobal n e) = let i = bound-count e in omega arith
    bound_form_count p s (DefGlobal n e) = let i = bound-count e in omega arith
    bound_form_count p s (Let xs es e) =
        let i = bound-all-count es in let j = bound-count e in
        let v = times-append w xs (bound_all es ++ bound e) in let u = times-append w (bound_all es) (bound e) in omega arith
    bound_form_count p s (Letrec xs ls e) =
        let i = bound-count e in let v = times-append w xs (bound e) in omega arith
    bound_form_count p s (Seq es) = let i = bound-all-count es in omega arith
    bound_form_count p s (Call f es) =
        let i = bound-count f in let j = bound-all-count es in let v = times-append w (bound f) (bound_all es) in omega arith
    bound_form_count p s (PrimUse q es) = let i = bound-all-count es in omega arith
    bound_form_count p s (Apply f l) =
        let i = bound-count f in let j = bound-count l in let v = times-append w (bound f) (bound l) in omega arith

    pub bound-all-count : (es : Trees) → weigh_all bound_here es ≡ times w (bound_all es)
    bound-all-count none = refl
    bound-all-count (more e es) =
        let i = bound-count e in let j = bound-all-count es in let v = times-append w (bound e) (bound_all es) in omega arith

-- a node binds variables of the program
abbrev pub BindsSmall : ℕ → Form → Type 0
BindsSmall s (Let xs es e) = AreSmall xs
BindsSmall s (Letrec xs ls e) = AreSmall xs
BindsSmall s f = Unit {0}

mutual
  pub binds_small : (e : Tree) → AreSmall (bound e) → Each BindsSmall e
  binds_small (Node p s f) h = (binds_here s f h, binds_form f h)

  binds_here : (s : ℕ) (f : Form) → AreSmall (bound_form f) → BindsSmall s f
  binds_here s (Let xs es e) h = λ y i. h y (in-left y xs _ i)
  binds_here s (Letrec xs ls e) h = λ y i. h y (in-left y xs _ i)
  binds_here s (Quote c) h = tt
  binds_here s (Local x) h = tt
  binds_here s (Global n) h = tt
  binds_here s (Lambda l) h = tt
  binds_here s (If a b c) h = tt
  binds_here s (SetLocal x e) h = tt
  binds_here s (SetGlobal n e) h = tt
  binds_here s (DefGlobal n e) h = tt
  binds_here s (Seq es) h = tt
  binds_here s (Call f es) h = tt
  binds_here s (PrimUse q es) h = tt
  binds_here s (Apply f l) h = tt

  binds_form : (f : Form) → AreSmall (bound_form f) → EachForm BindsSmall f
  binds_form (Quote c) h = tt
  binds_form (Local x) h = tt
  binds_form (Global n) h = tt
  binds_form (Lambda l) h = tt
  binds_form (If a b c) h = (
    binds_small a (λ y i. h y (in-left y (bound a) _ i)),
    binds_small b (λ y i. h y (in-right y (bound a) _ (in-left y (bound b) _ i))),
    binds_small c (λ y i. h y (in-right y (bound a) _ (in-right y (bound b) _ i))),
  )
  binds_form (SetLocal x e) h = binds_small e h
  binds_form (SetGlobal n e) h = binds_small e h
  binds_form (DefGlobal n e) h = binds_small e h
  binds_form (Let xs es e) h = (
    all_binds_small es (λ y i. h y (in-right y xs _ (in-left y (bound_all es) _ i))),
    binds_small e (λ y i. h y (in-right y xs _ (in-right y (bound_all es) _ i))),
  )
  binds_form (Letrec xs ls e) h = binds_small e (λ y i. h y (in-right y xs _ i))
  binds_form (Seq es) h = all_binds_small es h
  binds_form (Call f es) h =
      (binds_small f (λ y i. h y (in-left y (bound f) _ i)), all_binds_small es (λ y i. h y (in-right y (bound f) _ i)))
  binds_form (PrimUse q es) h = all_binds_small es h
  binds_form (Apply f l) h =
      (binds_small f (λ y i. h y (in-left y (bound f) _ i)), binds_small l (λ y i. h y (in-right y (bound f) _ i)))

  pub all_binds_small : (es : Trees) → AreSmall (bound_all es) → EachAll BindsSmall es
  all_binds_small none h = tt
  all_binds_small (more e es) h =
      (binds_small e (λ y i. h y (in-left y (bound e) _ i)), all_binds_small es (λ y i. h y (in-right y (bound e) _ i)))

-- z is w, or the fresh variable of w, as far as variables of the program can tell
abbrev pub Stems : ℕ → ℕ → Type 0
Stems z w = (x : ℕ) → x < 2 ^ 24 → one_if (fresh x == z) + one_if (x == z) ≤ one_if (x == w)

-- the parameters of lambda expressions
abbrev pub params_of : List C.LambdaTree → List ℕ
params_of [] = []
params_of (l ∷ ls) = F.parameters l ++ params_of ls

cancel : (xs ys zs : List ℕ) → xs ++ ys ≡ xs ++ zs → ys ≡ zs
cancel [] ys zs e = e
cancel (x ∷ xs) ys zs e = cancel xs ys zs (ap tail e)
  where
    tail : List ℕ → List ℕ
    tail [] = []
    tail (y ∷ ys) = ys

abbrev only : List C.LambdaTree → C.ProgramTree
only ls = record { globals = []; statics = []; lambdas = ls; forms = C.none; set = [] }

pub variables-of : (ls : List C.LambdaTree) → K.variables (only ls) ≡ of_nodes binders (nodes_of_lambdas ls) ++ params_of ls
variables-of [] = refl
variables-of (l ∷ ls) = ap (λ ys. of_nodes binders (nodes l.body ++ nodes_of_lambdas ls) ++ (F.parameters l ++ ys))
    (cancel (of_nodes binders (nodes_of_lambdas ls)) _ (params_of ls) (variables-of ls))

pub variables-parts : (p : C.ProgramTree) → K.variables p ≡ of_nodes binders (K.all_nodes p) ++ params_of p.lambdas
variables-parts p = ap (λ ys. of_nodes binders (K.all_nodes p) ++ ys)
    (cancel (of_nodes binders (nodes_of_lambdas p.lambdas)) _ (params_of p.lambdas) (variables-of p.lambdas))

module _ (g : ℕ → Bool) (z w : ℕ) (stems : Stems z w) where
  pub list-stems : (xs : List ℕ) → AreSmall xs → times z (renamed g xs) + times z (celled g xs) ≤ times w xs
  list-stems [] h = omega arith
  list-stems (x ∷ xs) h =
      let r = list-stems xs (λ y i. h y (inr i)) in
      let o = stems x (h x (inl refl)) in
      by_test (g x) r o
    where
      by_test : (b : Bool) → times z (renamed g xs) + times z (celled g xs) ≤ times w xs →
          one_if (fresh x == z) + one_if (x == z) ≤ one_if (x == w) →
          times z (cond b (fresh x) x ∷ renamed g xs) + times z (cond b (x ∷ celled g xs) (celled g xs)) ≤ times w (x ∷ xs)
      by_test true r o = omega arith
      by_test false r o = omega arith

  plain-stems : (xs : List ℕ) → AreSmall xs → times z xs ≤ times w xs
  plain-stems [] h = omega arith
  plain-stems (x ∷ xs) h = let r = plain-stems xs (λ y i. h y (inr i)) in let o = stems x (h x (inl refl)) in omega arith

  abbrev N : C.Tree → ℕ
  N e = times z (binders (form_of e))

  cells_bind_none : (p : Place) (xs : List ℕ) → sum_nodes N (nodes_of (new_cells g p xs)) ≡ 0
  cells_bind_none p [] = refl
  cells_bind_none p (x ∷ xs) = let h = cells_bind_none p xs in omega arith

  pub binding-count : (p : Place) (s : ℕ) (xs : List ℕ) (e : C.Tree) → binding N g p s xs e ≡ times z xs
  binding-count p s [] e = refl
  binding-count p s (x ∷ xs) e = let h = cells_bind_none p (x ∷ xs) in omega arith

  node_stems : (p : Place) (s : ℕ) (f : Form) → BindsSmall s f → stands N g p s f ≤ bound_here w p s f
  node_stems p s (Quote c) h = omega arith
  node_stems p s (Local x) h = by_read (g x)
    where
      by_read : (b : Bool) → reading N g p s x b ≤ 0
      by_read true = omega arith
      by_read false = omega arith
  node_stems p s (Global n) h = omega arith
  node_stems p s (Lambda l) h = omega arith
  node_stems p s (If a b c) h = omega arith
  node_stems p s (SetLocal x e) h = omega arith
  node_stems p s (SetGlobal n e) h = omega arith
  node_stems p s (DefGlobal n e) h = omega arith
  node_stems p s (Let xs es e) h =
      let a = list-stems xs h in let b = binding-count p (let_site s) (celled g xs) (eliminate g e) in omega arith
  node_stems p s (Letrec xs ls e) h = plain-stems xs h
  node_stems p s (Seq es) h = omega arith
  node_stems p s (Call f es) h = omega arith
  node_stems p s (PrimUse q es) h = omega arith
  node_stems p s (Apply f l) h = omega arith

  tree_stems : (e : Tree) → Each BindsSmall e → times z (of_nodes binders (nodes (eliminate g e))) ≤ times w (bound e)
  tree_stems e h =
      let a = times-nodes z binders (nodes (eliminate g e)) in let b = sum-tree N g e in
      let c = weigh-grows BindsSmall (stands N g) (bound_here w) node_stems e h in let d = bound-count w e in omega arith

  pub forms-stem : (es : Trees) → EachAll BindsSmall es → times z (of_nodes binders (nodes_of (eliminate_all g es))) ≤ times w (bound_all es)
  forms-stem es h =
      let a = times-nodes z binders (nodes_of (eliminate_all g es)) in let b = sum-all N g es in
      let c = all-grows BindsSmall (stands N g) (bound_here w) node_stems es h in let d = bound-all-count w es in omega arith

  pub lambdas-stem : (n : ℕ) (ls : List LambdaTree) →
      Every (λ (l : LambdaTree). AreSmall (parameters l) × Each BindsSmall l.body) ls →
      times z (of_nodes binders (nodes_of_lambdas (eliminate_lambdas g n ls))) + times z (params_of (eliminate_lambdas g n ls)) ≤ times w (bound_in_lambdas ls)
  lambdas-stem n [] h = omega arith
  lambdas-stem n (l ∷ ls) h =
      let body = with_cells g l.place (body_site n) (parameters l) (eliminate g l.body) in
      let a = of-nodes-append binders (nodes body) (nodes_of_lambdas (eliminate_lambdas g (suc n) ls)) in
      let b = times-append z (of_nodes binders (nodes body)) (of_nodes binders (nodes_of_lambdas (eliminate_lambdas g (suc n) ls))) in
      let c = times-nodes z binders (nodes body) in
      let d = sum-bind N g l.place (body_site n) (celled g (parameters l)) (eliminate g l.body) in
      let e = binding-count l.place (body_site n) (celled g (parameters l)) (eliminate g l.body) in
      let f = times-nodes z binders (nodes (eliminate g l.body)) in
      let t = tree_stems l.body h.0.1 in
      let i = list-stems (parameters l) h.0.0 in
      let j : times z (F.parameters (eliminate_lambda g n l)) ≡ times z (renamed g (parameters l)) = ap (times z) (renamed-parameters g n l) in
      let k = times-append z (F.parameters (eliminate_lambda g n l)) (params_of (eliminate_lambdas g (suc n) ls)) in
      let r = lambdas-stem (suc n) ls h.1 in
      let u = times-append w (parameters l) (bound l.body ++ bound_in_lambdas ls) in
      let v = times-append w (bound l.body) (bound_in_lambdas ls) in
      let q : times z (of_nodes binders (nodes_of_lambdas (eliminate_lambdas g n (l ∷ ls)))) ≡ times z (of_nodes binders (nodes body) ++ of_nodes binders (nodes_of_lambdas (eliminate_lambdas g (suc n) ls))) = ap (times z) a in
      omega arith

-- of a program whose rules are kept
module _ (p : ProgramTree) (r : KeepsRules p) where
  small_lambdas : (ls : List LambdaTree) → ((y : ℕ) → IsIn y (bound_in_lambdas ls) → y < 2 ^ 24) →
      Every (λ (l : LambdaTree). AreSmall (parameters l) × Each BindsSmall l.body) ls
  small_lambdas [] h = tt
  small_lambdas (l ∷ ls) h = (
    (
      λ y i. h y (in-left y (parameters l) _ i),
      binds_small l.body (λ y i. h y (in-right y (parameters l) _ (in-left y (bound l.body) _ i))),
    ),
    small_lambdas ls (λ y i. h y (in-right y (parameters l) _ (in-right y (bound l.body) _ i))),
  )

  pub stems-of : (z w : ℕ) → Stems z w → times z (K.variables (cells_of p)) ≤ times w (variables p)
  stems-of z w stems =
      let g : ℕ → Bool = is_assigned p in
      let a : times z (K.variables (cells_of p)) ≡ times z (of_nodes binders (K.all_nodes (cells_of p)) ++ params_of (cells_of p).lambdas) = ap (times z) (variables-parts (cells_of p)) in
      let b = times-append z (of_nodes binders (K.all_nodes (cells_of p))) (params_of (cells_of p).lambdas) in
      let c : times z (of_nodes binders (K.all_nodes (cells_of p))) ≡ times z (of_nodes binders (nodes_of (eliminate_all g p.forms)) ++ of_nodes binders (nodes_of_lambdas (eliminate_lambdas g 0 p.lambdas))) =
      ap (times z) (of-nodes-append binders (nodes_of (eliminate_all g p.forms)) (nodes_of_lambdas (eliminate_lambdas g 0 p.lambdas))) in
      let d = times-append z (of_nodes binders (nodes_of (eliminate_all g p.forms))) (of_nodes binders (nodes_of_lambdas (eliminate_lambdas g 0 p.lambdas))) in
      let e = forms-stem g z w stems p.forms (all_binds_small p.forms (λ y i. variable-small p r y (in-left y (bound_all p.forms) _ i))) in
      let f = lambdas-stem g z w stems 0 p.lambdas (small_lambdas p.lambdas (λ y i. variable-small p r y (in-right y (bound_all p.forms) _ i))) in
      let h = times-append w (bound_all p.forms) (bound_in_lambdas p.lambdas) in
      omega arith

  -- a number is that of a variable of the source, or of its fresh one
  pub low_stems : (z : ℕ) → z < 2 ^ 24 → Stems z z
  low_stems z lt x sm = let o : one_if (fresh x == z) ≡ 0 = times-other z (fresh x) (λ e. absurd (omega arith)) in omega arith

  pub fresh_stems : (z : ℕ) → 2 ^ 24 ≤ z → Stems z (z - 2 ^ 24)
  fresh_stems z le x sm =
      let o : one_if (x == z) ≡ 0 = times-other z x (λ e. absurd (omega arith)) in
      ⊎_elim
      (λ t. let q = eqb-true (fresh x) z t in let u = times-same (z - 2 ^ 24) x (omega arith) in let v : one_if (fresh x == z) ≡ 1 = ap one_if t in omega arith)
      (λ f. let v : one_if (fresh x == z) ≡ 0 = ap one_if f in omega arith)
      (cases_Bool (fresh x == z))

  pub variables-apart : IsApart (K.variables (cells_of p))
  variables-apart = times-apart (K.variables (cells_of p))
      (λ z. ⊎_elim
      (λ lt. let a = stems-of z z (low_stems z lt) in let b = apart-times z (variables p) r.bound_once in omega arith)
      (λ le. let a = stems-of z (z - 2 ^ 24) (fresh_stems z le) in let b = apart-times (z - 2 ^ 24) (variables p) r.bound_once in omega arith)
      (cases_lt z (2 ^ 24)))

  variable_below : (z : ℕ) → IsIn z (K.variables (cells_of p)) → z < 2 ^ 27
  variable_below z i = ⊎_elim (λ lt. omega arith)
      (λ le. let a = stems-of z (z - 2 ^ 24) (fresh_stems z le) in
      let b = in-times z (K.variables (cells_of p)) i in
      let c = variable-small p r (z - 2 ^ 24) (times-in (z - 2 ^ 24) (variables p) (omega arith)) in omega arith)
      (cases_lt z (2 ^ 24))

  every_of : (P : ℕ → Type 0) (xs : List ℕ) → ((x : ℕ) → IsIn x xs → P x) → Every P xs
  every_of P [] h = tt
  every_of P (x ∷ xs) h = (h x (inl refl), every_of P xs (λ y i. h y (inr i)))

  pub variables-small : Every (λ x. x < 2 ^ 27) (K.variables (cells_of p))
  variables-small = every_of (λ x. x < 2 ^ 27) (K.variables (cells_of p)) variable_below
