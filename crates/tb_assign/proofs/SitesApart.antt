-- No two nodes of a program with cells that have an order have one number.
use Rattle.std.proofs.Common.{◌≡◌, refl, ap, ℕ, suc, ◌+◌, ◌-◌, ◌^◌, ◌<◌, ◌≤◌, ⊎_elim, arith, Bool, true, false, ◌==◌, List, [], ◌∷◌, ◌++◌, map, eqb-true}
use Rattle.std.proofs.lemmas.Bool.{cases_Bool, cases_lt}
use Rattle.tb_prim.specs.declared.place.Place.{Place}
use Rattle.tb_semantics.specs.Graph.{IsApart}
use Rattle.tb_core.specs.Tree.{Form, Quote, Local, Global, Lambda, If, SetLocal, SetGlobal, DefGlobal, Let, Letrec, Seq, Call, PrimUse, Apply, Trees, LambdaTree, ProgramTree, parameters}
use Rattle.tb_core.specs.FreeVariables.{is_assigned}
use Rattle.tb_core.specs.OperandOrder.{Line, order_of}
use Rattle.tb_core.specs.Rules.{Every, Each, EachAll, NodeKeeps, LambdaKeeps, KeepsRules}
use Rattle.tb_ir.specs.Tree as C
use Rattle.tb_ir.specs.Width.{is_lined}
use Rattle.tb_ir.specs.Rules.{nodes, nodes_of, nodes_of_lambdas, all_nodes, own_site, sites, times}
use Rattle.tb_assign.specs.Eliminate.{celled, new_cells, with_cells, eliminate, eliminate_all, eliminate_lambdas, let_site, body_site, cells_of}
use Rattle.tb_assign.proofs.AllNamed.{all-named}
use Rattle.tb_assign.proofs.Counts.{one_if, times-append, times-other, times-in, apart-times, times-apart}
use Rattle.tb_assign.proofs.OwnLines.{lined_here, weigh_bodies, lines-enough}
use Rattle.tb_assign.proofs.ReadyFrom.{each-then, all-then, ready-from}
use Rattle.tb_assign.proofs.Sites.{SmallSite}
use Rattle.tb_assign.proofs.VariablesApart.{Stems, low_stems, fresh_stems}
use Rattle.tb_assign.proofs.Weights.{weigh_all, weigh-grows, all-grows, sum_nodes, sum-append, sum-bind, binding, reading, stands, sum-tree, sum-all}
use Rattle.tb_assign.proofs.Widths.{line-there}

-- the numbers of the bodies of lambda expressions
abbrev body_sites : ℕ → ℕ → List LambdaTree → ℕ
body_sites z n [] = 0
body_sites z n (l ∷ ls) = one_if (body_site n == z) + body_sites z (suc n) ls

few_bodies : (z n : ℕ) (ls : List LambdaTree) → (body_sites z n ls ≤ 1) × (z < body_site n → body_sites z n ls ≡ 0)
few_bodies z n [] = (omega arith, λ h. refl)
few_bodies z n (l ∷ ls) =
    let r = few_bodies z (suc n) ls in
    ⊎_elim
    (λ t. let e = eqb-true (body_site n) z t in let v : one_if (body_site n == z) ≡ 1 = ap one_if t in let o = r.1 (omega arith) in
    (omega arith, λ lt. absurd (omega arith)))
    (λ f. let v : one_if (body_site n == z) ≡ 0 = ap one_if f in
    (let q = r.0 in omega arith, λ lt. let q = r.1 (omega arith) in omega arith))
    (cases_Bool (body_site n == z))

module _ (g : ℕ → Bool) (z w : ℕ) (stems : Stems z w) where
  abbrev N : C.Tree → ℕ
  N e = times z (own_site e)

  site_sum : (es : List C.Tree) → times z (sites es) ≡ sum_nodes N es
  site_sum [] = refl
  site_sum (e ∷ es) = let h = site_sum es in let v = times-append z (own_site e) (sites es) in omega arith

  cells_none : (p : Place) (xs : List ℕ) → sum_nodes N (nodes_of (new_cells g p xs)) ≡ 0
  cells_none p [] = refl
  cells_none p (x ∷ xs) = let h = cells_none p xs in omega arith

  bind_site : (p : Place) (s : ℕ) (xs : List ℕ) (e : C.Tree) → binding N g p s xs e ≤ one_if (s == z)
  bind_site p s [] e = omega arith
  bind_site p s (x ∷ xs) e = let h = cells_none p (x ∷ xs) in omega arith

  node_site : (p : Place) (s : ℕ) (f : Form) → SmallSite s f → stands N g p s f ≤ lined_here w p s f
  node_site p s (Quote c) h = omega arith
  node_site p s (Local x) h = by_read (g x)
    where
      by_read : (b : Bool) → reading N g p s x b ≤ 0
      by_read true = omega arith
      by_read false = omega arith
  node_site p s (Global n) h = omega arith
  node_site p s (Lambda l) h = omega arith
  node_site p s (If a b c) h = omega arith
  node_site p s (SetLocal x e) h = omega arith
  node_site p s (SetGlobal n e) h = omega arith
  node_site p s (DefGlobal n e) h = omega arith
  node_site p s (Let xs es e) h =
      let a = bind_site p (let_site s) (celled g xs) (eliminate g e) in let b = stems s h in omega arith
  node_site p s (Letrec xs ls e) h = omega arith
  node_site p s (Seq es) h = omega arith
  node_site p s (Call f es) h = let b = stems s h in omega arith
  node_site p s (PrimUse q es) h = let b = stems s h in omega arith
  node_site p s (Apply f l) h = let b = stems s h in omega arith

  forms_sites : (es : Trees) → EachAll SmallSite es → times z (sites (nodes_of (eliminate_all g es))) ≤ weigh_all (lined_here w) es
  forms_sites es h =
      let a = site_sum (nodes_of (eliminate_all g es)) in let b = sum-all N g es in
      let c = all-grows SmallSite (stands N g) (lined_here w) node_site es h in omega arith

  sites_append : (es ds : List C.Tree) → times z (sites (es ++ ds)) ≡ times z (sites es) + times z (sites ds)
  sites_append es ds =
      let a = site_sum (es ++ ds) in let b = site_sum es in let c = site_sum ds in let d = sum-append N es ds in omega arith

  lambdas_sites : (n : ℕ) (ls : List LambdaTree) → Every (λ (l : LambdaTree). Each SmallSite l.body) ls →
      times z (sites (nodes_of_lambdas (eliminate_lambdas g n ls))) ≤ weigh_bodies w ls + body_sites z n ls
  lambdas_sites n [] h = omega arith
  lambdas_sites n (l ∷ ls) h =
      let a = sites_append (nodes (with_cells g l.place (body_site n) (parameters l) (eliminate g l.body))) (nodes_of_lambdas (eliminate_lambdas g (suc n) ls)) in
      let b = site_sum (nodes (with_cells g l.place (body_site n) (parameters l) (eliminate g l.body))) in
      let c = sum-bind N g l.place (body_site n) (celled g (parameters l)) (eliminate g l.body) in
      let d = bind_site l.place (body_site n) (celled g (parameters l)) (eliminate g l.body) in
      let e = sum-tree N g l.body in
      let f = weigh-grows SmallSite (stands N g) (lined_here w) node_site l.body h.0 in
      let r = lambdas_sites (suc n) ls h.1 in omega arith

module _ (p : ProgramTree) (r : KeepsRules p) where
  small_bodies : (ls : List LambdaTree) → Every (LambdaKeeps p) ls → Every (λ (l : LambdaTree). Each SmallSite l.body) ls
  small_bodies [] h = tt
  small_bodies (l ∷ ls) h =
      (each-then (NodeKeeps p) SmallSite (λ s f k. k.small_site) l.body (h.0).nodes, small_bodies ls h.1)

  bounded : (z w : ℕ) → Stems z w →
      times z (sites (all_nodes (cells_of p))) ≤ times w (map (λ (l : Line). l.site) (order_of p)) + body_sites z 0 p.lambdas
  bounded z w stems =
      let g : ℕ → Bool = is_assigned p in
      let a = sites_append g z w stems (nodes_of (eliminate_all g p.forms)) (nodes_of_lambdas (eliminate_lambdas g 0 p.lambdas)) in
      let b = forms_sites g z w stems p.forms (all-then (NodeKeeps p) SmallSite (λ s f k. k.small_site) p.forms r.forms) in
      let c = lambdas_sites g z w stems 0 p.lambdas (small_bodies p.lambdas r.lambdas) in
      let d = lines-enough p w r in omega arith

  far : (z : ℕ) → 2 ^ 25 ≤ z → Stems z z
  far z le x sm =
      let a : one_if (2 ^ 24 + x == z) ≡ 0 = times-other z (2 ^ 24 + x) (λ e. absurd (omega arith)) in omega arith

  no_line : (z : ℕ) → 2 ^ 25 ≤ z → times z (map (λ (l : Line). l.site) (order_of p)) < 1
  no_line z le = ⊎_elim (λ lt. lt)
      (λ ge. let i = line-there (order_of p) z (times-in z _ ge) in
      let n = ap is_lined ((ready-from p r (all-named p r)).lines_small z (omega arith)) in cc)
      (cases_lt (times z (map (λ (l : Line). l.site) (order_of p))) 1)

  pub sites-apart : IsApart (sites (all_nodes (cells_of p)))
  sites-apart = times-apart (sites (all_nodes (cells_of p)))
      (λ z. ⊎_elim
      (λ lt. let few = (few_bodies z 0 p.lambdas).1 (omega arith) in
      ⊎_elim
      (λ low. let a = bounded z z (low_stems p r z low) in let b = apart-times z _ r.sites_apart in omega arith)
      (λ high. let a = bounded z (z - 2 ^ 24) (fresh_stems p r z high) in let b = apart-times (z - 2 ^ 24) _ r.sites_apart in omega arith)
      (cases_lt z (2 ^ 24)))
      (λ le. let a = bounded z z (far z le) in let b = no_line z le in let c = (few_bodies z 0 p.lambdas).0 in omega arith)
      (cases_lt z (2 ^ 25)))
