-- Sums over the nodes of an expression with cells are sums over those of its source.
use Rattle.std.proofs.Common.{◌≡◌, refl, ℕ, ◌+◌, ◌≤◌, arith, Bool, true, false, cond, List, [], ◌∷◌, ◌++◌}
use Rattle.tb_prim.specs.declared.place.Place.{Place}
use Rattle.tb_core.specs.Tree.{Tree, Node, Form, Quote, Local, Global, Lambda, If, SetLocal, SetGlobal, DefGlobal, Let, Letrec, Seq, Call, PrimUse, Apply, Trees, none, more}
use Rattle.tb_core.specs.Rules.{Each, EachForm, EachAll}
use Rattle.tb_ir.specs.Tree as C
use Rattle.tb_ir.specs.Rules.{nodes, nodes_in, nodes_of, form_of, of_nodes, times}
use Rattle.tb_assign.specs.Eliminate.{celled, new_cells, bind_cells, with_cells, cell_name, read_variable, eliminate, eliminate_form, eliminate_all, let_site}
use Rattle.tb_assign.proofs.Counts.{times-append}

-- a sum over the nodes of an expression, inner lambdas apart
module _ (m : Place → ℕ → Form → ℕ) where
  abbrev mutual
    pub weigh : Tree → ℕ
    weigh (Node p s f) = m p s f + weigh_form f

    pub weigh_form : Form → ℕ
    weigh_form (Quote c) = 0
    weigh_form (Local x) = 0
    weigh_form (Global n) = 0
    weigh_form (Lambda l) = 0
    weigh_form (If a b c) = weigh a + (weigh b + weigh c)
    weigh_form (SetLocal x e) = weigh e
    weigh_form (SetGlobal n e) = weigh e
    weigh_form (DefGlobal n e) = weigh e
    weigh_form (Let xs es e) = weigh_all es + weigh e
    weigh_form (Letrec xs ls e) = weigh e
    weigh_form (Seq es) = weigh_all es
    weigh_form (Call f es) = weigh f + weigh_all es
    weigh_form (PrimUse q es) = weigh_all es
    weigh_form (Apply f l) = weigh f + weigh l

    pub weigh_all : Trees → ℕ
    weigh_all none = 0
    weigh_all (more e es) = weigh e + weigh_all es

-- it grows where that of each node does
module _ (P : ℕ → Form → Type 0) (m k : Place → ℕ → Form → ℕ)
    (grows : (p : Place) (s : ℕ) (f : Form) → P s f → m p s f ≤ k p s f) where
  mutual
    pub weigh-grows : (e : Tree) → Each P e → weigh m e ≤ weigh k e
    weigh-grows (Node p s f) h = let a = grows p s f h.0 in let b = form_grows f h.1 in omega arith

    form_grows : (f : Form) → EachForm P f → weigh_form m f ≤ weigh_form k f
    form_grows (Quote c) h = omega arith
    form_grows (Local x) h = omega arith
    form_grows (Global n) h = omega arith
    form_grows (Lambda l) h = omega arith
    form_grows (If a b c) h =
        let i = weigh-grows a h.0 in let j = weigh-grows b h.1 in let k = weigh-grows c h.2 in omega arith
    form_grows (SetLocal x e) h = weigh-grows e h
    form_grows (SetGlobal n e) h = weigh-grows e h
    form_grows (DefGlobal n e) h = weigh-grows e h
    form_grows (Let xs es e) h = let i = all-grows es h.0 in let j = weigh-grows e h.1 in omega arith
    form_grows (Letrec xs ls e) h = weigh-grows e h
    form_grows (Seq es) h = all-grows es h
    form_grows (Call f es) h = let i = weigh-grows f h.0 in let j = all-grows es h.1 in omega arith
    form_grows (PrimUse q es) h = all-grows es h
    form_grows (Apply f l) h = let i = weigh-grows f h.0 in let j = weigh-grows l h.1 in omega arith

    pub all-grows : (es : Trees) → EachAll P es → weigh_all m es ≤ weigh_all k es
    all-grows none h = omega arith
    all-grows (more e es) h = let i = weigh-grows e h.0 in let j = all-grows es h.1 in omega arith

-- a sum over the nodes of an expression with cells
module _ (N : C.Tree → ℕ) where
  abbrev pub sum_nodes : List C.Tree → ℕ
  sum_nodes [] = 0
  sum_nodes (e ∷ es) = N e + sum_nodes es

  pub sum-append : (xs ys : List C.Tree) → sum_nodes (xs ++ ys) ≡ sum_nodes xs + sum_nodes ys
  sum-append [] ys = omega arith
  sum-append (x ∷ xs) ys = let h = sum-append xs ys in omega arith

  module _ (g : ℕ → Bool) where
    -- what the cells that are made at the head of a body add
    abbrev pub binding : Place → ℕ → List ℕ → C.Tree → ℕ
    binding p s [] e = 0
    binding p s (x ∷ xs) e =
        N (C.Node p s (C.Let (x ∷ xs) (new_cells g p (x ∷ xs)) e)) + sum_nodes (nodes_of (new_cells g p (x ∷ xs)))

    pub sum-bind : (p : Place) (s : ℕ) (xs : List ℕ) (e : C.Tree) →
        sum_nodes (nodes (bind_cells g p s xs e)) ≡ binding p s xs e + sum_nodes (nodes e)
    sum-bind p s [] e = omega arith
    sum-bind p s (x ∷ xs) e = let h = sum-append (nodes_of (new_cells g p (x ∷ xs))) (nodes e) in omega arith

    -- what the nodes that stand for one node of the source add
    abbrev pub reading : Place → ℕ → ℕ → Bool → ℕ
    reading p s x b = N (C.Node p s (read_variable g p s x b)) + cond b (N (cell_name g p s x)) 0

    abbrev pub stands : Place → ℕ → Form → ℕ
    stands p s (Local x) = reading p s x (g x)
    stands p s (SetLocal x e) = N (C.Node p s (C.CellSet (cell_name g p s x) (eliminate g e))) + N (cell_name g p s x)
    stands p s (Let xs es e) = N (C.Node p s (eliminate_form g p s (Let xs es e))) +
        binding p (let_site s) (celled g xs) (eliminate g e)
    stands p s f = N (C.Node p s (eliminate_form g p s f))

    read_sum : (p : Place) (s x : ℕ) (b : Bool) →
        N (C.Node p s (read_variable g p s x b)) + sum_nodes (nodes_in (read_variable g p s x b)) ≡ reading p s x b + 0
    read_sum p s x true = omega arith
    read_sum p s x false = omega arith

    mutual
      pub sum-tree : (e : Tree) → sum_nodes (nodes (eliminate g e)) ≡ weigh stands e
      sum-tree (Node p s f) = sum_form p s f

      sum_form : (p : Place) (s : ℕ) (f : Form) →
          N (C.Node p s (eliminate_form g p s f)) + sum_nodes (nodes_in (eliminate_form g p s f)) ≡ stands p s f + weigh_form stands f
      sum_form p s (Quote c) = refl
      sum_form p s (Local x) = read_sum p s x (g x)
      sum_form p s (Global n) = refl
      sum_form p s (Lambda l) = refl
      sum_form p s (If a b c) =
          let i = sum-tree a in let j = sum-tree b in let k = sum-tree c in
          let v = sum-append (nodes (eliminate g a)) (nodes (eliminate g b) ++ nodes (eliminate g c)) in
          let w = sum-append (nodes (eliminate g b)) (nodes (eliminate g c)) in omega arith
      sum_form p s (SetLocal x e) = let i = sum-tree e in omega arith
      sum_form p s (SetGlobal n e) = let i = sum-tree e in omega arith
      sum_form p s (DefGlobal n e) = let i = sum-tree e in omega arith
      sum_form p s (Let xs es e) =
          let i = sum-all es in let j = sum-tree e in
          let v = sum-append (nodes_of (eliminate_all g es)) (nodes (with_cells g p (let_site s) xs (eliminate g e))) in
          let w = sum-bind p (let_site s) (celled g xs) (eliminate g e) in omega arith
      sum_form p s (Letrec xs ls e) = let i = sum-tree e in omega arith
      sum_form p s (Seq es) = let i = sum-all es in omega arith
      sum_form p s (Call f es) =
          let i = sum-tree f in let j = sum-all es in
          let v = sum-append (nodes (eliminate g f)) (nodes_of (eliminate_all g es)) in omega arith
      sum_form p s (PrimUse q es) = let i = sum-all es in omega arith
      sum_form p s (Apply f l) =
          let i = sum-tree f in let j = sum-tree l in
          let v = sum-append (nodes (eliminate g f)) (nodes (eliminate g l)) in omega arith

      pub sum-all : (es : Trees) → sum_nodes (nodes_of (eliminate_all g es)) ≡ weigh_all stands es
      sum-all none = refl
      sum-all (more e es) =
          let i = sum-tree e in let j = sum-all es in
          let v = sum-append (nodes (eliminate g e)) (nodes_of (eliminate_all g es)) in omega arith

-- how often a number stands in what nodes have is a sum over the nodes
pub times-nodes : (x : ℕ) (has : C.Form → List ℕ) (es : List C.Tree) →
    times x (of_nodes has es) ≡ sum_nodes (λ e. times x (has (form_of e))) es
times-nodes x has [] = refl
times-nodes x has (e ∷ es) =
    let h = times-nodes x has es in let v = times-append x (has (form_of e)) (of_nodes has es) in omega arith
