-- The lambda expressions that stand in a program with cells are those of its source, in the same order.
use Rattle.std.proofs.Common.{◌≡◌, refl, sym, ap, ◌∙◌, subst, ℕ, suc, ◌<◌, Bool, true, false, List, [], ◌∷◌, ◌++◌, length, append_assoc}
use Rattle.tb_prim.specs.declared.place.Place.{Place}
use Rattle.tb_core.specs.Tree.{Tree, Node, Form, Quote, Local, Global, Lambda, If, SetLocal, SetGlobal, DefGlobal, Let, Letrec, Seq, Call, PrimUse, Apply, Trees, none, more, LambdaTree, parameters}
use Rattle.tb_core.specs.Rules.{Every, InnerAreGreater, inner, inner_form, inner_all, inner_of_lambdas}
use Rattle.tb_core.proofs.Members.{append-same}
use Rattle.tb_ir.specs.Tree as C
use Rattle.tb_ir.specs.Rules as K
use Rattle.tb_ir.specs.Rules.{nodes, nodes_in, nodes_of, nodes_of_lambdas, form_of, of_nodes, standing_at}
use Rattle.tb_assign.specs.Eliminate.{celled, new_cells, bind_cells, with_cells, read_variable, eliminate, eliminate_form, eliminate_all, eliminate_lambdas, let_site, body_site}

pub of-nodes-append : {X : Type 0} (has : C.Form → List X) (es ds : List C.Tree) →
    of_nodes has (es ++ ds) ≡ of_nodes has es ++ of_nodes has ds
of-nodes-append has [] ds = refl
of-nodes-append has (e ∷ es) ds = simp (of-nodes-append has es ds, append_assoc)

abbrev at : List C.Tree → List ℕ
at es = of_nodes standing_at es

module _ (g : ℕ → Bool) where
  no_cells : (p : Place) (xs : List ℕ) → at (nodes_of (new_cells g p xs)) ≡ []
  no_cells p [] = refl
  no_cells p (x ∷ xs) = no_cells p xs

  bound_alone : (p : Place) (s : ℕ) (xs : List ℕ) (e : C.Tree) → at (nodes (bind_cells g p s xs e)) ≡ at (nodes e)
  bound_alone p s [] e = refl
  bound_alone p s (x ∷ xs) e = of-nodes-append standing_at (nodes_of (new_cells g p (x ∷ xs))) (nodes e)
      ∙ ap (λ ys. ys ++ at (nodes e)) (no_cells p (x ∷ xs))

  read_none : (p : Place) (s x : ℕ) (b : Bool) →
      standing_at (read_variable g p s x b) ++ at (nodes_in (read_variable g p s x b)) ≡ []
  read_none p s x true = refl
  read_none p s x false = refl

  both : (es ds : List C.Tree) (xs ys : List ℕ) → at es ≡ xs → at ds ≡ ys → at (es ++ ds) ≡ xs ++ ys
  both es ds xs ys h k = of-nodes-append standing_at es ds ∙ append-same (at es) _ xs _ h k

  mutual
    pub same-standing : (e : Tree) → at (nodes (eliminate g e)) ≡ inner e
    same-standing (Node p s f) = form_standing p s f

    form_standing : (p : Place) (s : ℕ) (f : Form) →
        standing_at (eliminate_form g p s f) ++ at (nodes_in (eliminate_form g p s f)) ≡ inner_form f
    form_standing p s (Quote c) = refl
    form_standing p s (Local x) = read_none p s x (g x)
    form_standing p s (Global n) = refl
    form_standing p s (Lambda l) = refl
    form_standing p s (If a b c) =
        both (nodes (eliminate g a)) _ _ _ (same-standing a)
        (both (nodes (eliminate g b)) _ _ _ (same-standing b) (same-standing c))
    form_standing p s (SetLocal x e) = same-standing e
    form_standing p s (SetGlobal n e) = same-standing e
    form_standing p s (DefGlobal n e) = same-standing e
    form_standing p s (Let xs es e) =
        both (nodes_of (eliminate_all g es)) _ _ _ (all-standing es)
        (bound_alone p (let_site s) (celled g xs) (eliminate g e) ∙ same-standing e)
    form_standing p s (Letrec xs ls e) = ap (λ ys. ls ++ ys) (same-standing e)
    form_standing p s (Seq es) = all-standing es
    form_standing p s (Call f es) = both (nodes (eliminate g f)) _ _ _ (same-standing f) (all-standing es)
    form_standing p s (PrimUse q es) = all-standing es
    form_standing p s (Apply f l) = both (nodes (eliminate g f)) _ _ _ (same-standing f) (same-standing l)

    pub all-standing : (es : Trees) → at (nodes_of (eliminate_all g es)) ≡ inner_all es
    all-standing none = refl
    all-standing (more e es) = both (nodes (eliminate g e)) _ _ _ (same-standing e) (all-standing es)

  body-standing : (n : ℕ) (l : LambdaTree) →
      at (nodes (with_cells g l.place (body_site n) (parameters l) (eliminate g l.body))) ≡ inner l.body
  body-standing n l = bound_alone l.place (body_site n) (celled g (parameters l)) (eliminate g l.body)
      ∙ same-standing l.body

  pub lambdas-standing : (n : ℕ) (ls : List LambdaTree) → at (nodes_of_lambdas (eliminate_lambdas g n ls)) ≡ inner_of_lambdas ls
  lambdas-standing n [] = refl
  lambdas-standing n (l ∷ ls) =
      both (nodes (with_cells g l.place (body_site n) (parameters l) (eliminate g l.body))) _ _ _ (body-standing n l)
      (lambdas-standing (suc n) ls)

  -- those inside another have greater numbers
  pub still-greater : (first n : ℕ) (ls : List LambdaTree) → InnerAreGreater first ls →
      K.InnerAreGreater first (eliminate_lambdas g n ls)
  still-greater first n [] h = tt
  still-greater first n (l ∷ ls) h =
      (subst (Every (λ m. first < m)) (sym (body-standing n l)) h.0, still-greater (suc first) (suc n) ls h.1)

  pub lambdas-count : (n : ℕ) (ls : List LambdaTree) → length (eliminate_lambdas g n ls) ≡ length ls
  lambdas-count n [] = refl
  lambdas-count n (l ∷ ls) = ap suc (lambdas-count (suc n) ls)
