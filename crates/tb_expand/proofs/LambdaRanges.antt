-- The numbers of lambda expressions that nodes name are in range.
use Rattle.std.proofs.Common.{ℕ, ◌<◌, List, [], ◌∷◌, ◌++◌}
use Rattle.tb_core.specs.Tree as core
use Rattle.tb_core.specs.Tree.{Form, Tree, Trees, LambdaTree, none, more}
use Rattle.tb_core.specs.Rules.{Every, Each, EachForm, EachAll, inner, inner_form, inner_all, inner_of_lambdas}
use Rattle.tb_expand.specs.Ranges.{LambdaIn}
use Rattle.tb_expand.proofs.NamedVariables.{every_left, every_right}

module _ (n : ℕ) where
  abbrev Names : ℕ → Form → Type 0
  Names s f = LambdaIn n f

  abbrev Below : ℕ → Type 0
  Below l = l < n

  left : (xs ys : List ℕ) → Every Below (xs ++ ys) → Every Below xs
  left xs ys h = every_left Below xs ys h

  right : (xs ys : List ℕ) → Every Below (xs ++ ys) → Every Below ys
  right xs ys h = every_right Below xs ys h

  own_names : (f : Form) → Every Below (inner_form f) → LambdaIn n f
  own_names (core.Quote c) h = tt
  own_names (core.Local x) h = tt
  own_names (core.Global g) h = tt
  own_names (core.Lambda l) h = h.0
  own_names (core.If a b c) h = tt
  own_names (core.SetLocal x e) h = tt
  own_names (core.SetGlobal g e) h = tt
  own_names (core.DefGlobal g e) h = tt
  own_names (core.Let xs es e) h = tt
  own_names (core.Letrec xs ls e) h = left ls (inner e) h
  own_names (core.Seq es) h = tt
  own_names (core.Call f es) h = tt
  own_names (core.PrimUse q es) h = tt
  own_names (core.Apply f l) h = tt

  mutual
    tree_names : (e : Tree) → Every Below (inner e) → Each Names e
    tree_names (core.Node p s f) h = (own_names f h, form_names f h)

    form_names : (f : Form) → Every Below (inner_form f) → EachForm Names f
    form_names (core.Quote c) h = tt
    form_names (core.Local x) h = tt
    form_names (core.Global g) h = tt
    form_names (core.Lambda l) h = tt
    form_names (core.If a b c) h =
        let k = right (inner a) (inner b ++ inner c) h in
        (tree_names a (left (inner a) (inner b ++ inner c) h), tree_names b (left (inner b) (inner c) k), tree_names c (right (inner b) (inner c) k))
    form_names (core.SetLocal x e) h = tree_names e h
    form_names (core.SetGlobal g e) h = tree_names e h
    form_names (core.DefGlobal g e) h = tree_names e h
    form_names (core.Let xs es e) h = (trees_names es (left (inner_all es) (inner e) h), tree_names e (right (inner_all es) (inner e) h))
    form_names (core.Letrec xs ls e) h = tree_names e (right ls (inner e) h)
    form_names (core.Seq es) h = trees_names es h
    form_names (core.Call f es) h = (tree_names f (left (inner f) (inner_all es) h), trees_names es (right (inner f) (inner_all es) h))
    form_names (core.PrimUse q es) h = trees_names es h
    form_names (core.Apply f l) h = (tree_names f (left (inner f) (inner l) h), tree_names l (right (inner f) (inner l) h))

    pub trees_names : (es : Trees) → Every Below (inner_all es) → EachAll Names es
    trees_names none h = tt
    trees_names (more e es) h = (tree_names e (left (inner e) (inner_all es) h), trees_names es (right (inner e) (inner_all es) h))

  abbrev BodyNames : LambdaTree → Type 0
  BodyNames l = Each Names l.body

  pub lambdas_name : (ls : List LambdaTree) → Every Below (inner_of_lambdas ls) → Every BodyNames ls
  lambdas_name [] h = tt
  lambdas_name (l ∷ ls) h = (tree_names l.body (left (inner l.body) (inner_of_lambdas ls) h), lambdas_name ls (right (inner l.body) (inner_of_lambdas ls) h))
