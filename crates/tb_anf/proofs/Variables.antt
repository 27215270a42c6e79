-- Where the variables of a program are bound: in its forms, in its lambda expressions, or as parameters.
use Rattle.std.proofs.Common.{◌≡◌, refl, sym, ap, ◌∙◌, subst, ℕ, zero, suc, ◌<◌, arith, List, [], ◌∷◌, ◌++◌, Some, slice_get}
use Rattle.std.proofs.lemmas.Option.{same_Some}
use Rattle.tb_semantics.specs.Graph.{IsIn, IsApart}
use Rattle.tb_core.specs.Rules.{Every}
use Rattle.tb_core.proofs.Members.{in-left, in-right}
use Rattle.tb_ir.specs.Tree.{Tree, none, more, Trees, tree_at, LambdaTree, ProgramTree}
use Rattle.tb_ir.specs.FreeVariables.{parameters}
use Rattle.tb_ir.specs.Rules.{IsLambda, nodes, nodes_of, nodes_of_lambdas, all_nodes, of_nodes, binders, variables}
use Rattle.tb_anf.proofs.Apart.{own, own_of, own-more, of_nodes-append}
use Rattle.tb_anf.proofs.Operands.{apart-left, apart-right, apart-both, every-left, every-right}

-- the parameters of lambda expressions, and what their bodies bind
abbrev pub params_of : List LambdaTree → List ℕ
params_of [] = []
params_of (l ∷ ls) = parameters l ++ params_of ls

abbrev pub own_in : List LambdaTree → List ℕ
own_in ls = of_nodes binders (nodes_of_lambdas ls)

cancel : (xs ys zs : List ℕ) → xs ++ ys ≡ xs ++ zs → ys ≡ zs
cancel [] ys zs e = e
cancel (x ∷ xs) ys zs e = cancel xs ys zs (ap tail e)
  where
    tail : List ℕ → List ℕ
    tail [] = []
    tail (y ∷ ys) = ys

abbrev only : List LambdaTree → ProgramTree
only ls = record { globals = []; statics = []; lambdas = ls; forms = none; set = [] }

variables_of : (ls : List LambdaTree) → variables (only ls) ≡ own_in ls ++ params_of ls
variables_of [] = refl
variables_of (l ∷ ls) =
    ap (λ ys. of_nodes binders (nodes l.body ++ nodes_of_lambdas ls) ++ (parameters l ++ ys))
    (cancel (own_in ls) _ (params_of ls) (variables_of ls))

pub variables-parts : (p : ProgramTree) →
    variables p ≡ (own_of p.forms ++ own_in p.lambdas) ++ params_of p.lambdas
variables-parts p =
    ap (λ ys. of_nodes binders (all_nodes p) ++ ys)
    (cancel (own_in p.lambdas) _ (params_of p.lambdas) (variables_of p.lambdas))
    ∙ ap (λ z. z ++ params_of p.lambdas) (of_nodes-append binders (nodes_of p.forms) (nodes_of_lambdas p.lambdas))

own_first : (l : LambdaTree) (ls : List LambdaTree) → own_in (l ∷ ls) ≡ own l.body ++ own_in ls
own_first l ls = of_nodes-append binders (nodes l.body) (nodes_of_lambdas ls)

pub own-at : (ls : List LambdaTree) (i : ℕ) (m : LambdaTree) → slice_get ls i ≡ Some m → (y : ℕ) → IsIn y (own m.body) →
    IsIn y (own_in ls)
own-at [] i m e y j = cc
own-at (l ∷ ls) zero m e y j =
    subst (IsIn y) (sym (own_first l ls))
    (in-left y (own l.body) _ (subst (λ t. IsIn y (own t.body)) (sym (same_Some l m e)) j))
own-at (l ∷ ls) (suc i) m e y j =
    subst (IsIn y) (sym (own_first l ls)) (in-right y (own l.body) _ (own-at ls i m e y j))

pub param-at : (ls : List LambdaTree) (i : ℕ) (m : LambdaTree) → slice_get ls i ≡ Some m → (y : ℕ) →
    IsIn y (parameters m) → IsIn y (params_of ls)
param-at [] i m e y j = cc
param-at (l ∷ ls) zero m e y j =
    in-left y (parameters l) _ (subst (λ t. IsIn y (parameters t)) (sym (same_Some l m e)) j)
param-at (l ∷ ls) (suc i) m e y j = in-right y (parameters l) _ (param-at ls i m e y j)

pub own-apart : (ls : List LambdaTree) (i : ℕ) (m : LambdaTree) → slice_get ls i ≡ Some m → IsApart (own_in ls) →
    IsApart (own m.body)
own-apart [] i m e a = cc
own-apart (l ∷ ls) zero m e a =
    subst (λ t. IsApart (own t.body)) (same_Some l m e) (apart-left (own l.body) _ (subst IsApart (own_first l ls) a))
own-apart (l ∷ ls) (suc i) m e a =
    own-apart ls i m e (apart-right (own l.body) _ (subst IsApart (own_first l ls) a))

-- a variable is bound in the body of one lambda expression alone
one-body : (ls : List LambdaTree) (i j : ℕ) (m l : LambdaTree) → slice_get ls i ≡ Some m → slice_get ls j ≡ Some l →
    IsApart (own_in ls) → (y : ℕ) → IsIn y (own m.body) → IsIn y (own l.body) → m ≡ l
one-body [] i j m l e f a y s t = cc
one-body (k ∷ ls) zero zero m l e f a y s t = sym (same_Some k m e) ∙ same_Some k l f
one-body (k ∷ ls) zero (suc j) m l e f a y s t =
    absurd (apart-both (own k.body) (own_in ls) y (subst IsApart (own_first k ls) a)
    (subst (λ z. IsIn y (own z.body)) (sym (same_Some k m e)) s) (own-at ls j l f y t))
one-body (k ∷ ls) (suc i) zero m l e f a y s t =
    absurd (apart-both (own k.body) (own_in ls) y (subst IsApart (own_first k ls) a)
    (subst (λ z. IsIn y (own z.body)) (sym (same_Some k l f)) t) (own-at ls i m e y s))
one-body (k ∷ ls) (suc i) (suc j) m l e f a y s t =
    one-body ls i j m l e f (apart-right (own k.body) _ (subst IsApart (own_first k ls) a)) y s t

pub own-form : (es : Trees) (k : ℕ) (e : Tree) → tree_at es k ≡ Some e → (y : ℕ) → IsIn y (own e) → IsIn y (own_of es)
own-form none k e t y i = cc
own-form (more d es) zero e t y i =
    subst (IsIn y) (sym (own-more d es)) (in-left y (own d) _ (subst (λ z. IsIn y (own z)) (sym (same_Some d e t)) i))
own-form (more d es) (suc k) e t y i =
    subst (IsIn y) (sym (own-more d es)) (in-right y (own d) _ (own-form es k e t y i))

form-apart : (es : Trees) (k : ℕ) (e : Tree) → tree_at es k ≡ Some e → IsApart (own_of es) → IsApart (own e)
form-apart none k e t a = cc
form-apart (more d es) zero e t a =
    subst (λ z. IsApart (own z)) (same_Some d e t) (apart-left (own d) _ (subst IsApart (own-more d es) a))
form-apart (more d es) (suc k) e t a = form-apart es k e t (apart-right (own d) _ (subst IsApart (own-more d es) a))

-- nor in two
two_bodies : (ls : List LambdaTree) (i j : ℕ) (m l : LambdaTree) → i < j → slice_get ls i ≡ Some m →
    slice_get ls j ≡ Some l →
    IsApart (own_in ls) → (y : ℕ) → IsIn y (own m.body) → IsIn y (own l.body) → ⊥
two_bodies [] i j m l lt e f a y s t = cc
two_bodies (k ∷ ls) i zero m l lt e f a y s t = absurd (omega arith)
two_bodies (k ∷ ls) zero (suc j) m l lt e f a y s t =
    apart-both (own k.body) (own_in ls) y (subst IsApart (own_first k ls) a)
    (subst (λ z. IsIn y (own z.body)) (sym (same_Some k m e)) s) (own-at ls j l f y t)
two_bodies (k ∷ ls) (suc i) (suc j) m l lt e f a y s t =
    two_bodies ls i j m l (omega arith) e f (apart-right (own k.body) _ (subst IsApart (own_first k ls) a)) y s t

params_apart : (ls : List LambdaTree) (i : ℕ) (m : LambdaTree) → slice_get ls i ≡ Some m → IsApart (params_of ls) →
    IsApart (parameters m)
params_apart [] i m e a = cc
params_apart (l ∷ ls) zero m e a =
    subst (λ t. IsApart (parameters t)) (same_Some l m e) (apart-left (parameters l) _ a)
params_apart (l ∷ ls) (suc i) m e a = params_apart ls i m e (apart-right (parameters l) _ a)

-- where each variable has one binding
module _ (p : ProgramTree) (once : IsApart (variables p)) where
  all_apart : IsApart ((own_of p.forms ++ own_in p.lambdas) ++ params_of p.lambdas)
  all_apart = subst IsApart (variables-parts p) once

  bodies_apart : IsApart (own_of p.forms ++ own_in p.lambdas)
  bodies_apart = apart-left _ (params_of p.lambdas) all_apart

  pub form-once : (k : ℕ) (e : Tree) → tree_at p.forms k ≡ Some e → IsApart (own e)
  form-once k e t = form-apart p.forms k e t (apart-left (own_of p.forms) _ bodies_apart)

  pub body-once : (l : ℕ) (m : LambdaTree) → IsLambda p l m → IsApart (own m.body)
  body-once l m e = own-apart p.lambdas l m e (apart-right (own_of p.forms) _ bodies_apart)

  pub not-in-form : (l : ℕ) (m : LambdaTree) → IsLambda p l m → (y : ℕ) → IsIn y (own_of p.forms) →
      IsIn y (own m.body) → ⊥
  not-in-form l m e y i j = apart-both (own_of p.forms) _ y bodies_apart i (own-at p.lambdas l m e y j)

  pub no-parameter : (l k : ℕ) (m n : LambdaTree) → IsLambda p l m → IsLambda p k n → (y : ℕ) → IsIn y (own m.body) →
      IsIn y (parameters n) → ⊥
  no-parameter l k m n e f y i j =
      apart-both (own_of p.forms ++ own_in p.lambdas) (params_of p.lambdas) y all_apart
      (in-right y (own_of p.forms) _ (own-at p.lambdas l m e y i)) (param-at p.lambdas k n f y j)

  pub same-body : (l k : ℕ) (m n : LambdaTree) → IsLambda p l m → IsLambda p k n → (y : ℕ) → IsIn y (own m.body) →
      IsIn y (own n.body) → m ≡ n
  same-body l k m n e f y i j =
      one-body p.lambdas l k m n e f (apart-right (own_of p.forms) _ bodies_apart) y i j

  pub other-body : (l k : ℕ) (m n : LambdaTree) → l < k → IsLambda p l m → IsLambda p k n → (y : ℕ) → IsIn y
      (own m.body) →
      IsIn y (own n.body) → ⊥
  other-body l k m n lt e f y i j =
      two_bodies p.lambdas l k m n lt e f (apart-right (own_of p.forms) _ bodies_apart) y i j

  pub params-once : (l : ℕ) (m : LambdaTree) → IsLambda p l m → IsApart (parameters m)
  params-once l m e =
      params_apart p.lambdas l m e (apart-right (own_of p.forms ++ own_in p.lambdas) (params_of p.lambdas) all_apart)

-- where a variable is bound, it is a variable of the program
pub form-variable : (p : ProgramTree) (y : ℕ) → IsIn y (own_of p.forms) → IsIn y (variables p)
form-variable p y i =
    subst (IsIn y) (sym (variables-parts p))
    (in-left y (own_of p.forms ++ own_in p.lambdas) _ (in-left y (own_of p.forms) _ i))

pub body-variable : (p : ProgramTree) (l : ℕ) (m : LambdaTree) → IsLambda p l m → (y : ℕ) → IsIn y (own m.body) →
    IsIn y (variables p)
body-variable p l m e y i =
    subst (IsIn y) (sym (variables-parts p))
    (in-left y (own_of p.forms ++ own_in p.lambdas) _ (in-right y (own_of p.forms) _ (own-at p.lambdas l m e y i)))

pub parameter-variable : (p : ProgramTree) (l : ℕ) (m : LambdaTree) → IsLambda p l m → (y : ℕ) →
    IsIn y (parameters m) → IsIn y (variables p)
parameter-variable p l m e y i =
    subst (IsIn y) (sym (variables-parts p))
    (in-right y (own_of p.forms ++ own_in p.lambdas) _ (param-at p.lambdas l m e y i))

-- what holds of all nodes holds of those of a body, and of those of a form
pub body-nodes : (P : Tree → Type 0) (p : ProgramTree) → Every P (all_nodes p) → (l : ℕ) (m : LambdaTree) →
    IsLambda p l m → Every P (nodes m.body)
body-nodes P p h l m e = at p.lambdas l (every-right P (nodes_of p.forms) _ h) e
  where
    at : (ls : List LambdaTree) (i : ℕ) → Every P (nodes_of_lambdas ls) → slice_get ls i ≡ Some m →
        Every P (nodes m.body)
    at [] i h e = cc
    at (k ∷ ls) zero h e = subst (λ t. Every P (nodes t.body)) (same_Some k m e) (every-left P (nodes k.body) _ h)
    at (k ∷ ls) (suc i) h e = at ls i (every-right P (nodes k.body) _ h) e
