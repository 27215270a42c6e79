-- What is free in the nodes of an expression, and in a lambda expression by its number.
use Rattle.std.proofs.Common.{◌≡◌, refl, sym, ap, ◌∙◌, subst, ℕ, zero, suc, ◌+◌, ◌<◌, ◌⊎◌, inl, inr, ⊎_elim, arith, List, [], ◌∷◌, ◌++◌, Some, slice_get, eq-eqb, ne_eqb}
use Rattle.std.proofs.lemmas.Option.{same_Some}
use Rattle.tb_prim.specs.declared.place.Place.{Place}
use Rattle.tb_semantics.specs.Graph.{IsIn}
use Rattle.tb_core.specs.FreeVariables.{without, of_lambdas}
use Rattle.tb_core.specs.Lifting.{Lifted}
use Rattle.tb_core.specs.Rules.{Every}
use Rattle.tb_core.proofs.Members.{in-left, in-right, append-same}
use Rattle.tb_ir.specs.Tree.{Tree, Node, Form, Quote, Local, Global, Lambda, If, NewCell, CellGet, CellSet, SetGlobal, DefGlobal, Let, Letrec, Seq, Call, Direct, PrimUse, Apply, Trees, none, more, LambdaTree, ProgramTree}
use Rattle.tb_ir.specs.FreeVariables.{free, free_form, free_all, lambda_free, lambdas_free, inner_free, parameters, added_to}
use Rattle.tb_ir.specs.Rules.{nodes, nodes_in, nodes_of, of_nodes, binders, form_of, standing_at, InnerAreGreater, IsLambda}
use Rattle.tb_anf.proofs.Apart.{own, own_of, own-more}
use Rattle.tb_anf.proofs.Operands.{every-left, every-right}
use Rattle.tb_anf.proofs.TreeParts.{parts, by-parts, nodes-parts, free-parts}

pub every-map : {X : Type 0} (P Q : X → Type 0) (xs : List X) → ((x : X) → P x → Q x) → Every P xs → Every Q xs
every-map P Q [] h e = tt
every-map P Q (x ∷ xs) h e = (h x e.0, every-map P Q xs h e.1)

pub every-append : {X : Type 0} (P : X → Type 0) (xs ys : List X) → Every P xs → Every P ys → Every P (xs ++ ys)
every-append P [] ys a b = b
every-append P (x ∷ xs) ys a b = (a.0, every-append P xs ys a.1 b)

-- what is free in a node is free in the expression, or the expression binds it
module _ (I : ℕ → List ℕ) where
  abbrev pub IsScoped : List ℕ → List ℕ → Tree → Type 0
  IsScoped names vars d = (y : ℕ) → IsIn y (free I d) → IsIn y names ⊎ IsIn y vars

  abbrev TreeScoped : Tree → Type 0
  TreeScoped e = Every (IsScoped (free I e) (own e)) (nodes e)

  abbrev AllScoped : Trees → Type 0
  AllScoped es = Every (IsScoped (free_all I es) (own_of es)) (nodes_of es)

  scoped_node : (p : Place) (s : ℕ) (f : Form) → AllScoped (parts f) → TreeScoped (Node p s f)
  scoped_node p s f h = (
    λ y i. inl i,
    subst (Every (IsScoped (free_form I f) (own (Node p s f)))) (sym (nodes-parts f))
        (every-map (IsScoped (free_all I (parts f)) (own_of (parts f))) (IsScoped (free_form I f) (own (Node p s f)))
        (nodes_of (parts f))
        (λ d k y i. ⊎_elim
        (λ j. ⊎_elim inl (λ b. inr (in-left y (binders f) _ b)) (free-parts I f y j))
        (λ j. inr (in-right y (binders f) _
        (subst (λ ds. IsIn y (of_nodes binders ds)) (sym (nodes-parts f)) j)))
        (k y i)) h),
  )

  scoped_more : (e : Tree) (es : Trees) → TreeScoped e → AllScoped es → AllScoped (more e es)
  scoped_more e es a b =
      let vars = sym (own-more e es) in
      every-append _ (nodes e) (nodes_of es)
      (every-map _ _ (nodes e)
      (λ d k y i. ⊎_elim (λ j. inl (in-left y (free I e) _ j))
      (λ j. inr (subst (IsIn y) vars (in-left y (own e) (own_of es) j))) (k y i)) a)
      (every-map _ _ (nodes_of es)
      (λ d k y i. ⊎_elim (λ j. inl (in-right y (free I e) _ j))
      (λ j. inr (subst (IsIn y) vars (in-right y (own e) (own_of es) j))) (k y i)) b)

  pub scoped : (e : Tree) → TreeScoped e
  scoped = by-parts TreeScoped AllScoped scoped_node tt scoped_more

-- the free variables of an expression depend on those of the lambda expressions in it
module _ (f g : ℕ → List ℕ) where
  abbrev Alike : Tree → Type 0
  Alike d = (l : ℕ) → IsIn l (standing_at (form_of d)) → f l ≡ g l

  lambdas_same : (ls : List ℕ) → ((l : ℕ) → IsIn l ls → f l ≡ g l) → of_lambdas f ls ≡ of_lambdas g ls
  lambdas_same [] h = refl
  lambdas_same (l ∷ ls) h =
      append-same (f l) _ (g l) _ (h l (inl refl)) (lambdas_same ls (λ k i. h k (inr i)))

  mutual
    pub free-same : (e : Tree) → Every Alike (nodes e) → free f e ≡ free g e
    free-same (Node p s k) h = form_same k h.0 h.1

    form_same : (k : Form) → ((l : ℕ) → IsIn l (standing_at k) → f l ≡ g l) → Every Alike (nodes_in k) →
        free_form f k ≡ free_form g k
    form_same (Quote c) t h = refl
    form_same (Local x) t h = refl
    form_same (Global v) t h = refl
    form_same (Lambda l) t h = t l (inl refl)
    form_same (If a b c) t h =
        append-same (free f a) _ (free g a) _ (free-same a (every-left _ (nodes a) _ h))
        (append-same (free f b) _ (free g b) _
        (free-same b (every-left _ (nodes b) _ (every-right _ (nodes a) _ h)))
        (free-same c (every-right _ (nodes b) _ (every-right _ (nodes a) _ h))))
    form_same (NewCell e) t h = free-same e h
    form_same (CellGet e) t h = free-same e h
    form_same (CellSet c e) t h =
        append-same (free f c) _ (free g c) _ (free-same c (every-left _ (nodes c) _ h))
        (free-same e (every-right _ (nodes c) _ h))
    form_same (SetGlobal v e) t h = free-same e h
    form_same (DefGlobal v e) t h = free-same e h
    form_same (Let xs es e) t h =
        append-same (free_all f es) _ (free_all g es) _ (all_same es (every-left _ (nodes_of es) _ h))
        (ap (without xs) (free-same e (every-right _ (nodes_of es) _ h)))
    form_same (Letrec xs ls e) t h =
        ap (without xs) (append-same (of_lambdas f ls) _ (of_lambdas g ls) _ (lambdas_same ls t) (free-same e h))
    form_same (Seq es) t h = all_same es h
    form_same (Call a es) t h =
        append-same (free f a) _ (free g a) _ (free-same a (every-left _ (nodes a) _ h))
        (all_same es (every-right _ (nodes a) _ h))
    form_same (Direct l es) t h = all_same es h
    form_same (PrimUse q es) t h = all_same es h
    form_same (Apply a b) t h =
        append-same (free f a) _ (free g a) _ (free-same a (every-left _ (nodes a) _ h))
        (free-same b (every-right _ (nodes a) _ h))

    all_same : (es : Trees) → Every Alike (nodes_of es) → free_all f es ≡ free_all g es
    all_same none h = refl
    all_same (more e es) h =
        append-same (free f e) _ (free g e) _ (free-same e (every-left _ (nodes e) _ h))
        (all_same es (every-right _ (nodes e) _ h))

pub every-in : {X : Type 0} (P : X → Type 0) (xs : List X) (x : X) → Every P xs → IsIn x xs → P x
every-in P [] x e i = absurd i
every-in P (y ∷ xs) x e (inl q) = subst P q e.0
every-in P (y ∷ xs) x e (inr i) = every-in P xs x e.1 i

-- those inside a lambda expression of the list have numbers greater than those before the list
pub greater_at : (ls : List LambdaTree) (first k : ℕ) (l : LambdaTree) → InnerAreGreater first ls →
    slice_get ls k ≡ Some l → (m : ℕ) → IsIn m (of_nodes standing_at (nodes l.body)) → first + k < m
greater_at [] first k l h e m i = cc
greater_at (n ∷ ls) first zero l h e m i =
    let j = every-in (λ m. first < m) (of_nodes standing_at (nodes n.body)) m h.0
    (subst (λ t. IsIn m (of_nodes standing_at (nodes t.body))) (sym (same_Some n l e)) i) in
    omega arith
greater_at (n ∷ ls) first (suc k) l h e m i = let j = greater_at ls (suc first) k l h.1 e m i in omega arith

pub in-node : (has : Form → List ℕ) (ds : List Tree) → Every (λ d. (y : ℕ) → IsIn y (has (form_of d)) →
    IsIn y (of_nodes has ds)) ds
in-node has [] = tt
in-node has (d ∷ ds) = (
  λ y i. in-left y (has (form_of d)) _ i,
  every-map _ _ ds (λ c k y i. in-right y (has (form_of d)) _ (k y i)) (in-node has ds),
)

module _ (set : List Lifted) where
  -- past the first, the numbers are those of the others
  behind : (m : LambdaTree) (ms : List LambdaTree) (first v : ℕ) → first < v →
      lambdas_free set ms (suc first) v ≡ lambdas_free set (m ∷ ms) first v
  behind m ms first v lt = rw (ne_eqb first v (λ z. omega arith)) refl

  same_behind : (m : LambdaTree) (ms : List LambdaTree) (first k : ℕ) (l : LambdaTree) →
      InnerAreGreater first (m ∷ ms) →
      slice_get (m ∷ ms) k ≡ Some l →
      free (lambdas_free set ms (suc first)) l.body ≡ free (lambdas_free set (m ∷ ms) first) l.body
  same_behind m ms first k l h e =
      free-same (lambdas_free set ms (suc first)) (lambdas_free set (m ∷ ms) first) l.body
      (every-map _ _ (nodes l.body)
      (λ d t v i. let lt = greater_at (m ∷ ms) first k l h e v (t v i) in behind m ms first v (omega arith))
      (in-node standing_at (nodes l.body)))

  free_at : (ms : List LambdaTree) (first k n : ℕ) (l : LambdaTree) → n ≡ first + k → InnerAreGreater first ms →
      slice_get ms k ≡ Some l →
      lambdas_free set ms first n ≡ lambda_free (lambdas_free set ms first) (added_to set n) l
  free_at [] first k n l q h e = cc
  free_at (m ∷ ms) first zero n l q h e =
      rw (eq-eqb first n (omega arith))
      (ap (lambda_free (lambdas_free set ms (suc first)) (added_to set n)) (same_Some m l e)
      ∙ ap (without (parameters l ++ added_to set n)) (same_behind m ms first 0 l h e))
  free_at (m ∷ ms) first (suc k) n l q h e =
      rw (ne_eqb first n (λ z. omega arith))
      (free_at ms (suc first) k n l (omega arith) h.1 e
      ∙ ap (without (parameters l ++ added_to set n)) (same_behind m ms first (suc k) l h e))

-- the free variables of a lambda expression are those of its body but its parameters
pub free-of-lambda : (p : ProgramTree) (n : ℕ) (l : LambdaTree) → InnerAreGreater 0 p.lambdas → IsLambda p n l →
    inner_free p n ≡ lambda_free (inner_free p) (added_to p.set n) l
free-of-lambda p n l h e = free_at p.set p.lambdas 0 n n l (omega arith) h e
