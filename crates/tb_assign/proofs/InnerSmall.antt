-- The free variables of lambda expressions are variables of the program.
use Rattle.std.proofs.Common.{◌≡◌, refl, sym, ap, ◌∙◌, subst, ℕ, zero, suc, ◌+◌, ◌^◌, ◌<◌, ◌≤◌, ◌⊎◌, inl, inr, ⊎_elim, arith, false, cond, ◌==◌, List, [], ◌∷◌, ◌++◌, length, Some, slice_get, eqb-true}
use Rattle.std.proofs.lemmas.Bool.{cases_Bool, cases_lt}
use Rattle.std.proofs.lemmas.Option.{same_Some}
use Rattle.tb_semantics.specs.Graph.{IsIn}
use Rattle.tb_core.specs.Tree.{Tree, Node, Form, Quote, Local, Global, Lambda, If, SetLocal, SetGlobal, DefGlobal, Let, Letrec, Seq, Call, PrimUse, Apply, Trees, none, more, LambdaTree, ProgramTree, parameters}
use Rattle.tb_core.specs.FreeVariables.{is_in, without, of_lambdas, free, free_form, free_all, inner_free, lambda_free, lambdas_free}
use Rattle.tb_core.specs.Rules.{Every, KeepsRules, bound, bound_form, bound_all, bound_in_lambdas, variables, inner, inner_form, inner_all, inner_of_lambdas, standing, InnerAreGreater}
use Rattle.tb_core.proofs.Members.{in-left, in-right, in-either, in-tested, in-without}
use Rattle.tb_core.proofs.Numbers.{free-of-lambda}
use Rattle.tb_assign.proofs.Free.{AreSmall}

-- what is named in a lambda expression inside another expression is named by that, or bound in it
module _ (I : ℕ → List ℕ) (n y : ℕ) (named : IsIn y (I n)) where
  abbrev Held : List ℕ → List ℕ → Type 0
  Held ns bs = IsIn y ns ⊎ IsIn y bs

  held_left : (ns ms bs cs : List ℕ) → Held ns bs → Held (ns ++ ms) (bs ++ cs)
  held_left ns ms bs cs = ⊎_elim (λ i. inl (in-left y ns ms i)) (λ i. inr (in-left y bs cs i))

  held_right : (ns ms bs cs : List ℕ) → Held ms cs → Held (ns ++ ms) (bs ++ cs)
  held_right ns ms bs cs = ⊎_elim (λ i. inl (in-right y ns ms i)) (λ i. inr (in-right y bs cs i))

  held_under : (xs ns bs : List ℕ) → Held ns bs → Held (without xs ns) (xs ++ bs)
  held_under xs ns bs = ⊎_elim
      (λ i. ⊎_elim (λ t. inr (in-left y xs bs (in-tested xs y t))) (λ f. inl (in-without xs ns y i f))
      (cases_Bool (is_in xs y)))
      (λ i. inr (in-right y xs bs i))

  in_group : (ls : List ℕ) → IsIn n ls → IsIn y (of_lambdas I ls)
  in_group [] i = absurd i
  in_group (l ∷ ls) (inl e) = in-left y (I l) _ (subst (λ m. IsIn y (I m)) (sym e) named)
  in_group (l ∷ ls) (inr i) = in-right y (I l) _ (in_group ls i)

  mutual
    held_in : (e : Tree) → IsIn n (inner e) → Held (free I e) (bound e)
    held_in (Node p s f) i = held_form f i

    held_form : (f : Form) → IsIn n (inner_form f) → Held (free_form I f) (bound_form f)
    held_form (Quote c) i = absurd i
    held_form (Local x) i = absurd i
    held_form (Global g) i = absurd i
    held_form (Lambda l) i = ⊎_elim (λ e. inl (subst (λ m. IsIn y (I m)) (sym e) named)) (λ j. absurd j) i
    held_form (If a b c) i =
        ⊎_elim (λ j. held_left (free I a) _ (bound a) _ (held_in a j))
        (λ j. held_right (free I a) _ (bound a) _
        (⊎_elim (λ m. held_left (free I b) _ (bound b) _ (held_in b m))
        (λ m. held_right (free I b) _ (bound b) _ (held_in c m)) (in-either n (inner b) _ j)))
        (in-either n (inner a) _ i)
    held_form (SetLocal x e) i = ⊎_elim (λ j. inl (inr j)) inr (held_in e i)
    held_form (SetGlobal g e) i = held_in e i
    held_form (DefGlobal g e) i = held_in e i
    held_form (Let xs es e) i =
        ⊎_elim
        (λ j. ⊎_elim (λ m. inl (in-left y (free_all I es) _ m))
        (λ m. inr (in-right y xs _ (in-left y (bound_all es) _ m))) (held_all es j))
        (λ j. ⊎_elim (λ m. inl (in-right y (free_all I es) _ m))
        (λ m. ⊎_elim (λ a. inr (in-left y xs _ a)) (λ a. inr (in-right y xs _ (in-right y (bound_all es) _ a)))
        (in-either y xs _ m)) (held_under xs (free I e) (bound e) (held_in e j)))
        (in-either n (inner_all es) _ i)
    held_form (Letrec xs ls e) i =
        held_under xs (of_lambdas I ls ++ free I e) (bound e)
        (⊎_elim (λ j. inl (in-left y (of_lambdas I ls) _ (in_group ls j)))
        (λ j. ⊎_elim (λ m. inl (in-right y (of_lambdas I ls) _ m)) inr (held_in e j)) (in-either n ls _ i))
    held_form (Seq es) i = held_all es i
    held_form (Call f es) i = ⊎_elim (λ j. held_left (free I f) _ (bound f) _ (held_in f j))
        (λ j. held_right (free I f) _ (bound f) _ (held_all es j)) (in-either n (inner f) _ i)
    held_form (PrimUse p es) i = held_all es i
    held_form (Apply f l) i = ⊎_elim (λ j. held_left (free I f) _ (bound f) _ (held_in f j))
        (λ j. held_right (free I f) _ (bound f) _ (held_in l j)) (in-either n (inner f) _ i)

    held_all : (es : Trees) → IsIn n (inner_all es) → Held (free_all I es) (bound_all es)
    held_all none i = absurd i
    held_all (more e es) i = ⊎_elim (λ j. held_left (free I e) _ (bound e) _ (held_in e j))
        (λ j. held_right (free I e) _ (bound e) _ (held_all es j)) (in-either n (inner e) _ i)

  pub held-tree : (e : Tree) → IsIn n (inner e) → IsIn y (free I e) ⊎ IsIn y (bound e)
  held-tree e i = held_in e i

  pub held-trees : (es : Trees) → IsIn n (inner_all es) → IsIn y (free_all I es) ⊎ IsIn y (bound_all es)
  held-trees es i = held_all es i

-- the lambda expression in which another stands
pub within-lambdas : (ls : List LambdaTree) (first n : ℕ) → InnerAreGreater first ls → IsIn n (inner_of_lambdas ls) →
    (m : ℕ) × (l : LambdaTree) × (slice_get ls m ≡ Some l) × IsIn n (inner l.body) × (first + m < n)
within-lambdas [] first n h i = absurd i
within-lambdas (l ∷ ls) first n h i =
    ⊎_elim
    (λ j. (0, l, refl, j, less (inner l.body) j h.0))
    (λ j. let k = within-lambdas ls (suc first) n h.1 j in (suc k.0, k.1, k.2, k.3, omega (arith, k.4)))
    (in-either n (inner l.body) _ i)
  where
    less : (xs : List ℕ) → IsIn n xs → Every (λ m. first < m) xs → first + 0 < n
    less [] j k = absurd j
    less (x ∷ xs) (inl e) k = let lt = k.0 in omega arith
    less (x ∷ xs) (inr j) k = less xs j k.1

-- the variables of a lambda expression are those of the program
pub lambda-bound : (ls : List LambdaTree) (m : ℕ) (l : LambdaTree) (y : ℕ) → slice_get ls m ≡ Some l →
    IsIn y (parameters l ++ bound l.body) → IsIn y (bound_in_lambdas ls)
lambda-bound [] m l y e i = cc
lambda-bound (k ∷ ls) zero l y e i =
    let j = subst (λ a. IsIn y (parameters a ++ bound a.body)) (sym (same_Some k l e)) i in
    ⊎_elim (in-left y (parameters k) _) (λ b. in-right y (parameters k) _ (in-left y (bound k.body) _ b))
    (in-either y (parameters k) _ j)
lambda-bound (k ∷ ls) (suc m) l y e i = in-right y (parameters k) _
    (in-right y (bound k.body) _ (lambda-bound ls m l y e i))

pub no-lambda : (ls : List LambdaTree) (first l : ℕ) → length ls + first ≤ l → lambdas_free ls first l ≡ []
no-lambda [] first l h = refl
no-lambda (m ∷ ms) first l h =
    let other : (first == l) ≡ false = ⊎_elim (λ s. let z = eqb-true first l s in absurd (omega arith)) (λ n. n)
    (cases_Bool (first == l)) in
    ap (λ b. cond b (lambda_free (lambdas_free ms (suc first)) m) (lambdas_free ms (suc first) l)) other
    ∙ no-lambda ms (suc first) l (omega arith)

every_at : (P : ℕ → Type 0) (xs : List ℕ) (x : ℕ) → Every P xs → IsIn x xs → P x
every_at P [] x h i = absurd i
every_at P (y ∷ xs) x h (inl e) = subst P e h.0
every_at P (y ∷ xs) x h (inr i) = every_at P xs x h.1 i

module _ (p : ProgramTree) (rules : KeepsRules p) where
  pub variable-small : (y : ℕ) → IsIn y (variables p) → y < 2 ^ 24
  variable-small y i = every_at (λ x. x < 2 ^ 24) (variables p) y rules.small_variables i

  of_lambda : (m : ℕ) (l : LambdaTree) (y : ℕ) → slice_get p.lambdas m ≡ Some l →
      IsIn y (parameters l ++ bound l.body) → IsIn y (variables p)
  of_lambda m l y e i = in-right y (bound_all p.forms) _ (lambda-bound p.lambdas m l y e i)

  known_below : (b n : ℕ) → n < b → (y : ℕ) → IsIn y (inner_free p n) → IsIn y (variables p)
  known_below zero n lt y i = absurd (omega arith)
  known_below (suc b) n lt y i =
      ⊎_elim
      (λ inside.
      let stands = in-tested (standing p) n (rules.lambdas_at_least_once n inside) in
      ⊎_elim
      (λ j. ⊎_elim (λ f. absurd (subst (IsIn y) rules.in_scope f))
      (λ m. in-left y (bound_all p.forms) _ m) (held-trees (inner_free p) n y i p.forms j))
      (λ j. let k = within-lambdas p.lambdas 0 n rules.inner_greater j in
      let less = k.4 in
      ⊎_elim
      (λ f. ⊎_elim
      (λ t. of_lambda k.0 k.1 y k.2 (in-left y (parameters k.1) _ (in-tested (parameters k.1) y t)))
      (λ o. known_below b k.0 (omega arith) y
      (subst (IsIn y) (sym (free-of-lambda p k.0 k.1 rules.inner_greater k.2))
      (in-without (parameters k.1) (free (inner_free p) (k.1).body) y f o)))
      (cases_Bool (is_in (parameters k.1) y)))
      (λ m. of_lambda k.0 k.1 y k.2 (in-right y (parameters k.1) _ m))
      (held-tree (inner_free p) n y i (k.1).body k.3))
      (in-either n (inner_all p.forms) _ stands))
      (λ out. absurd (subst (IsIn y) (no-lambda p.lambdas 0 n (omega arith)) i))
      (cases_lt n (length p.lambdas))

  pub inner-small : (n : ℕ) → AreSmall (inner_free p n)
  inner-small n y i = variable-small y (known_below (suc n) n (omega arith) y i)

  -- what the body of a lambda expression names
  pub body-known : (m : ℕ) (l : LambdaTree) → slice_get p.lambdas m ≡ Some l → (y : ℕ) →
      IsIn y (free (inner_free p) l.body) → IsIn y (variables p)
  body-known m l e y i =
      ⊎_elim
      (λ t. of_lambda m l y e (in-left y (parameters l) _ (in-tested (parameters l) y t)))
      (λ o. known_below (suc m) m (omega arith) y
      (subst (IsIn y) (sym (free-of-lambda p m l rules.inner_greater e))
      (in-without (parameters l) (free (inner_free p) l.body) y i o)))
      (cases_Bool (is_in (parameters l) y))

  pub body-small : (m : ℕ) (l : LambdaTree) → slice_get p.lambdas m ≡ Some l → AreSmall (free (inner_free p) l.body)
  body-small m l e y i = variable-small y (body-known m l e y i)
