-- No variable is bound where it is named from outside: the variables of a `let` are not free in its operands, and those of
-- a lambda expression or a `letrec` are bound nowhere around it.
use Rattle.std.proofs.Common.{◌≡◌, refl, sym, ◌∙◌, subst, ℕ, zero, suc, ◌<◌, ◌⊎◌, inl, inr, ⊎_elim, arith, true, false, cond, not, List, [], ◌∷◌, ◌++◌, Some, slice_get, append_assoc}
use Rattle.std.proofs.lemmas.Bool.{cases_Bool}
use Rattle.std.proofs.lemmas.Option.{same_Some}
use Rattle.tb_semantics.specs.Graph.{IsIn, IsApart}
use Rattle.tb_core.specs.Tree.{Tree, Node, Form, Quote, Local, Global, Lambda, If, SetLocal, SetGlobal, DefGlobal, Let, Letrec, Seq, Call, PrimUse, Apply, Trees, none, more, LambdaTree, ProgramTree, parameters}
use Rattle.tb_core.specs.FreeVariables.{is_in, without, of_lambdas, free, free_form, free_all, inner_free}
use Rattle.tb_core.specs.Rules.{Each, EachForm, EachAll, KeepsRules, bound, bound_form, bound_all, bound_in_lambdas, inner, inner_form, inner_all, standing}
use Rattle.tb_core.proofs.Members.{in-left, in-right, in-either, in-tested, tested-in, in-without}
use Rattle.tb_core.proofs.Numbers.{free-of-lambda, greater-at, around, within}

-- what is left out of a list is not in it
pub without-out : (xs ys : List ℕ) (y : ℕ) → IsIn y (without xs ys) → IsIn y xs → ⊥
without-out xs [] y i j = absurd i
without-out xs (z ∷ ys) y i j =
    (elim (is_in xs z) as (λ b. is_in xs z ≡ b → IsIn y (cond (not b) (z ∷ without xs ys) (without xs ys)) → ⊥) [
      | true ↦ λ e k. without-out xs ys y k j
      | false ↦ λ e k. ⊎_elim
          (λ q. let t = tested-in xs z (subst (λ v. IsIn v xs) (sym q) j) in let f : false ≡ true = sym e ∙ t in cc)
          (λ k. without-out xs ys y k j) k
    ])
    refl i

apart-left : (xs ys : List ℕ) → IsApart (xs ++ ys) → IsApart xs
apart-left [] ys h = tt
apart-left (x ∷ xs) ys h = (λ i. h.0 (in-left x xs ys i), apart-left xs ys h.1)

apart-right : (xs ys : List ℕ) → IsApart (xs ++ ys) → IsApart ys
apart-right [] ys h = h
apart-right (x ∷ xs) ys h = apart-right xs ys h.1

apart-both : (xs ys : List ℕ) (y : ℕ) → IsApart (xs ++ ys) → IsIn y xs → IsIn y ys → ⊥
apart-both [] ys y h i j = absurd i
apart-both (x ∷ xs) ys y h (inl e) j = h.0 (in-right x xs ys (subst (λ v. IsIn v ys) (sym e) j))
apart-both (x ∷ xs) ys y h (inr i) j = apart-both xs ys y h.1 i j

-- the variables of a `let` are apart and not free in its operands, and those of a `letrec` are apart
abbrev pub Binds : (ℕ → List ℕ) → ℕ → Form → Type 0
Binds I s (Let xs es e) = IsApart xs × ((y : ℕ) → IsIn y xs → IsIn y (free_all I es) → ⊥)
Binds I s (Letrec xs ls e) = IsApart xs
Binds I s _ = Unit {0}

-- what is free is not bound within, and what is bound is bound once
record Scoped (named held : List ℕ) : Type 0 where
  outside : (y : ℕ) → IsIn y named → IsIn y held → ⊥
  once : IsApart held

scoped_left : (ns ms bs cs : List ℕ) → Scoped (ns ++ ms) (bs ++ cs) → Scoped ns bs
scoped_left ns ms bs cs h = record { outside = λ y i j. h.outside y (in-left y ns ms i) (in-left y bs cs j); once = apart-left bs cs h.once }

scoped_right : (ns ms bs cs : List ℕ) → Scoped (ns ++ ms) (bs ++ cs) → Scoped ms cs
scoped_right ns ms bs cs h = record { outside = λ y i j. h.outside y (in-right y ns ms i) (in-right y bs cs j); once = apart-right bs cs h.once }

scoped_under : (xs ns bs : List ℕ) → Scoped (without xs ns) (xs ++ bs) → Scoped ns bs
scoped_under xs ns bs h = record {
  outside = λ y i j. ⊎_elim (λ t. apart-both xs bs y h.once (in-tested xs y t) j)
      (λ f. h.outside y (in-without xs ns y i f) (in-right y xs bs j)) (cases_Bool (is_in xs y));
  once = apart-right xs bs h.once;
}

module _ (I : ℕ → List ℕ) where
  mutual
    binds : (e : Tree) → Scoped (free I e) (bound e) → Each (Binds I) e
    binds (Node p s f) h = (binds_own s f h, binds_form f h)

    binds_own : (s : ℕ) (f : Form) → Scoped (free_form I f) (bound_form f) → Binds I s f
    binds_own s (Let xs es e) h = (apart-left xs _ h.once, λ y i j. h.outside y (in-left y (free_all I es) _ j) (in-left y xs _ i))
    binds_own s (Letrec xs ls e) h = apart-left xs _ h.once
    binds_own s _ h = tt

    binds_form : (f : Form) → Scoped (free_form I f) (bound_form f) → EachForm (Binds I) f
    binds_form (Quote c) h = tt
    binds_form (Local x) h = tt
    binds_form (Global g) h = tt
    binds_form (Lambda l) h = tt
    binds_form (If a b c) h =
        let r = scoped_right (free I a) _ (bound a) _ h in
        (binds a (scoped_left (free I a) _ (bound a) _ h), binds b (scoped_left (free I b) _ (bound b) _ r), binds c (scoped_right (free I b) _ (bound b) _ r))
    binds_form (SetLocal x e) h = binds e (scoped_right (x ∷ []) _ [] _ h)
    binds_form (SetGlobal g e) h = binds e h
    binds_form (DefGlobal g e) h = binds e h
    binds_form (Let xs es e) h = (
      binds_all es (record {
        outside = λ y i j. h.outside y (in-left y (free_all I es) _ i) (in-right y xs _ (in-left y (bound_all es) _ j));
        once = apart-left (bound_all es) _ (apart-right xs _ h.once);
      }),
      binds e (record {
        outside = λ y i j. ⊎_elim
            (λ t. apart-both xs _ y h.once (in-tested xs y t) (in-right y (bound_all es) _ j))
            (λ f. h.outside y (in-right y (free_all I es) _ (in-without xs (free I e) y i f)) (in-right y xs _ (in-right y (bound_all es) _ j)))
            (cases_Bool (is_in xs y));
        once = apart-right (bound_all es) _ (apart-right xs _ h.once);
      }),
    )
    binds_form (Letrec xs ls e) h = binds e (scoped_right (of_lambdas I ls) _ [] _ (scoped_under xs (of_lambdas I ls ++ free I e) (bound e) h))
    binds_form (Seq es) h = binds_all es h
    binds_form (Call f es) h = (binds f (scoped_left (free I f) _ (bound f) _ h), binds_all es (scoped_right (free I f) _ (bound f) _ h))
    binds_form (PrimUse q es) h = binds_all es h
    binds_form (Apply f l) h = (binds f (scoped_left (free I f) _ (bound f) _ h), binds l (scoped_right (free I f) _ (bound f) _ h))

    binds_all : (es : Trees) → Scoped (free_all I es) (bound_all es) → EachAll (Binds I) es
    binds_all none h = tt
    binds_all (more e es) h = (binds e (scoped_left (free I e) _ (bound e) _ h), binds_all es (scoped_right (free I e) _ (bound e) _ h))

-- what a lambda expression names that stands in an expression is named by that, or bound in it
module _ (I : ℕ → List ℕ) (n y : ℕ) (named : IsIn y (I n)) where
  abbrev Held : List ℕ → List ℕ → Type 0
  Held ns bs = IsIn y ns ⊎ IsIn y bs

  held_left : (ns ms bs cs : List ℕ) → Held ns bs → Held (ns ++ ms) (bs ++ cs)
  held_left ns ms bs cs = ⊎_elim (λ i. inl (in-left y ns ms i)) (λ i. inr (in-left y bs cs i))

  held_right : (ns ms bs cs : List ℕ) → Held ms cs → Held (ns ++ ms) (bs ++ cs)
  held_right ns ms bs cs = ⊎_elim (λ i. inl (in-right y ns ms i)) (λ i. inr (in-right y bs cs i))

  held_under : (xs ns bs : List ℕ) → Held ns bs → Held (without xs ns) (xs ++ bs)
  held_under xs ns bs = ⊎_elim
      (λ i. ⊎_elim (λ t. inr (in-left y xs bs (in-tested xs y t))) (λ f. inl (in-without xs ns y i f)) (cases_Bool (is_in xs y)))
      (λ i. inr (in-right y xs bs i))

  held_two : (ns ms bs cs is js : List ℕ) → (IsIn n is → Held ns bs) → (IsIn n js → Held ms cs) → IsIn n (is ++ js) →
      Held (ns ++ ms) (bs ++ cs)
  held_two ns ms bs cs is js f g i = ⊎_elim (λ j. held_left ns ms bs cs (f j)) (λ j. held_right ns ms bs cs (g j)) (in-either n is js i)

  held_group : (ls : List ℕ) → IsIn n ls → Held (of_lambdas I ls) []
  held_group [] i = absurd i
  held_group (l ∷ ls) (inl e) = inl (in-left y (I l) _ (subst (λ m. IsIn y (I m)) (sym e) named))
  held_group (l ∷ ls) (inr i) = held_right (I l) _ [] [] (held_group ls i)

  mutual
    pub held-tree : (e : Tree) → IsIn n (inner e) → IsIn y (free I e) ⊎ IsIn y (bound e)
    held-tree (Node p s f) i = held_form f i

    held_form : (f : Form) → IsIn n (inner_form f) → Held (free_form I f) (bound_form f)
    held_form (Quote c) i = absurd i
    held_form (Local x) i = absurd i
    held_form (Global g) i = absurd i
    held_form (Lambda l) i = ⊎_elim (λ e. inl (subst (λ m. IsIn y (I m)) (sym e) named)) (λ j. absurd j) i
    held_form (If a b c) i =
        held_two (free I a) _ (bound a) _ (inner a) _ (held-tree a)
        (held_two (free I b) _ (bound b) _ (inner b) _ (held-tree b) (held-tree c)) i
    held_form (SetLocal x e) i = ⊎_elim (λ j. inl (inr j)) inr (held-tree e i)
    held_form (SetGlobal g e) i = held-tree e i
    held_form (DefGlobal g e) i = held-tree e i
    held_form (Let xs es e) i = ⊎_elim
        (λ j. ⊎_elim (λ m. inl (in-left y (free_all I es) _ m)) (λ m. inr (in-right y xs _ (in-left y (bound_all es) _ m))) (held-trees es j))
        (λ j. ⊎_elim (λ m. inl (in-right y (free_all I es) _ m))
        (λ m. ⊎_elim (λ a. inr (in-left y xs _ a)) (λ a. inr (in-right y xs _ (in-right y (bound_all es) _ a))) (in-either y xs _ m))
        (held_under xs (free I e) (bound e) (held-tree e j)))
        (in-either n (inner_all es) _ i)
    held_form (Letrec xs ls e) i =
        held_under xs (of_lambdas I ls ++ free I e) (bound e) (held_two (of_lambdas I ls) _ [] _ ls _ (held_group ls) (held-tree e) i)
    held_form (Seq es) i = held-trees es i
    held_form (Call f es) i = held_two (free I f) _ (bound f) _ (inner f) _ (held-tree f) (held-trees es) i
    held_form (PrimUse p es) i = held-trees es i
    held_form (Apply f l) i = held_two (free I f) _ (bound f) _ (inner f) _ (held-tree f) (held-tree l) i

    pub held-trees : (es : Trees) → IsIn n (inner_all es) → IsIn y (free_all I es) ⊎ IsIn y (bound_all es)
    held-trees none i = absurd i
    held-trees (more e es) i = held_two (free I e) _ (bound e) _ (inner e) _ (held-tree e) (held-trees es) i

-- the variables that a lambda expression binds, and those of all
abbrev own : LambdaTree → List ℕ
own l = parameters l ++ bound l.body

regrouped : (l : LambdaTree) (ls : List LambdaTree) → own l ++ bound_in_lambdas ls ≡ bound_in_lambdas (l ∷ ls)
regrouped l ls = append_assoc (parameters l) (bound l.body) (bound_in_lambdas ls)

others_apart : (l : LambdaTree) (ls : List LambdaTree) → IsApart (bound_in_lambdas (l ∷ ls)) →
    IsApart (own l ++ bound_in_lambdas ls)
others_apart l ls h = subst IsApart (sym (regrouped l ls)) h

own_apart : (ls : List LambdaTree) (m : ℕ) (l : LambdaTree) → slice_get ls m ≡ Some l → IsApart (bound_in_lambdas ls) →
    IsApart (own l)
own_apart [] m l e h = cc
own_apart (k ∷ ls) zero l e h = subst (λ a. IsApart (own a)) (same_Some k l e) (apart-left (own k) _ (others_apart k ls h))
own_apart (k ∷ ls) (suc m) l e h = own_apart ls m l e (apart-right (own k) _ (others_apart k ls h))

own_bound : (ls : List LambdaTree) (m : ℕ) (l : LambdaTree) (y : ℕ) → slice_get ls m ≡ Some l → IsIn y (own l) →
    IsIn y (bound_in_lambdas ls)
own_bound [] m l y e i = cc
own_bound (k ∷ ls) zero l y e i =
    subst (IsIn y) (regrouped k ls) (in-left y (own k) _ (subst (λ a. IsIn y (own a)) (sym (same_Some k l e)) i))
own_bound (k ∷ ls) (suc m) l y e i = subst (IsIn y) (regrouped k ls) (in-right y (own k) _ (own_bound ls m l y e i))

-- those of an earlier one and those of a later one are apart
own_other : (ls : List LambdaTree) (j m : ℕ) (k l : LambdaTree) (y : ℕ) → j < m → slice_get ls j ≡ Some k →
    slice_get ls m ≡ Some l →
    IsApart (bound_in_lambdas ls) → IsIn y (own k) → IsIn y (own l) → ⊥
own_other [] j m k l y lt e q h i g = cc
own_other (a ∷ ls) j zero k l y lt e q h i g = absurd (omega arith)
own_other (a ∷ ls) zero (suc m) k l y lt e q h i g =
    apart-both (own a) _ y (others_apart a ls h) (subst (λ v. IsIn y (own v)) (sym (same_Some a k e)) i) (own_bound ls m l y q g)
own_other (a ∷ ls) (suc j) (suc m) k l y lt e q h i g =
    own_other ls j m k l y (omega arith) e q (apart-right (own a) _ (others_apart a ls h)) i g

module _ (p : ProgramTree) (rules : KeepsRules p) where
  abbrev I : ℕ → List ℕ
  I = inner_free p

  -- a variable of an earlier lambda expression
  record Earlier (m y : ℕ) : Type 0 where
    number : ℕ
    less : number < m
    lambda : LambdaTree
    known : slice_get p.lambdas number ≡ Some lambda
    bound_there : IsIn y (own lambda)

  -- what a lambda expression names is bound by a form or by an earlier lambda expression
  bound_before : (b m : ℕ) (l : LambdaTree) (y : ℕ) → m < b → slice_get p.lambdas m ≡ Some l → IsIn y (I m) →
      IsIn y (bound_all p.forms) ⊎ Earlier m y
  bound_before zero m l y lt e i = absurd (omega arith)
  bound_before (suc b) m l y lt e i =
      ⊎_elim
      (λ j. ⊎_elim (λ f. absurd (subst (IsIn y) rules.in_scope f)) inl (held-trees I m y i p.forms j))
      (λ j.
      let a = around p.lambdas m j in
      let less = greater-at p.lambdas 0 a.0 a.1 rules.inner_greater a.2 m a.3 in
      let here : IsIn y (own a.1) → Earlier m y = λ o. record { number = a.0; less = omega arith; lambda = a.1; known = a.2; bound_there = o } in
      ⊎_elim
      (λ f. ⊎_elim
      (λ t. inr (here (in-left y (parameters a.1) _ (in-tested (parameters a.1) y t))))
      (λ o. ⊎_elim inl
      (λ (q : Earlier a.0 y). let below = q.less in inr (record { number = q.number; less = omega arith; lambda = q.lambda; known = q.known; bound_there = q.bound_there }))
      (bound_before b a.0 a.1 y (omega arith) a.2
      (subst (IsIn y) (sym (free-of-lambda p a.0 a.1 rules.inner_greater a.2)) (in-without (parameters a.1) (free I (a.1).body) y f o))))
      (cases_Bool (is_in (parameters a.1) y)))
      (λ o. inr (here (in-right y (parameters a.1) _ o)))
      (held-tree I m y i (a.1).body a.3))
      (in-either m (inner_all p.forms) _ (in-tested (standing p) m (rules.lambdas_at_least_once m (within p.lambdas m l e))))

  lambdas_apart : IsApart (bound_in_lambdas p.lambdas)
  lambdas_apart = apart-right (bound_all p.forms) _ rules.bound_once

  -- so it is not bound in it
  not_own : (m : ℕ) (l : LambdaTree) (y : ℕ) → slice_get p.lambdas m ≡ Some l → IsIn y (I m) → IsIn y (own l) → ⊥
  not_own m l y e i j =
      ⊎_elim
      (λ f. apart-both (bound_all p.forms) _ y rules.bound_once f (own_bound p.lambdas m l y e j))
      (λ (q : Earlier m y). own_other p.lambdas q.number m q.lambda l y q.less q.known e lambdas_apart q.bound_there j)
      (bound_before (suc m) m l y (omega arith) e i)

  pub forms-bind : EachAll (Binds I) p.forms
  forms-bind = binds_all I p.forms (record {
    outside = λ y i j. subst (IsIn y) rules.in_scope i;
    once = apart-left (bound_all p.forms) _ rules.bound_once;
  })

  pub parameters-apart : (m : ℕ) (l : LambdaTree) → slice_get p.lambdas m ≡ Some l → IsApart (parameters l)
  parameters-apart m l e = apart-left (parameters l) _ (own_apart p.lambdas m l e lambdas_apart)

  pub body-binds : (m : ℕ) (l : LambdaTree) → slice_get p.lambdas m ≡ Some l → Each (Binds I) l.body
  body-binds m l e =
      let all = own_apart p.lambdas m l e lambdas_apart in
      binds I l.body (record {
        outside = λ y i j. ⊎_elim
            (λ t. apart-both (parameters l) _ y all (in-tested (parameters l) y t) j)
            (λ f. not_own m l y e
            (subst (IsIn y) (sym (free-of-lambda p m l rules.inner_greater e)) (in-without (parameters l) (free I l.body) y i f))
            (in-right y (parameters l) _ j))
            (cases_Bool (is_in (parameters l) y));
        once = apart-right (parameters l) _ all;
      })
