-- In a program that keeps its rules each variable that is assigned is named in the body in which it is bound.
use Rattle.std.proofs.Common.{◌≡◌, refl, sym, ap, ◌∙◌, subst, ℕ, zero, suc, ◌<◌, ◌≤◌, ◌⊎◌, inl, inr, ⊎_elim, arith, true, false, List, [], ◌∷◌, ◌++◌, length, Some, slice_get}
use Rattle.std.proofs.lemmas.Bool.{cases_Bool, cases_lt}
use Rattle.std.proofs.lemmas.Option.{same_Some}
use Rattle.tb_semantics.specs.Graph.{IsIn, IsApart}
use Rattle.tb_core.specs.Tree.{Tree, Node, Form, Quote, Local, Global, Lambda, If, SetLocal, SetGlobal, DefGlobal, Let, Letrec, Seq, Call, PrimUse, Apply, Trees, none, more, LambdaTree, ProgramTree, parameters}
use Rattle.tb_core.specs.FreeVariables.{is_in, free, inner_free, is_assigned, targets, targets_all, targets_of_lambdas}
use Rattle.tb_core.specs.Rules.{Each, EachForm, EachAll, KeepsRules, bound, bound_all, bound_in_lambdas, inner_all, standing}
use Rattle.tb_core.proofs.Members.{in-left, in-right, in-either, in-tested, in-without}
use Rattle.tb_core.proofs.Numbers.{free-of-lambda}
use Rattle.tb_assign.proofs.Free.{celled-in, absent-not}
use Rattle.tb_assign.proofs.Scoped.{apart-left, apart-right}
use Rattle.tb_assign.proofs.Named.{UsesHere, occurs, occurs_all, part, part_all, apart-both}
use Rattle.tb_assign.proofs.InnerSmall.{lambda-bound, within-lambdas, no-lambda}
use Rattle.tb_assign.proofs.ReadyFrom.{AssignedAreNamed, UsesAssigned, each-then, all-then}

abbrev own : LambdaTree → List ℕ
own l = parameters l ++ bound l.body

not_later : (ls : List LambdaTree) (m : LambdaTree) (b : ℕ) (k : LambdaTree) (x : ℕ) →
    IsApart (parameters m ++ (bound m.body ++ bound_in_lambdas ls)) → slice_get ls b ≡ Some k → IsIn x (own m) →
    IsIn x (own k) → ⊥
not_later ls m b k x h f i j =
    let far = lambda-bound ls b k x f j in
    ⊎_elim
    (λ a. apart-both (parameters m) _ x h a (in-right x (bound m.body) _ far))
    (λ a. apart-both (bound m.body) _ x (apart-right (parameters m) _ h) a far)
    (in-either x (parameters m) _ i)

-- a variable of two lambda expressions is one of one of them alone
same_owner : (ls : List LambdaTree) (a b : ℕ) (l k : LambdaTree) (x : ℕ) → IsApart (bound_in_lambdas ls) →
    slice_get ls a ≡ Some l → slice_get ls b ≡ Some k → IsIn x (own l) → IsIn x (own k) → a ≡ b
same_owner [] a b l k x h e f i j = cc
same_owner (m ∷ ls) zero zero l k x h e f i j = refl
same_owner (m ∷ ls) zero (suc b) l k x h e f i j = absurd
    (not_later ls m b k x h f (subst (λ a. IsIn x (own a)) (sym (same_Some m l e)) i) j)
same_owner (m ∷ ls) (suc a) zero l k x h e f i j = absurd
    (not_later ls m a l x h e (subst (λ z. IsIn x (own z)) (sym (same_Some m k f)) j) i)
same_owner (m ∷ ls) (suc a) (suc b) l k x h e f i j = ap suc
    (same_owner ls a b l k x (apart-right (bound m.body) _ (apart-right (parameters m) _ h)) e f i j)

targets_at : (ls : List LambdaTree) (x : ℕ) → IsIn x (targets_of_lambdas ls) →
    (n : ℕ) × (l : LambdaTree) × (slice_get ls n ≡ Some l) × IsIn x (targets l.body)
targets_at [] x i = absurd i
targets_at (l ∷ ls) x i = ⊎_elim (λ j. (0, l, refl, j)) (λ j. let k = targets_at ls x j in (suc k.0, k.1, k.2, k.3))
    (in-either x (targets l.body) _ i)

module _ (p : ProgramTree) (rules : KeepsRules p) (x : ℕ) where
  abbrev I : ℕ → List ℕ
  I = inner_free p

  -- a body that does not bind the variable, and names it, is one inside another that does
  outward : (m : ℕ) (l : LambdaTree) → slice_get p.lambdas m ≡ Some l → IsIn x (free I l.body) →
      IsIn x (parameters l) ⊎ IsIn x (I m)
  outward m l e i = ⊎_elim (λ t. inl (in-tested (parameters l) x t))
      (λ f. inr (subst (IsIn x) (sym (free-of-lambda p m l rules.inner_greater e))
      (in-without (parameters l) (free I l.body) x i f))) (cases_Bool (is_in (parameters l) x))

  lambdas_apart : IsApart (bound_in_lambdas p.lambdas)
  lambdas_apart = apart-right (bound_all p.forms) _ rules.bound_once

  in_variables : (m : ℕ) (l : LambdaTree) → slice_get p.lambdas m ≡ Some l → IsIn x (own l) →
      IsIn x (bound_in_lambdas p.lambdas)
  in_variables m l e i = lambda-bound p.lambdas m l x e i

  -- what is free in a lambda expression occurs in the forms, where they bind it
  occurs_in_forms : IsIn x (bound_all p.forms) → (b n : ℕ) → n < b → IsIn x (I n) → IsIn x (occurs_all I x p.forms)
  occurs_in_forms home zero n lt i = absurd (omega arith)
  occurs_in_forms home (suc b) n lt i =
      ⊎_elim
      (λ inside.
      ⊎_elim
      (λ j. (part_all I x p.forms).inner_occurs n j i)
      (λ j. let k = within-lambdas p.lambdas 0 n rules.inner_greater j in
      let less = k.4 in
      let away : IsIn x (own k.1) →
      ⊥ = λ o. apart-both (bound_all p.forms) _ x rules.bound_once home (in_variables k.0 k.1 k.2 o) in
      ⊎_elim
      (λ f. ⊎_elim (λ a. absurd (away (in-left x (parameters k.1) _ a)))
      (λ a. occurs_in_forms home b k.0 (omega arith) a) (outward k.0 k.1 k.2 f))
      (λ a. absurd (away (in-right x (parameters k.1) _ a)))
      ((part I x (k.1).body).named_or_bound ((part I x (k.1).body).inner_occurs n k.3 i)))
      (in-either n (inner_all p.forms) _ (in-tested (standing p) n (rules.lambdas_at_least_once n inside))))
      (λ out. absurd (subst (IsIn x) (no-lambda p.lambdas 0 n (omega arith)) i))
      (cases_lt n (length p.lambdas))

  -- or in the lambda expression that binds it
  module _ (m : ℕ) (l : LambdaTree) (known : slice_get p.lambdas m ≡ Some l) (home : IsIn x (own l)) where
    not_in_forms : IsIn x (bound_all p.forms) → ⊥
    not_in_forms i = apart-both (bound_all p.forms) _ x rules.bound_once i (in_variables m l known home)

    -- what occurs in another lambda expression is free in it
    found : (n : ℕ) (k : LambdaTree) → slice_get p.lambdas n ≡ Some k → IsIn x (occurs I x k.body) →
        ((j : ℕ) → j ≡ n → IsIn x (I j) → IsIn x (occurs I x l.body)) → IsIn x (occurs I x l.body)
    found n k e i then =
        ⊎_elim
        (λ o. let same = same_owner p.lambdas n m k l x lambdas_apart e known o home in
        let z : k ≡ l = same_Some k l (sym e ∙ ap (slice_get p.lambdas) same ∙ known) in subst
        (λ a. IsIn x (occurs I x a.body)) z i)
        (λ a. then n refl a)
        (⊎_elim (λ f. ⊎_elim (λ a. inl (in-left x (parameters k) _ a)) inr (outward n k e f))
        (λ a. inl (in-right x (parameters k) _ a)) ((part I x k.body).named_or_bound i))

    occurs_in_body : (b n : ℕ) → n < b → IsIn x (I n) → IsIn x (occurs I x l.body)
    occurs_in_body zero n lt i = absurd (omega arith)
    occurs_in_body (suc b) n lt i =
        ⊎_elim
        (λ inside.
        ⊎_elim
        (λ j. absurd
        (⊎_elim (λ f. subst (IsIn x) rules.in_scope f) not_in_forms
        ((part_all I x p.forms).named_or_bound ((part_all I x p.forms).inner_occurs n j i))))
        (λ j. let k = within-lambdas p.lambdas 0 n rules.inner_greater j in
        let less = k.4 in
        found k.0 k.1 k.2 ((part I x (k.1).body).inner_occurs n k.3 i) (λ a e r. occurs_in_body b a (omega arith) r))
        (in-either n (inner_all p.forms) _ (in-tested (standing p) n (rules.lambdas_at_least_once n inside))))
        (λ out. absurd (subst (IsIn x) (no-lambda p.lambdas 0 n (omega arith)) i))
        (cases_lt n (length p.lambdas))

    assigned_occurs : is_assigned p x ≡ true → IsIn x (occurs I x l.body)
    assigned_occurs g =
        ⊎_elim
        (λ i. absurd
        (⊎_elim (λ f. subst (IsIn x) rules.in_scope f) not_in_forms
        ((part_all I x p.forms).named_or_bound ((part_all I x p.forms).assigned_occurs i))))
        (λ i. let k = targets_at p.lambdas x i in found k.0 k.1 k.2 ((part I x (k.1).body).assigned_occurs k.3)
        (λ a e r. occurs_in_body (suc a) a (omega arith) r))
        (in-either x (targets_all p.forms) _ (in-tested (targets_all p.forms ++ targets_of_lambdas p.lambdas) x g))

  assigned_in_forms : IsIn x (bound_all p.forms) → is_assigned p x ≡ true → IsIn x (occurs_all I x p.forms)
  assigned_in_forms home g =
      ⊎_elim
      (λ i. (part_all I x p.forms).assigned_occurs i)
      (λ i. let k = targets_at p.lambdas x i in
      let away : IsIn x (own k.1) →
      ⊥ = λ o. apart-both (bound_all p.forms) _ x rules.bound_once home (in_variables k.0 k.1 k.2 o) in
      ⊎_elim
      (λ f. ⊎_elim (λ a. absurd (away (in-left x (parameters k.1) _ a)))
      (λ a. occurs_in_forms home (suc k.0) k.0 (omega arith) a) (outward k.0 k.1 k.2 f))
      (λ a. absurd (away (in-right x (parameters k.1) _ a)))
      ((part I x (k.1).body).named_or_bound ((part I x (k.1).body).assigned_occurs k.3)))
      (in-either x (targets_all p.forms) _ (in-tested (targets_all p.forms ++ targets_of_lambdas p.lambdas) x g))

  own_apart : (ls : List LambdaTree) (m : ℕ) (l : LambdaTree) → slice_get ls m ≡ Some l →
      IsApart (bound_in_lambdas ls) → IsApart (own l)
  own_apart [] m l e h = cc
  own_apart (k ∷ ls) zero l e h = subst (λ a. IsApart (own a)) (same_Some k l e) (front (parameters k) h)
    where
      front : (ys : List ℕ) → IsApart (ys ++ (bound k.body ++ bound_in_lambdas ls)) → IsApart (ys ++ bound k.body)
      front [] h = apart-left (bound k.body) _ h
      front (y ∷ ys) h = (
        λ i. h.0 (⊎_elim (in-left y ys _) (λ j. in-right y ys _ (in-left y (bound k.body) _ j))
            (in-either y ys _ i)),
        front ys h.1,
      )
  own_apart (k ∷ ls) (suc m) l e h = own_apart ls m l e (apart-right (bound k.body) _ (apart-right (parameters k) _ h))

  uses_forms : is_assigned p x ≡ true → EachAll (UsesHere I x) p.forms
  uses_forms g =
      ⊎_elim
      (λ t. let home = in-tested (bound_all p.forms) x t in (part_all I x p.forms).uses
      (apart-left (bound_all p.forms) _ rules.bound_once) home (assigned_in_forms home g)
      (λ f. subst (IsIn x) rules.in_scope f))
      (λ n. (part_all I x p.forms).unbound (λ i. away n i))
      (cases_Bool (is_in (bound_all p.forms) x))
    where
      away : is_in (bound_all p.forms) x ≡ false → IsIn x (bound_all p.forms) → ⊥
      away n i = absent-not (bound_all p.forms) x n i

  uses_body : (m : ℕ) (l : LambdaTree) → slice_get p.lambdas m ≡ Some l → is_assigned p x ≡ true →
      Each (UsesHere I x) l.body
  uses_body m l e g =
      ⊎_elim
      (λ t. let b = in-tested (bound l.body) x t in
      let home : IsIn x (own l) = in-right x (parameters l) _ b in
      (part I x l.body).uses (apart-right (parameters l) _ (own_apart p.lambdas m l e lambdas_apart)) b
      (assigned_occurs m l e home g) (λ f. not_free m l e b f))
      (λ n. (part I x l.body).unbound (λ i. absent-not (bound l.body) x n i))
      (cases_Bool (is_in (bound l.body) x))
    where
      not_inner : (m : ℕ) (l : LambdaTree) → slice_get p.lambdas m ≡ Some l → IsIn x (own l) → (b n : ℕ) → n < b →
          n ≤ m → IsIn x (I n) → ⊥
      not_inner m l e home zero n lt le i = absurd (omega arith)
      not_inner m l e home (suc b) n lt le i =
          ⊎_elim
          (λ inside.
          ⊎_elim
          (λ j. ⊎_elim (λ f. subst (IsIn x) rules.in_scope f) (not_in_forms m l e home)
          ((part_all I x p.forms).named_or_bound ((part_all I x p.forms).inner_occurs n j i)))
          (λ j. let k = within-lambdas p.lambdas 0 n rules.inner_greater j in
          let less = k.4 in
          let clash : IsIn x (own k.1) →
          ⊥ = λ o. let same = same_owner p.lambdas k.0 m k.1 l x lambdas_apart k.2 e o home in absurd
          (omega arith) in
          ⊎_elim
          (λ f. ⊎_elim (λ a. clash (in-left x (parameters k.1) _ a))
          (λ a. not_inner m l e home b k.0 (omega arith) (omega arith) a) (outward k.0 k.1 k.2 f))
          (λ a. clash (in-right x (parameters k.1) _ a))
          ((part I x (k.1).body).named_or_bound ((part I x (k.1).body).inner_occurs n k.3 i)))
          (in-either n (inner_all p.forms) _ (in-tested (standing p) n (rules.lambdas_at_least_once n inside))))
          (λ out. absurd (subst (IsIn x) (no-lambda p.lambdas 0 n (omega arith)) i))
          (cases_lt n (length p.lambdas))

      not_free : (m : ℕ) (l : LambdaTree) → slice_get p.lambdas m ≡ Some l → IsIn x (bound l.body) →
          IsIn x (free I l.body) → ⊥
      not_free m l e b f =
          ⊎_elim
          (λ a. apart-both (parameters l) _ x (own_apart p.lambdas m l e lambdas_apart) a b)
          (λ a. not_inner m l e (in-right x (parameters l) _ b) (suc m) m (omega arith) (omega arith) a)
          (outward m l e f)

  parameter_named : (m : ℕ) (l : LambdaTree) → slice_get p.lambdas m ≡ Some l → IsIn x (parameters l) →
      is_assigned p x ≡ true → IsIn x (free I l.body)
  parameter_named m l e i g =
      ⊎_elim
      (λ f. f)
      (λ b. absurd (apart-both (parameters l) _ x (own_apart p.lambdas m l e lambdas_apart) i b))
      ((part I x l.body).named_or_bound (assigned_occurs m l e (in-left x (parameters l) _ i) g))

-- what holds for each variable that is assigned holds of each node
module _ (Q : ℕ → Type 0) (W : ℕ → ℕ → Form → Type 0) where
  abbrev Whenever : ℕ → Form → Type 0
  Whenever s f = (x : ℕ) → Q x → W x s f

  mutual
    for_each : (e : Tree) → ((x : ℕ) → Q x → Each (W x) e) → Each Whenever e
    for_each (Node p s f) h = (λ x q. (h x q).0, for_form f (λ x q. (h x q).1))

    for_form : (f : Form) → ((x : ℕ) → Q x → EachForm (W x) f) → EachForm Whenever f
    for_form (Quote c) h = tt
    for_form (Local y) h = tt
    for_form (Global n) h = tt
    for_form (Lambda l) h = tt
    for_form (If a b c) h =
        (for_each a (λ x q. (h x q).0), for_each b (λ x q. (h x q).1), for_each c (λ x q. (h x q).2))
    for_form (SetLocal y e) h = for_each e h
    for_form (SetGlobal n e) h = for_each e h
    for_form (DefGlobal n e) h = for_each e h
    for_form (Let xs es e) h = (for_all es (λ x q. (h x q).0), for_each e (λ x q. (h x q).1))
    for_form (Letrec xs ls e) h = for_each e h
    for_form (Seq es) h = for_all es h
    for_form (Call f es) h = (for_each f (λ x q. (h x q).0), for_all es (λ x q. (h x q).1))
    for_form (PrimUse p es) h = for_all es h
    for_form (Apply f l) h = (for_each f (λ x q. (h x q).0), for_each l (λ x q. (h x q).1))

    for_all : (es : Trees) → ((x : ℕ) → Q x → EachAll (W x) es) → EachAll Whenever es
    for_all none h = tt
    for_all (more e es) h = (for_each e (λ x q. (h x q).0), for_all es (λ x q. (h x q).1))

module _ (p : ProgramTree) (rules : KeepsRules p) where
  abbrev IsSet : ℕ → Type 0
  IsSet x = is_assigned p x ≡ true

  uses : (s : ℕ) (f : Form) → ((x : ℕ) → IsSet x → UsesHere (inner_free p) x s f) → UsesAssigned p f
  uses s (Let xs es e) h = λ x i. let m = celled-in (is_assigned p) xs x i in h x m.1 m.0
  uses s (Quote c) h = tt
  uses s (Local y) h = tt
  uses s (Global n) h = tt
  uses s (Lambda l) h = tt
  uses s (If a b c) h = tt
  uses s (SetLocal y e) h = tt
  uses s (SetGlobal n e) h = tt
  uses s (DefGlobal n e) h = tt
  uses s (Letrec xs ls e) h = tt
  uses s (Seq es) h = tt
  uses s (Call f es) h = tt
  uses s (PrimUse q es) h = tt
  uses s (Apply f l) h = tt

  pub all-named : AssignedAreNamed p
  all-named = record {
    forms = all-then (λ s f. (x : ℕ) → IsSet x → UsesHere (inner_free p) x s f)
        (λ s f. UsesAssigned p f) uses p.forms
        (for_all IsSet (UsesHere (inner_free p)) p.forms (λ x g. uses_forms p rules x g));
    bodies = λ n l e. each-then (λ s f. (x : ℕ) → IsSet x → UsesHere (inner_free p) x s f)
        (λ s f. UsesAssigned p f) uses l.body
        (for_each IsSet (UsesHere (inner_free p)) l.body (λ x g. uses_body p rules x n l e g));
    parameters_named = λ n l e x i. let m = celled-in (is_assigned p)
        (parameters l) x i in parameter_named p rules x n l e m.0 m.1;
  }
