-- A variable that is assigned is named in the body in which it is bound.
use Rattle.std.proofs.Common.{sym, subst, ℕ, ◌⊎◌, inl, inr, ⊎_elim, List, [], ◌∷◌, ◌++◌}
use Rattle.std.proofs.lemmas.Bool.{cases_Bool}
use Rattle.tb_semantics.specs.Graph.{IsIn, IsApart}
use Rattle.tb_core.specs.Tree.{Tree, Node, Form, Quote, Local, Global, Lambda, If, SetLocal, SetGlobal, DefGlobal, Let, Letrec, Seq, Call, PrimUse, Apply, Trees, none, more}
use Rattle.tb_core.specs.FreeVariables.{is_in, without, of_lambdas, free, free_form, free_all, targets, targets_form, targets_all}
use Rattle.tb_core.specs.Rules.{Each, EachForm, EachAll, bound, bound_form, bound_all, inner, inner_form, inner_all}
use Rattle.tb_core.proofs.Members.{in-left, in-right, in-either, in-tested, in-without}
use Rattle.tb_assign.proofs.Scoped.{apart-left, apart-right}

pub apart-both : (xs ys : List ℕ) (x : ℕ) → IsApart (xs ++ ys) → IsIn x xs → IsIn x ys → ⊥
apart-both [] ys x h i j = absurd i
apart-both (z ∷ xs) ys x h (inl e) j = h.0 (in-right z xs ys (subst (λ a. IsIn a ys) (sym e) j))
apart-both (z ∷ xs) ys x h (inr i) j = apart-both xs ys x h.1 i j

-- two lists in the other order before a third
swap : (xs bs cs : List ℕ) (y : ℕ) → IsIn y (bs ++ (xs ++ cs)) → IsIn y (xs ++ (bs ++ cs))
swap xs bs cs y i = ⊎_elim (λ j. in-right y xs _ (in-left y bs cs j))
    (λ j. ⊎_elim (in-left y xs _) (λ k. in-right y xs _ (in-right y bs cs k)) (in-either y xs cs j))
    (in-either y bs _ i)

back : (xs bs cs : List ℕ) (y : ℕ) → IsIn y (xs ++ (bs ++ cs)) → IsIn y (bs ++ (xs ++ cs))
back xs bs cs y i = swap bs xs cs y i

swap_apart : (xs bs cs : List ℕ) → IsApart (xs ++ (bs ++ cs)) → IsApart (bs ++ (xs ++ cs))
swap_apart xs [] cs h = h
swap_apart xs (b ∷ bs) cs h = (λ i. first_out xs h (swap xs bs cs b i), swap_apart xs bs cs (rest xs h))
  where
    rest : (ys : List ℕ) → IsApart (ys ++ (b ∷ (bs ++ cs))) → IsApart (ys ++ (bs ++ cs))
    rest [] k = k.1
    rest (y ∷ ys) k =
        (λ i. k.0 (⊎_elim (in-left y ys _) (λ j. in-right y ys _ (inr j)) (in-either y ys _ i)), rest ys k.1)

    first_out : (ys : List ℕ) → IsApart (ys ++ (b ∷ (bs ++ cs))) → IsIn b (ys ++ (bs ++ cs)) → ⊥
    first_out [] k i = k.0 i
    first_out (y ∷ ys) k (inl e) = k.0 (in-right y ys _ (inl (sym e)))
    first_out (y ∷ ys) k (inr i) = first_out ys k.1 i

module _ (I : ℕ → List ℕ) (x : ℕ) where
  -- where the variable is bound by a `let`, the body names it
  abbrev pub UsesHere : ℕ → Form → Type 0
  UsesHere s (Let xs es e) = IsIn x xs → IsIn x (free I e)
  UsesHere s f = Unit {0}

  -- a part of a program: the lambda expressions in it, what it assigns, all that occurs in it, what it names, what
  -- it binds, and that its binders use the variable
  pub record Part (ls ts os ns bs : List ℕ) (U : Type 0) : Type 0 where
    pub assigned_occurs : IsIn x ts → IsIn x os
    pub inner_occurs : (n : ℕ) → IsIn n ls → IsIn x (I n) → IsIn x os
    pub named_or_bound : IsIn x os → IsIn x ns ⊎ IsIn x bs
    pub uses : IsApart bs → IsIn x bs → IsIn x os → (IsIn x ns → ⊥) → U
    pub unbound : (IsIn x bs → ⊥) → U

  leaf : (os : List ℕ) → Part [] [] os os [] (Unit {0})
  leaf os = record { assigned_occurs = λ i. absurd i; inner_occurs = λ n i j. absurd i; named_or_bound = inl; uses = λ a i j k. tt; unbound = λ k. tt }

  pair : {ls ls' ts ts' os os' ns ns' bs bs' : List ℕ} {U V : Type 0} → Part ls ts os ns bs U →
      Part ls' ts' os' ns' bs' V → Part (ls ++ ls') (ts ++ ts') (os ++ os') (ns ++ ns') (bs ++ bs') (U × V)
  pair {ls} {ls'} {ts} {ts'} {os} {os'} {ns} {ns'} {bs} {bs'} a b = record {
    assigned_occurs = λ i. ⊎_elim (λ j. in-left x os os' (a.assigned_occurs j))
        (λ j. in-right x os os' (b.assigned_occurs j)) (in-either x ts ts' i);
    inner_occurs = λ n i j. ⊎_elim (λ k. in-left x os os' (a.inner_occurs n k j))
        (λ k. in-right x os os' (b.inner_occurs n k j)) (in-either n ls ls' i);
    named_or_bound = λ i.
        ⊎_elim
        (λ j. ⊎_elim (λ k. inl (in-left x ns ns' k)) (λ k. inr (in-left x bs bs' k)) (a.named_or_bound j))
        (λ j. ⊎_elim (λ k. inl (in-right x ns ns' k)) (λ k. inr (in-right x bs bs' k)) (b.named_or_bound j))
        (in-either x os os' i);
    uses = λ h i o far.
        ⊎_elim
        (λ j. let away : IsIn x bs' → ⊥ = λ k. apart-both bs bs' x h j k in
        let there : IsIn x os = ⊎_elim (λ k. k)
        (λ k. absurd (⊎_elim (λ m. far (in-right x ns ns' m)) away (b.named_or_bound k)))
        (in-either x os os' o) in
        (a.uses (apart-left bs bs' h) j there (λ m. far (in-left x ns ns' m)), b.unbound away))
        (λ j. let away : IsIn x bs → ⊥ = λ k. apart-both bs bs' x h k j in
        let there : IsIn x os' = ⊎_elim
        (λ k. absurd (⊎_elim (λ m. far (in-left x ns ns' m)) away (a.named_or_bound k))) (λ k. k)
        (in-either x os os' o) in
        (a.unbound away, b.uses (apart-right bs bs' h) j there (λ m. far (in-right x ns ns' m))))
        (in-either x bs bs' i);
    unbound = λ far. (a.unbound (λ i. far (in-left x bs bs' i)), b.unbound (λ i. far (in-right x bs bs' i)));
  }

  -- a binder round a part
  under : {ls ts os ns bs : List ℕ} {U : Type 0} (xs : List ℕ) → Part ls ts os ns bs U →
      Part ls ts os (without xs ns) (xs ++ bs) ((IsIn x xs → IsIn x ns) × U)
  under {ls} {ts} {os} {ns} {bs} xs a = record {
    assigned_occurs = a.assigned_occurs;
    inner_occurs = a.inner_occurs;
    named_or_bound = λ i. ⊎_elim
        (λ j. ⊎_elim (λ t. inr (in-left x xs bs (in-tested xs x t))) (λ f. inl (in-without xs ns x j f))
        (cases_Bool (is_in xs x)))
        (λ j. inr (in-right x xs bs j))
        (a.named_or_bound i);
    uses = λ h i o far.
        ⊎_elim
        (λ j. let away : IsIn x bs →
        ⊥ = λ k. apart-both xs bs x h j k in
        (λ k. ⊎_elim (λ m. m) (λ m. absurd (away m)) (a.named_or_bound o), a.unbound away))
        (λ j. let away : IsIn x xs → ⊥ = λ k. apart-both xs bs x h k j in (
          λ k. absurd (away k),
          a.uses (apart-right xs bs h) j o
              (λ m. ⊎_elim (λ t. absurd (away (in-tested xs x t))) (λ f. far (in-without xs ns x m f))
              (cases_Bool (is_in xs x))),
        ))
        (in-either x xs bs i);
    unbound = λ far. (λ k. absurd (far (in-left x xs bs k)), a.unbound (λ i. far (in-right x xs bs i)));
  }

  -- the same part, that says something else of its binders
  as_well : {ls ts os ns bs : List ℕ} {U V : Type 0} → (U → V) → Part ls ts os ns bs U → Part ls ts os ns bs V
  as_well f a = record { assigned_occurs = a.assigned_occurs; inner_occurs = a.inner_occurs; named_or_bound = a.named_or_bound; uses = λ h i o k. f (a.uses h i o k); unbound = λ k. f (a.unbound k) }

  abbrev mutual
    -- all that occurs in an expression, bound or not
    pub occurs : Tree → List ℕ
    occurs (Node p s f) = occurs_form f

    pub occurs_form : Form → List ℕ
    occurs_form (Quote c) = []
    occurs_form (Local y) = y ∷ []
    occurs_form (Global g) = []
    occurs_form (Lambda l) = I l
    occurs_form (If a b c) = occurs a ++ (occurs b ++ occurs c)
    occurs_form (SetLocal y e) = y ∷ occurs e
    occurs_form (SetGlobal g e) = occurs e
    occurs_form (DefGlobal g e) = occurs e
    occurs_form (Let xs es e) = occurs_all es ++ occurs e
    occurs_form (Letrec xs ls e) = of_lambdas I ls ++ occurs e
    occurs_form (Seq es) = occurs_all es
    occurs_form (Call f es) = occurs f ++ occurs_all es
    occurs_form (PrimUse p es) = occurs_all es
    occurs_form (Apply f l) = occurs f ++ occurs l

    pub occurs_all : Trees → List ℕ
    occurs_all none = []
    occurs_all (more e es) = occurs e ++ occurs_all es

  group : (ls : List ℕ) → Part ls [] (of_lambdas I ls) (of_lambdas I ls) [] (Unit {0})
  group ls = record { assigned_occurs = λ i. absurd i; inner_occurs = λ n i j. stands ls n i j; named_or_bound = inl; uses = λ a i j k. tt; unbound = λ k. tt }
    where
      stands : (ls : List ℕ) (n : ℕ) → IsIn n ls → IsIn x (I n) → IsIn x (of_lambdas I ls)
      stands [] n i j = absurd i
      stands (l ∷ ls) n (inl e) j = in-left x (I l) _ (subst (λ m. IsIn x (I m)) (sym e) j)
      stands (l ∷ ls) n (inr i) j = in-right x (I l) _ (stands ls n i j)

  one_lambda : (l : ℕ) → Part (l ∷ []) [] (I l) (I l) [] (Unit {0})
  one_lambda l = record {
    assigned_occurs = λ i. absurd i;
    inner_occurs = λ n i j. ⊎_elim
        (λ e. subst (λ m. IsIn x (I m)) (sym e) j)
        (λ k. absurd k) i;
    named_or_bound = inl;
    uses = λ a i j k. tt;
    unbound = λ k. tt;
  }

  one_set : (y : ℕ) → Part [] (y ∷ []) (y ∷ []) (y ∷ []) [] (Unit {0})
  one_set y = record { assigned_occurs = λ i. i; inner_occurs = λ n i j. absurd i; named_or_bound = inl; uses = λ a i j k. tt; unbound = λ k. tt }

  -- the binders of a `let` stand before those of its operands
  let_part : (s : ℕ) (xs : List ℕ) (es : Trees) (e : Tree) →
      Part (inner_all es) (targets_all es) (occurs_all es) (free_all I es) (bound_all es) (EachAll UsesHere es) →
      Part (inner e) (targets e) (occurs e) (free I e) (bound e) (Each UsesHere e) →
      Part (inner_form (Let xs es e)) (targets_form (Let xs es e)) (occurs_form (Let xs es e))
      (free_form I (Let xs es e)) (bound_form (Let xs es e))
      (UsesHere s (Let xs es e) × EachForm UsesHere (Let xs es e))
  let_part s xs es e a b =
      let c = pair a (under xs b) in
      record {
        assigned_occurs = c.assigned_occurs;
        inner_occurs = c.inner_occurs;
        named_or_bound = λ i. ⊎_elim inl (λ j. inr (swap xs (bound_all es) (bound e) x j)) (c.named_or_bound i);
        uses = λ h i o far. let u = c.uses (swap_apart xs (bound_all es) (bound e) h)
            (back xs (bound_all es) (bound e) x i) o far in ((u.1).0, (u.0, (u.1).1));
        unbound = λ far. let u = c.unbound (λ i. far (swap xs (bound_all es) (bound e) x i)) in
            ((u.1).0, (u.0, (u.1).1));
      }

  mutual
    pub part : (e : Tree) → Part (inner e) (targets e) (occurs e) (free I e) (bound e) (Each UsesHere e)
    part (Node p s f) = part_form s f

    part_form : (s : ℕ) (f : Form) →
        Part (inner_form f) (targets_form f) (occurs_form f) (free_form I f) (bound_form f)
        (UsesHere s f × EachForm UsesHere f)
    part_form s (Quote c) = as_well (λ u. (tt, tt)) (leaf [])
    part_form s (Local y) = as_well (λ u. (tt, tt)) (leaf (y ∷ []))
    part_form s (Global g) = as_well (λ u. (tt, tt)) (leaf [])
    part_form s (Lambda l) = as_well (λ u. (tt, tt)) (one_lambda l)
    part_form s (If a b c) = as_well (λ u. (tt, (u.0, (u.1).0, (u.1).1))) (pair (part a) (pair (part b) (part c)))
    part_form s (SetLocal y e) = as_well (λ u. (tt, u.1)) (pair (one_set y) (part e))
    part_form s (SetGlobal g e) = as_well (λ u. (tt, u)) (part e)
    part_form s (DefGlobal g e) = as_well (λ u. (tt, u)) (part e)
    part_form s (Let xs es e) = let_part s xs es e (part_all es) (part e)
    part_form s (Letrec xs ls e) = as_well (λ u. (tt, (u.1).1)) (under xs (pair (group ls) (part e)))
    part_form s (Seq es) = as_well (λ u. (tt, u)) (part_all es)
    part_form s (Call f es) = as_well (λ u. (tt, u)) (pair (part f) (part_all es))
    part_form s (PrimUse p es) = as_well (λ u. (tt, u)) (part_all es)
    part_form s (Apply f l) = as_well (λ u. (tt, u)) (pair (part f) (part l))

    pub part_all : (es : Trees) →
        Part (inner_all es) (targets_all es) (occurs_all es) (free_all I es) (bound_all es) (EachAll UsesHere es)
    part_all none = as_well (λ u. tt) (leaf [])
    part_all (more e es) = as_well (λ u. u) (pair (part e) (part_all es))
