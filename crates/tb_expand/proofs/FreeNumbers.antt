-- A numbered program of nodes that are closed has no free variables.
use Rattle.std.proofs.Common.{◌≡◌, refl, sym, ap, subst, ◌∙◌, ℕ, ◌+◌, inl, inr, ⊎_elim, arith, not, Bool, true, false, cond, List, [], ◌∷◌, ◌++◌, length, Option, Some, None}
use Rattle.std.proofs.lemmas.List.{map-append}
use Rattle.std.proofs.lemmas.Bool.{or_cases}
use Rattle.tb_prim.specs.declared.place.Place.{Place}
use Rattle.tb_semantics.specs.Graph.{IsIn}
use Rattle.tb_core.specs.Tree as core
use Rattle.tb_core.specs.Tree.{LambdaTree, parameters}
use Rattle.tb_core.specs.FreeVariables.{is_in, without, of_lambdas, free, free_form, free_all, lambda_free, lambdas_free, inner_free}
use Rattle.tb_core.proofs.Members.{in-either, tested-in, without-sub}
use Rattle.tb_expand.specs.Shapes.{option_list}
use Rattle.tb_expand.specs.Trees.{Var, same_var, Node, At, Core, Constant, Unspecified, Undefined, Local, Global, Lambda, If, SetLocal, SetGlobal, DefGlobal, Let, Letrec, Seq, Call, PrimUse, Apply, Nodes, nil, cons, is_lambda}
use Rattle.tb_expand.specs.Numbers.{Tables, Before, variable_number, variable_numbers, option_number, closures_in, lambda_numbers, behind_node, behind_nodes, behind_values, one_node, one_closure, numbered, numbered_in, numbered_all, numbered_lambda, lambdas_of, lambdas_in, lambdas_of_all, lambdas_of_values, tables_of, none_before, program_of}
use Rattle.tb_expand.specs.WellShaped.{AreLambdas, HasShape, HasShapeIn, HaveShape}
use Rattle.tb_expand.specs.Closed.{is_bound, IsClosed, IsClosedIn, AreClosed}
use Rattle.tb_expand.proofs.FirstOccurrences.{same_var_true}
use Rattle.tb_expand.proofs.LambdaLookups.{Agrees, agrees_left, agrees_right, opened, whole}
use Rattle.tb_expand.proofs.StandingNumbers.{lambdas_counted, counted_in, all_counted, values_counted}

-- numbers that are all among others
abbrev Among : List ℕ → List ℕ → Type 0
Among xs zs = (n : ℕ) → IsIn n zs → IsIn n xs

among_joined : (xs zs ws : List ℕ) → Among xs zs → Among xs ws → Among xs (zs ++ ws)
among_joined xs zs ws h k n i = ⊎_elim (h n) (k n) (in-either n zs ws i)

not_first : (xs ys : List ℕ) (z y : ℕ) (b : Bool) → is_in xs z ≡ b → IsIn y xs → (IsIn y (without xs ys) → ⊥) → IsIn y (cond (not b) (z ∷ without xs ys) (without xs ys)) → ⊥
not_first xs ys z y true e j rest k = rest k
not_first xs ys z y false e j rest (inl q) = let t : is_in xs z ≡ true = ap (is_in xs) q ∙ tested-in xs y j in cc
not_first xs ys z y false e j rest (inr k) = rest k

without_not : (xs ys : List ℕ) (y : ℕ) → IsIn y (without xs ys) → IsIn y xs → ⊥
without_not xs [] y i j = absurd i
without_not xs (z ∷ ys) y i j = not_first xs ys z y (is_in xs z) refl j (λ k. without_not xs ys y k j) i

among_without : (xs ys zs : List ℕ) → Among (ys ++ xs) zs → Among xs (without ys zs)
among_without xs ys zs h n i = ⊎_elim (λ j. absurd (without_not ys zs n i j)) (λ j. j) (in-either n ys xs (h n (without-sub ys zs n i)))

among_none : (zs : List ℕ) → Among [] zs → zs ≡ []
among_none [] h = refl
among_none (z ∷ zs) h = absurd (h z (inl refl))

module _ (t : Tables) where
  -- the numbers of variables
  abbrev numbers : List Var → List ℕ
  numbers xs = variable_numbers t xs

  number_in : (x : Var) (xs : List Var) → is_bound xs x ≡ true → IsIn (variable_number t x) (numbers xs)
  number_in x [] h = cc
  number_in x (y ∷ xs) h = ⊎_elim (λ k. inl (sym (ap (variable_number t) (same_var_true x y k)))) (λ k. inr (number_in x xs k)) (or_cases (same_var x y) (is_bound xs x) h)

  among_number : (x : Var) (xs : List Var) → is_bound xs x ≡ true → Among (numbers xs) (variable_number t x ∷ [])
  among_number x xs h n (inl e) = subst (λ k. IsIn k (numbers xs)) e (number_in x xs h)
  among_number x xs h n (inr i) = absurd i

  among_bound : (ys xs : List Var) (zs : List ℕ) → Among (numbers (ys ++ xs)) zs → Among (numbers xs) (without (numbers ys) zs)
  among_bound ys xs zs h = among_without (numbers xs) (numbers ys) zs (subst (λ v. Among v zs) (map-append (variable_number t) ys xs) h)

  option_numbered : (r : Option Var) → core.option_list (option_number t r) ≡ numbers (option_list r)
  option_numbered None = refl
  option_numbered (Some x) = refl

  parameters_numbered : (xs : List Var) (r : Option Var) → numbers xs ++ core.option_list (option_number t r) ≡ numbers (xs ++ option_list r)
  parameters_numbered xs r = ap (λ v. numbers xs ++ v) (option_numbered r) ∙ sym (map-append (variable_number t) xs (option_list r))

  abbrev own : (ℕ → List ℕ) → LambdaTree → List ℕ
  own inner l = lambda_free inner l

  abbrev looked : List LambdaTree → ℕ → ℕ → List ℕ
  looked ls first l = lambdas_free ls first l

  abbrev Looks : (ℕ → List ℕ) → ℕ → List LambdaTree → Type 0
  Looks inner first ls = Agrees own looked (λ m ms first l. refl) inner first ls

  left : (inner : ℕ → List ℕ) (first : ℕ) (ls ms : List LambdaTree) → Looks inner first (ls ++ ms) → Looks inner first ls
  left inner first ls ms k = agrees_left own looked (λ m ms first l. refl) inner first ls ms k

  right : (inner : ℕ → List ℕ) (first n : ℕ) (ls ms : List LambdaTree) → n ≡ first + length ls → Looks inner first (ls ++ ms) → Looks inner n ms
  right inner first n ls ms q k = agrees_right own looked (λ m ms first l. refl) inner first n ls ms q k

  value_free : (b : Before) (inner : ℕ → List ℕ) (p : Place) (c : Core) → is_lambda (At p c) ≡ true → free_form inner (numbered_in t b c) ≡ inner b.closures
  value_free b inner p (Lambda xs r e) h = refl
  value_free b inner p c h = absurd cc

  mutual
    node_free : (b : Before) (e : Node) (inner : ℕ → List ℕ) (xs : List Var) → HasShape e → IsClosed xs e → Looks inner b.closures (lambdas_of t b e) → Among (numbers xs) (free inner (numbered t b e))
    node_free b (At p c) inner xs h o k = form_free (one_node b) p c inner xs h o k

    form_free : (b : Before) (p : Place) (c : Core) (inner : ℕ → List ℕ) (xs : List Var) → HasShapeIn c → IsClosedIn xs c → Looks inner b.closures (lambdas_in t b p c) → Among (numbers xs) (free_form inner (numbered_in t b c))
    form_free b p (Constant s) inner xs h o k = λ n i. absurd i
    form_free b p Unspecified inner xs h o k = λ n i. absurd i
    form_free b p Undefined inner xs h o k = λ n i. absurd i
    form_free b p (Local v) inner xs h o k = among_number v xs o
    form_free b p (Global g) inner xs h o k = λ n i. absurd i
    form_free b p (Lambda ys r e) inner xs h o k =
        let l = opened own looked (λ m ms first l. refl) inner b.closures (b.closures + 1) (numbered_lambda t (one_closure b) p ys r e) (lambdas_of t (one_closure b) e) refl k in
        let i = node_free (one_closure b) e l.behind ((ys ++ option_list r) ++ xs) h o l.agrees in
        let j = among_bound (ys ++ option_list r) xs (free l.behind (numbered t (one_closure b) e)) i in
        let q : without (numbers (ys ++ option_list r)) (free l.behind (numbered t (one_closure b) e)) ≡ inner b.closures =
        ap (λ v. without v (free l.behind (numbered t (one_closure b) e))) (sym (parameters_numbered ys r)) ∙ sym l.first_is in
        subst (Among (numbers xs)) q j
    form_free b p (If c d e) inner xs h o k =
        let b2 = behind_node b c in
        let b3 = behind_node b2 d in
        let lc = lambdas_of t b c in
        let ld = lambdas_of t b2 d in
        let le = lambdas_of t b3 e in
        let kr = right inner b.closures b2.closures lc (ld ++ le) (ap (λ n. b.closures + n) (sym (lambdas_counted t b c))) k in
        among_joined (numbers xs) _ _ (node_free b c inner xs h.0 o.0 (left inner b.closures lc (ld ++ le) k))
        (among_joined (numbers xs) _ _ (node_free b2 d inner xs h.1 o.1 (left inner b2.closures ld le kr))
        (node_free b3 e inner xs h.2 o.2 (right inner b2.closures b3.closures ld le (ap (λ n. b2.closures + n) (sym (lambdas_counted t b2 d))) kr)))
    form_free b p (SetLocal v e) inner xs h o k = among_joined (numbers xs) (variable_number t v ∷ []) _ (among_number v xs o.0) (node_free b e inner xs h o.1 k)
    form_free b p (SetGlobal g v e) inner xs h o k = node_free b e inner xs h o k
    form_free b p (DefGlobal g e) inner xs h o k = node_free b e inner xs h o k
    form_free b p (Let ys es e) inner xs h o k =
        let b2 = behind_nodes b es in
        among_joined (numbers xs) _ _ (all_free b es inner xs h.1 o.0 (left inner b.closures (lambdas_of_all t b es) (lambdas_of t b2 e) k))
        (among_bound ys xs _ (node_free b2 e inner (ys ++ xs) h.2 o.1 (right inner b.closures b2.closures (lambdas_of_all t b es) (lambdas_of t b2 e) (ap (λ n. b.closures + n) (sym (all_counted t b es))) k)))
    form_free b p (Letrec ys es e) inner xs h o k =
        let b2 = behind_values b es in
        among_bound ys xs _ (among_joined (numbers (ys ++ xs)) _ _ (values_free b es inner (ys ++ xs) h.1 h.2 o.0 (left inner b.closures (lambdas_of_values t b es) (lambdas_of t b2 e) k))
        (node_free b2 e inner (ys ++ xs) h.3 o.1 (right inner b.closures b2.closures (lambdas_of_values t b es) (lambdas_of t b2 e) (ap (λ n. b.closures + n) (sym (values_counted t b es))) k)))
    form_free b p (Seq es) inner xs h o k = all_free b es inner xs h.1 o k
    form_free b p (Call f es) inner xs h o k =
        let b2 = behind_node b f in
        among_joined (numbers xs) _ _ (node_free b f inner xs h.0 o.0 (left inner b.closures (lambdas_of t b f) (lambdas_of_all t b2 es) k))
        (all_free b2 es inner xs h.1 o.1 (right inner b.closures b2.closures (lambdas_of t b f) (lambdas_of_all t b2 es) (ap (λ n. b.closures + n) (sym (lambdas_counted t b f))) k))
    form_free b p (PrimUse g es) inner xs h o k = all_free b es inner xs h.1 o k
    form_free b p (Apply f l) inner xs h o k =
        let b2 = behind_node b f in
        among_joined (numbers xs) _ _ (node_free b f inner xs h.0 o.0 (left inner b.closures (lambdas_of t b f) (lambdas_of t b2 l) k))
        (node_free b2 l inner xs h.1 o.1 (right inner b.closures b2.closures (lambdas_of t b f) (lambdas_of t b2 l) (ap (λ n. b.closures + n) (sym (lambdas_counted t b f))) k))

    all_free : (b : Before) (es : Nodes) (inner : ℕ → List ℕ) (xs : List Var) → HaveShape es → AreClosed xs es → Looks inner b.closures (lambdas_of_all t b es) → Among (numbers xs) (free_all inner (numbered_all t b es))
    all_free b nil inner xs h o k = λ n i. absurd i
    all_free b (cons e es) inner xs h o k =
        let b2 = behind_node b e in
        among_joined (numbers xs) _ _ (node_free b e inner xs h.0 o.0 (left inner b.closures (lambdas_of t b e) (lambdas_of_all t b2 es) k))
        (all_free b2 es inner xs h.1 o.1 (right inner b.closures b2.closures (lambdas_of t b e) (lambdas_of_all t b2 es) (ap (λ n. b.closures + n) (sym (lambdas_counted t b e))) k))

    values_free : (b : Before) (es : Nodes) (inner : ℕ → List ℕ) (xs : List Var) → AreLambdas es → HaveShape es → AreClosed xs es → Looks inner b.closures (lambdas_of_values t b es) → Among (numbers xs) (of_lambdas inner (lambda_numbers b.closures es))
    values_free b nil inner xs l h o k = λ n i. absurd i
    values_free b (cons (At p c) es) inner xs l h o k =
        let b2 = behind_values b (cons (At p c) nil) in
        let n = counted_in t b p c in
        let i = form_free b p c inner xs h.0 o.0 (left inner b.closures (lambdas_in t b p c) (lambdas_of_values t b2 es) k) in
        let j = values_free b2 es inner xs l.1 h.1 o.1 (right inner b.closures b2.closures (lambdas_in t b p c) (lambdas_of_values t b2 es) (omega arith) k) in
        let same : b2.closures ≡ b.closures + closures_in c = omega arith in
        among_joined (numbers xs) _ _ (subst (Among (numbers xs)) (value_free b inner p c l.0) i)
        (subst (λ m. Among (numbers xs) (of_lambdas inner (lambda_numbers m es))) same j)

pub in_scope : (library : Bool) (es : Nodes) → HaveShape es → AreClosed [] es → free_all (inner_free (program_of library es)) (program_of library es).forms ≡ []
unfolding program_of
in_scope library es h o =
    let t = tables_of es in
    let ls = lambdas_of_all t none_before es in
    among_none _ (all_free t none_before es (lambdas_free ls 0) [] h o (whole (own t) (looked t) (λ m ms first l. refl) ls))
