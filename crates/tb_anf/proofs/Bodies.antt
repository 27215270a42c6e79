-- The forms of a program that keeps the rules are sound, and so is the body of each lambda expression that is
-- grounded.
use Rattle.std.proofs.Common.{◌≡◌, refl, sym, ap, ◌∙◌, subst, ℕ, zero, suc, ◌^◌, ◌<◌, ◌⊎◌, inl, inr, ⊎_elim, arith, true, false, List, [], ◌∷◌, ◌++◌, length, map, Some, None, append-nil, ne_eqb}
use Rattle.std.proofs.lemmas.Bool.{cases_eq, cases_Bool}
use Rattle.tb_prim.specs.declared.place.Place.{Place}
use Rattle.tb_semantics.specs.Graph.{IsIn}
use Rattle.tb_semantics.proofs.ListLemmas.{get-some}
use Rattle.tb_core.specs.FreeVariables.{is_in, without, of_lambdas}
use Rattle.tb_core.specs.Lifting.{Lifted}
use Rattle.tb_core.specs.OperandOrder.{Line}
use Rattle.tb_core.specs.Rules.{Every}
use Rattle.tb_core.proofs.Members.{in-left, in-right, in-either, in-tested, tested-in, in-without}
use Rattle.tb_ir.specs.Tree.{Tree, Node, Form, Local, Lambda, Let, Letrec, Seq, Direct, Trees, none, more, tree_at, LambdaTree, ProgramTree}
use Rattle.tb_ir.specs.FreeVariables.{free, free_all, inner_free, parameters, added_to}
use Rattle.tb_ir.specs.Rules.{IsLambda, nodes, nodes_of, all_nodes, of_nodes, binders, form_of, standing_at, variables, AreAdded, CallsLifted, IsShaped, NodeKeeps, LiftedKeeps, KeepsRules, HasLine, IsOrderOf}
use Rattle.tb_ir.specs.TreeMachine as T
use Rattle.tb_ir.specs.TreeMachine.{line_of, numbers}
use Rattle.tb_anf.proofs.Apart.{own, IsName, names-bound}
use Rattle.tb_anf.proofs.Calls.{IsForeign, Origin, Grounded, MayClose, MayEnter, Calls}
use Rattle.tb_anf.proofs.LineLemmas.{node-permutation}
use Rattle.tb_anf.proofs.Names.{IsLong, ProperNode, Sound}
use Rattle.tb_anf.proofs.Operands.{apart-both, free-at, nodes-at, every-left}
use Rattle.tb_anf.proofs.Scopes.{every-in, in-node, IsScoped, scoped, free-of-lambda}
use Rattle.tb_anf.proofs.Variables.{form-once, body-once, not-in-form, no-parameter, same-body, form-variable, body-variable, parameter-variable, own-form, body-nodes}

pub every-zip : {X : Type 0} (P Q R : X → Type 0) (xs : List X) → ((x : X) → P x → Q x → R x) → Every P xs →
    Every Q xs →
    Every R xs
every-zip P Q R [] h a b = tt
every-zip P Q R (x ∷ xs) h a b = (h x a.0 b.0, every-zip P Q R xs h a.1 b.1)

-- nothing is added to a lambda expression that is not lifted
pub added_none : (set : List Lifted) (l : ℕ) → (IsIn l (map (λ (m : Lifted). m.lambda) set) → ⊥) → added_to set l ≡ []
added_none [] l h = refl
added_none (m ∷ ms) l h =
    ⊎_elim (λ e. absurd (h (inl e))) (λ ne. rw (ne_eqb m.lambda l ne) (added_none ms l (λ i. h (inr i))))
    (cases_eq m.lambda l)

pub lifted_found : (P : Lifted → Type 0) (set : List Lifted) (l : ℕ) → IsIn l (map (λ (m : Lifted). m.lambda) set) →
    Every P set → (m : Lifted) × (m.lambda ≡ l) × P m
lifted_found P [] l i h = absurd i
lifted_found P (m ∷ ms) l (inl e) h = (m, e, h.0)
lifted_found P (m ∷ ms) l (inr i) h = lifted_found P ms l i h.1

-- the variables that are added are named by the operands
added_named : (I : ℕ → List ℕ) (k : ℕ) (es : Trees) (xs : List ℕ) (y : ℕ) → AreAdded k es xs → IsIn y xs →
    IsIn y (free_all I es)
added_named I (suc k) (more e es) xs y h i = in-right y (free I e) _ (added_named I k es xs y h i)
added_named I zero (more (Node p s (Local z)) es) (x ∷ xs) y h (inl e) = inl (h.0 ∙ e)
added_named I zero (more (Node p s (Local z)) es) (x ∷ xs) y h (inr i) = inr (added_named I zero es xs y h.1 i)
added_named I zero none [] y h i = absurd i
added_named I k es xs y h i = absurd h

pub long_shaped : (p : ProgramTree) (f : Form) → IsShaped p f → IsLong f
long_shaped p (Let xs es e) h = h
long_shaped p (Seq es) h = h
long_shaped p _ h = tt

-- what holds of each node of the program
pub record Facts (p : ProgramTree) (order : List Line) (d : Tree) : Type 0 where
  pub keeps : NodeKeeps (2 ^ 31) p d
  pub lined : HasLine order p.set p.lambdas d
  pub stands : (l : ℕ) → IsIn l (standing_at (form_of d)) → IsIn l (of_nodes standing_at (all_nodes p))

module _ (p : ProgramTree) (order : List Line) (rules : KeepsRules (2 ^ 31) p) (lines : IsOrderOf p order) where
  abbrev I : ℕ → List ℕ
  I = inner_free p

  abbrev x : T.Context
  x = T.context_of p order

  pub all-facts : Every (Facts p order) (all_nodes p)
  all-facts =
      every-zip _ _ _ (all_nodes p) (λ d a b. record { keeps = a.0; lined = a.1; stands = b })
      (every-zip (NodeKeeps (2 ^ 31) p) (HasLine order p.set p.lambdas)
      (λ d. NodeKeeps (2 ^ 31) p d × HasLine order p.set p.lambdas d) (all_nodes p) (λ d a b. (a, b)) rules.nodes lines)
      (in-node standing_at (all_nodes p))

  -- a lambda expression that stands at a node is not lifted
  pub not-lifted : (l : ℕ) → IsIn l (of_nodes standing_at (all_nodes p)) → added_to p.set l ≡ []
  not-lifted l i = added_none p.set l (λ j. apart-both _ _ l rules.lambdas_at_most_once i j)

  pub inner : (l : ℕ) (m : LambdaTree) → IsLambda p l m →
      inner_free p l ≡ without (parameters m ++ added_to p.set l) (free (inner_free p) m.body)
  inner l m e = free-of-lambda p l m rules.inner_greater e

  may_close : (l : ℕ) → IsIn l (of_nodes standing_at (all_nodes p)) → ((y : ℕ) → IsIn y (I l) → Origin p y) →
      MayClose p l
  may_close l i from =
      let none_added = not-lifted l i in
      record {
        grounded = λ m e y f.
            let ns : I l ≡ without (parameters m) (free I m.body) = inner l m e
            ∙ ap (λ z. without z (free I m.body)) (ap (λ z. parameters m ++ z) none_added
            ∙ append-nil (parameters m)) in
            from y (subst (IsIn y) (sym ns) (in-without (parameters m) (free I m.body) y f.named f.other));
        not_lifted = none_added;
      }

  module _ (l : ℕ) (es : Trees) (c : CallsLifted p l es) where
    the_lifted : (m : Lifted) × (m.lambda ≡ l) × LiftedKeeps p m
    the_lifted = lifted_found (LiftedKeeps p) p.set l (in-tested _ l c.is_lifted) rules.lifted

    pub lifted_keeps : ((m : LambdaTree) → IsLambda p l m → m.rest ≡ None) × (I l ≡ []) × (l < length p.lambdas)
    lifted_keeps =
        let m = the_lifted in
        let k = m.2 in
        let e = m.1 in (
          λ n f. (k.no_rest n (subst (λ z. IsLambda p z n) (sym e) f)).0,
          subst (λ z. I z ≡ []) e k.closed,
          subst (λ z. z < length p.lambdas) e k.in_range,
        )

    pub its_lambda : (m : LambdaTree) × IsLambda p l m × AreAdded (length m.formals) es (added_to p.set l)
    its_lambda = let g = get-some p.lambdas l lifted_keeps.2 in (g.0, g.1, c.operands_match g.0 g.1)

    may_enter : ((y : ℕ) → IsIn y (free_all I es) → Origin p y) → MayEnter p l
    may_enter from = record {
      grounded = λ m e y f.
          let none_free : without (parameters m ++ added_to p.set l) (free I m.body) ≡ [] = sym (inner l m e)
          ∙ lifted_keeps.1 in
          ⊎_elim
          (λ t. ⊎_elim
          (λ j. let k : is_in (parameters m) y ≡ true = tested-in (parameters m) y j in let o = f.other in absurd cc)
          (λ j. from y (added_named I (length m.formals) es (added_to p.set l) y (c.operands_match m e) j))
          (in-either y (parameters m) (added_to p.set l) (in-tested _ y t)))
          (λ t. absurd (subst (IsIn y) none_free (in-without _ (free I m.body) y f.named t)))
          (cases_Bool (is_in (parameters m ++ added_to p.set l) y));
      no_rest = lifted_keeps.0;
      closed = lifted_keeps.1;
    }

  of_one : (ls : List ℕ) (l y : ℕ) → IsIn l ls → IsIn y (I l) → IsIn y (of_lambdas I ls)
  of_one [] l y i j = absurd i
  of_one (k ∷ ls) l y (inl e) j = in-left y (I k) _ (subst (λ z. IsIn y (I z)) (sym e) j)
  of_one (k ∷ ls) l y (inr i) j = in-right y (I k) _ (of_one ls l y i j)

  close_all : (ls : List ℕ) → ((l : ℕ) → IsIn l ls → MayClose p l) → Every (MayClose p) ls
  close_all [] h = tt
  close_all (l ∷ ls) h = (h l (inl refl), close_all ls (λ k i. h k (inr i)))

  -- where all that a node names and binds has an origin
  abbrev HasOrigins : Tree → Type 0
  HasOrigins d = (y : ℕ) → IsIn y (free I d) ⊎ IsIn y (binders (form_of d)) → Origin p y

  node_calls : (u : Place) (s : ℕ) (f : Form) → Facts p order (Node u s f) → HasOrigins (Node u s f) → Calls p f
  node_calls u s (Lambda l) h from = may_close l (h.stands l (inl refl)) (λ y i. from y (inl i))
  node_calls u s (Letrec xs ls e) h from =
      close_all ls (λ l i. may_close l (h.stands l i) (λ y j. ⊎_elim
      (λ t. from y (inr (in-tested xs y t)))
      (λ t. from y (inl (in-without xs _ y (in-left y (of_lambdas I ls) _ (of_one ls l y i j)) t)))
      (cases_Bool (is_in xs y))))
  node_calls u s (Direct l es) h from = may_enter l es h.keeps.shaped (λ y i. from y (inl i))
  node_calls u s _ h from = tt

  node_proper : (d : Tree) → Facts p order d → HasOrigins d → ProperNode x (Calls p) d
  node_proper (Node u s f) h from = record {
    permuted = λ o. node-permutation p order u s f o h.lined
        (λ l es e. its_lambda l es (subst (IsShaped p) e h.keeps.shaped));
    long = long_shaped p f h.keeps.shaped;
    may = node_calls u s f h from;
  }

  -- an expression whose names and variables have an origin has proper nodes alone
  all_proper : (e : Tree) → Every (Facts p order) (nodes e) →
      ((y : ℕ) → IsIn y (free I e) ⊎ IsIn y (own e) → Origin p y) → Every (ProperNode x (Calls p)) (nodes e)
  all_proper e h from =
      every-zip (Facts p order) HasOrigins (ProperNode x (Calls p)) (nodes e) node_proper h
      (every-zip (IsScoped I (free I e) (own e)) (λ d. (y : ℕ) → IsIn y (binders (form_of d)) → IsIn y (own e))
      HasOrigins (nodes e) (λ d a b y. ⊎_elim (λ i. from y (a y i)) (λ i. from y (inr (b y i))))
      (scoped I e) (in-node binders (nodes e)))

  small : (y : ℕ) → IsIn y (variables p) → y < 2 ^ 31
  small y i = every-in (λ z. z < 2 ^ 31) (variables p) y rules.small_variables i

  origin_small : (y : ℕ) → Origin p y → y < 2 ^ 31
  origin_small y (inl i) = small y (form-variable p y i)
  origin_small y (inr b) =
      small y (⊎_elim (parameter-variable p b.number b.lambda b.there y)
      (body-variable p b.number b.lambda b.there y) b.here)

  not_a_name : {n k y : ℕ} → IsName n k y → y < 2 ^ 31 → ⊥
  not_a_name h lt = let e = h.same in omega arith

  -- a top-level form names nothing
  pub closed : (k : ℕ) (e : Tree) → tree_at p.forms k ≡ Some e → (y : ℕ) → IsIn y (free I e) → ⊥
  closed k e t y i = subst (IsIn y) rules.in_scope (free-at I p.forms k e t y i)

  pub form-sound : (k n : ℕ) (e : Tree) → tree_at p.forms k ≡ Some e → Sound x (Calls p) n e
  form-sound k n e t = record {
    apart = (names-bound e n).apart (form-once p rules.bound_once k e t)
        (λ y i. small y (form-variable p y (own-form p.forms k e t y i)));
    new = λ y i j. closed k e t y j;
    proper = all_proper e (nodes-at (Facts p order) p.forms k e t (every-left _ (nodes_of p.forms) _ all-facts))
        (λ y. ⊎_elim (λ i. absurd (closed k e t y i)) (λ i. inl (own-form p.forms k e t y i)));
  }

  module _ (l : ℕ) (m : LambdaTree) (e : IsLambda p l m) (grounded : Grounded p l) where
    free_origin : (y : ℕ) → IsIn y (free I m.body) → is_in (parameters m) y ≡ false → Origin p y
    free_origin y i f = grounded m e y (record { named = i; other = f })

    body_origin : (y : ℕ) → IsIn y (free I m.body) ⊎ IsIn y (own m.body) → Origin p y
    body_origin y i =
        ⊎_elim
        (λ t. inr (record {
          number = l;
          lambda = m;
          there = e;
          here = inl (in-tested (parameters m) y t);
          own = λ f. let o = f.other in absurd cc;
        }))
        (λ f. ⊎_elim
        (λ t. free_origin y (in-tested (free I m.body) y t) f)
        (λ g. ⊎_elim
        (λ j. let t = tested-in (free I m.body) y j in absurd cc)
        (λ j. inr (record {
          number = l;
          lambda = m;
          there = e;
          here = inr j;
          own = λ k. let t = tested-in (free I m.body) y k.named in absurd cc;
        }))
        i)
        (cases_Bool (is_in (free I m.body) y)))
        (cases_Bool (is_in (parameters m) y))

    -- what the body names is not bound in it
    not_bound_here : (y : ℕ) → IsIn y (free I m.body) → IsIn y (own m.body) → ⊥
    not_bound_here y i j =
        ⊎_elim
        (λ t. no-parameter p rules.bound_once l l m m e e y j (in-tested (parameters m) y t))
        (λ f. ⊎_elim
        (λ k. not-in-form p rules.bound_once l m e y k j)
        (λ b. ⊎_elim
        (λ k. no-parameter p rules.bound_once l b.number m b.lambda e b.there y j k)
        (λ k. b.own (subst (λ z. IsForeign p z y)
        (same-body p rules.bound_once l b.number m b.lambda e b.there y j k) (record { named = i; other = f })))
        b.here)
        (free_origin y i f))
        (cases_Bool (is_in (parameters m) y))

    pub body-sound : (n : ℕ) → Sound x (Calls p) n m.body
    body-sound n = record {
      apart = (names-bound m.body n).apart (body-once p rules.bound_once l m e)
          (λ y i. small y (body-variable p l m e y i));
      new = λ y i j. ⊎_elim
          (λ k. not_bound_here y j k)
          (λ k. not_a_name k (origin_small y (body_origin y (inl j))))
          ((names-bound m.body n).each y i);
      proper = all_proper m.body (body-nodes (Facts p order) p all-facts l m e) body_origin;
    }
