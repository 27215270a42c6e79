-- What data mean names only variables that are visible where it stands.
use Rattle.std.proofs.Common.{◌≡◌, refl, sym, ap, subst, ◌∙◌, ℕ, ◌+◌, ◌≤◌, ◌||◌, not, arith, Bool, true, false, cond, List, [], ◌∷◌, ◌++◌, length, Option, Some, None, eq-eqb, length-append}
use Rattle.std.proofs.lemmas.List.Folds.{list_any-append}
use Rattle.tb_prim.specs.declared.place.Place.{Place}
use Rattle.tb_core.specs.Rules.{Every}
use Rattle.tb_sexp.specs.Tree as datum
use Rattle.tb_expand.specs.declared.context.Context.{Context}
use Rattle.tb_expand.specs.Names.{Name, same_name, is_among, Binder, names}
use Rattle.tb_expand.specs.Trees.{Var, same_var, variables, Node, Core, Local, Global, Nodes, nil, cons, joined, how_many}
use Rattle.tb_expand.specs.Splits.{Bindings, binding_if, is_steady, chosen, split, assigned_before, in_order, letrec_round, let_round, undefined, node_of}
use Rattle.tb_expand.specs.Scopes.{Scope, State, binding, fresh, enter}
use Rattle.tb_expand.specs.Shapes.{Formals, Defined, parameters}
use Rattle.tb_expand.specs.Expressions.{Build, Choosing, ChoosingOne, AssigningLocal, AssigningGlobal, Using, ApplyingTo, Calling, built}
use Rattle.tb_expand.specs.Bodies.{Found, Scans, scanned, expressions, a_definition, a_begin}
use Rattle.tb_expand.specs.Means.{lambda_nodes, Means, MeansAll, MeansSequence, MeansLambda, MeansDefined, MeansEach, MeansBody}
use Rattle.tb_expand.specs.Means.{a_constant, a_name, operands, a_sequence, a_lambda, a_let, a_letrec, no_more, one_more, alone, several, closure, a_value, a_procedure, none_defined, one_defined, plain_body, defining_body}
use Rattle.tb_expand.specs.Texts.{MeansForm, MeansForms, MeansText, an_expression, a_global, forms_of_begin, no_form, one_form, a_text}
use Rattle.tb_expand.specs.Limits.{how_many_data}
use Rattle.tb_expand.proofs.ShapedMeanings.{IsGood as IsGoodShape, good_expression as good_shape}
use Rattle.tb_expand.specs.Closed.{is_bound, IsClosed, IsClosedIn, AreClosed}
use Rattle.tb_expand.proofs.FirstOccurrences.{same_name_true, same_var_itself, or_left, or_right}
use Rattle.tb_expand.proofs.NamedVariables.{every_left, every_right, every_mapped}
use Rattle.tb_expand.proofs.GoodExpressions.{IsGood, IsGoodName, IsGoodBuild, good_expression}
use Rattle.tb_expand.proofs.CountedMeanings.{opened_steps, bound_steps, Grows, scan_counts, means_counted, all_means_counted, defined_counted, each_counted, form_counted, parameters_listed, as_many}

-- among these is each variable that a name means in a scope
abbrev Covers : List Var → List Scope → ℕ → Type 0
Covers xs es s = (x : Name) (v : Var) → binding es s x ≡ Some v → is_bound xs v ≡ true

covers_grown : (xs : List Var) (st st' : State) (s : ℕ) → Grows st st' → s ≤ length st.scopes → Covers xs st.scopes s → Covers xs st'.scopes s
covers_grown xs st st' s g le h x v e = h x v (sym (g.kept s x le) ∙ e)

bound_in_front : (xs ys : List Var) (v : Var) → is_bound xs v ≡ true → is_bound (xs ++ ys) v ≡ true
bound_in_front xs ys v h = list_any-append (same_var v) xs ys ∙ or_left (is_bound xs v) (is_bound ys v) h

bound_behind : (xs ys : List Var) (v : Var) → is_bound ys v ≡ true → is_bound (xs ++ ys) v ≡ true
bound_behind xs ys v h = list_any-append (same_var v) xs ys ∙ or_right (is_bound xs v) (is_bound ys v) h

-- all of these are among those
abbrev Within : List Var → List Var → Type 0
Within xs ys = Every (λ (v : Var). is_bound xs v ≡ true) ys

within_all : (us xs ys : List Var) → ((v : Var) → is_bound us v ≡ true → is_bound xs v ≡ true) → Within us ys → Within xs ys
within_all us xs ys f h = every_mapped (λ (v : Var). is_bound us v ≡ true) (λ (v : Var). is_bound xs v ≡ true) f ys h

within_itself : (xs : List Var) → Within xs xs
within_itself [] = tt
within_itself (x ∷ xs) = (or_left (same_var x x) (is_bound xs x) (same_var_itself x), within_all xs (x ∷ xs) xs (λ v h. or_right (same_var v x) (is_bound xs v) h) (within_itself xs))

-- a scope more
among_bound_by : (s : ℕ) (x n : Name) (ns : List Name) (xs : List Var) (b : Bool) → same_name x n ≡ b → is_bound xs (record { scope = s; name = n }) ≡ true → (is_among x ns ≡ true → is_bound xs (record { scope = s; name = x }) ≡ true) → (b || is_among x ns) ≡ true → is_bound xs (record { scope = s; name = x }) ≡ true
among_bound_by s x n ns xs true e h k o = subst (λ (m : Name). is_bound xs (record { scope = s; name = m }) ≡ true) (sym (same_name_true x n e)) h
among_bound_by s x n ns xs false e h k o = k o

among_bound : (s : ℕ) (x : Name) (ns : List Name) (xs : List Var) → Within xs (variables s ns) → is_among x ns ≡ true → is_bound xs (record { scope = s; name = x }) ≡ true
among_bound s x [] xs h o = cc
among_bound s x (n ∷ ns) xs h o = among_bound_by s x n ns xs (same_name x n) refl h.0 (among_bound s x ns xs h.1) o

entered_by : (s : ℕ) (x : Name) (ns : List Name) (xs : List Var) (v : Var) (o : Option Var) (b : Bool) → is_among x ns ≡ b → Within xs (variables s ns) → (o ≡ Some v → is_bound xs v ≡ true) → cond b (Some (record { scope = s; name = x })) o ≡ Some v → is_bound xs v ≡ true
entered_by s x ns xs v o true q h k e =
    let same : ◌≡◌ {A = Var} (record { scope = s; name = x }) v = cc in
    subst (λ (w : Var). is_bound xs w ≡ true) same (among_bound s x ns xs h q)
entered_by s x ns xs v o false q h k e = k e

new_binding : (es : List Scope) (s : ℕ) (ns : List Name) (x : Name) → binding (record { around = s; names = ns } ∷ es) (length es + 1) x ≡ cond (is_among x ns) (Some (record { scope = length es + 1; name = x })) (binding es s x)
unfolding binding
new_binding es s ns x = ap (λ b. cond b (cond (is_among x ns) (Some (record { scope = length es + 1; name = x })) (binding es s x)) (binding es (length es + 1) x)) (eq-eqb (length es + 1) (length es + 1) refl)

covers_entered : (xs : List Var) (es : List Scope) (s : ℕ) (ns : List Name) → Within xs (variables (length es + 1) ns) → Covers xs es s → Covers xs (record { around = s; names = ns } ∷ es) (length es + 1)
covers_entered xs es s ns h k x v e =
    entered_by (length es + 1) x ns xs v (binding es s x) (is_among x ns) refl h (k x v) (sym (new_binding es s ns x) ∙ e)

covers_bound : (ys xs : List Var) (es : List Scope) (s : ℕ) → Covers xs es s → Covers (ys ++ xs) es s
covers_bound ys xs es s h x v e = bound_behind ys xs v (h x v e)

-- a scan
record Reached (s : ℕ) (xs : List Var) (st' : State) : Type 0 where
  pub scope : s ≤ length st'.scopes
  pub covers : Covers xs st'.scopes s

scan_covers : {st : State} {c : Context} {ds : datum.Trees} {f : Found} {st' : State} → Scans st c ds f st' → c.scope ≤ length st.scopes → (xs : List Var) → Within xs f.variables → Covers xs st.scopes c.scope → Reached f.scope xs st'
scan_covers scanned le xs w h = record { scope = le; covers = h }
scan_covers (expressions k) le xs w h = record { scope = le; covers = h }
scan_covers (a_definition {st = st} {c = c} {e = e} k i s) le xs w h =
    scan_covers s (omega arith) xs w.1 (covers_entered xs st.scopes c.scope (e.binder.name ∷ []) (w.0, tt) h)
scan_covers (a_begin {e = e} {f = f} k s n t) le xs w h =
    let r = scan_covers s le xs (every_left (λ (v : Var). is_bound xs v ≡ true) e.variables f.variables w) h in
    scan_covers t r.scope xs (every_right (λ (v : Var). is_bound xs v ≡ true) e.variables f.variables w) r.covers

-- splits
abbrev Holds : List Var → List Var → List Var → Type 0
Holds ts os xs = (v : Var) → is_bound xs v ≡ true → (is_bound ts v || is_bound os v) ≡ true

holds_one : (b : Bool) (x : Var) (e : Node) (t o : Bindings) (v : Var) (a r : Bool) → same_var v x ≡ a → (r ≡ true → (is_bound t.variables v || is_bound o.variables v) ≡ true) → (a || r) ≡ true →
    (is_bound (binding_if b x e t).variables v || is_bound (binding_if (not b) x e o).variables v) ≡ true
holds_one true x e t o v true r q h k = or_left (same_var v x || is_bound t.variables v) (is_bound o.variables v) (or_left (same_var v x) (is_bound t.variables v) q)
holds_one true x e t o v false r q h k = ap (λ b. (b || is_bound t.variables v) || is_bound o.variables v) q ∙ h k
holds_one false x e t o v true r q h k = or_right (is_bound t.variables v) (same_var v x || is_bound o.variables v) (or_left (same_var v x) (is_bound o.variables v) q)
holds_one false x e t o v false r q h k = ap (λ b. is_bound t.variables v || (b || is_bound o.variables v)) q ∙ h k

-- a split keeps all variables where there are us many values
split_holds : (parts : Nodes) (xs : List Var) (vs : Nodes) → length xs ≡ how_many vs → Holds (chosen true parts xs vs).variables (chosen false parts xs vs).variables xs
split_holds parts [] vs n v h = cc
split_holds parts (x ∷ xs) nil n v h = absurd (omega arith)
split_holds parts (x ∷ xs) (cons e es) n v h =
    holds_one (is_steady parts x e) x e (chosen true parts xs es) (chosen false parts xs es) v (same_var v x) (is_bound xs v) refl (split_holds parts xs es (omega arith) v) h

chosen_closed_one : (b : Bool) (x : Var) (e : Node) (r : Bindings) (xs : List Var) → IsClosed xs e → AreClosed xs r.values → AreClosed xs (binding_if b x e r).values
chosen_closed_one true x e r xs h k = (h, k)
chosen_closed_one false x e r xs h k = k

chosen_closed : (b : Bool) (parts : Nodes) (ys : List Var) (vs : Nodes) (xs : List Var) → AreClosed xs vs → AreClosed xs (chosen b parts ys vs).values
chosen_closed b parts [] vs xs h = tt
chosen_closed b parts (y ∷ ys) nil xs h = tt
chosen_closed true parts (y ∷ ys) (cons e es) xs h = chosen_closed_one (is_steady parts y e) y e (chosen true parts ys es) xs h.0 (chosen_closed true parts ys es xs h.1)
chosen_closed false parts (y ∷ ys) (cons e es) xs h = chosen_closed_one (not (is_steady parts y e)) y e (chosen false parts ys es) xs h.0 (chosen_closed false parts ys es xs h.1)

before_closed : (p : Place) (ys : List Var) (vs es : Nodes) (xs : List Var) → Within xs ys → AreClosed xs vs → AreClosed xs es → AreClosed xs (assigned_before p ys vs es)
before_closed p [] vs es xs w h k = k
before_closed p (y ∷ ys) nil es xs w h k = k
before_closed p (y ∷ ys) (cons v vs) es xs w h k = ((w.0, h.0), before_closed p ys vs es xs w.1 h.1 k)

order_closed : (p : Place) (es : Nodes) (xs : List Var) → AreClosed xs es → IsClosed xs (in_order p es)
order_closed p nil xs h = tt
order_closed p (cons e nil) xs h = h.0
order_closed p (cons e (cons f es)) xs h = h

letrec_closed : (p : Place) (ys : List Var) (vs : Nodes) (e : Node) (xs : List Var) → AreClosed (ys ++ xs) vs → IsClosed (ys ++ xs) e → IsClosed xs (letrec_round p ys vs e)
letrec_closed p [] vs e xs h k = k
letrec_closed p (y ∷ ys) vs e xs h k = (h, k)

undefined_closed : (p : Place) (ys : List Var) (xs : List Var) → AreClosed xs (undefined p ys)
undefined_closed p [] xs = tt
undefined_closed p (y ∷ ys) xs = (tt, undefined_closed p ys xs)

let_closed : (p : Place) (ys : List Var) (e : Node) (xs : List Var) → IsClosed (ys ++ xs) e → IsClosed xs (let_round p ys e)
let_closed p [] e xs h = h
let_closed p (y ∷ ys) e xs h = (undefined_closed p (y ∷ ys) xs, h)

-- the variables of a split before others
abbrev split_bound : List Var → Nodes → Nodes → List Var → List Var
split_bound ys vs es xs = (chosen true (joined vs es) ys vs).variables ++ ((chosen false (joined vs es) ys vs).variables ++ xs)

split_closed : (p : Place) (ys : List Var) (vs es : Nodes) (xs : List Var) → AreClosed (split_bound ys vs es xs) vs → AreClosed (split_bound ys vs es xs) es → IsClosed xs (node_of p (split ys vs es))
split_closed p ys vs es xs h k =
    let parts = joined vs es in
    let t = chosen true parts ys vs in
    let o = chosen false parts ys vs in
    let all = split_bound ys vs es xs in
    let inside : Within all o.variables = within_all o.variables all o.variables (λ v g. bound_behind t.variables (o.variables ++ xs) v (bound_in_front o.variables xs v g)) (within_itself o.variables) in
    let_closed p o.variables (letrec_round p t.variables t.values (in_order p (assigned_before p o.variables o.values es))) xs
    (letrec_closed p t.variables t.values (in_order p (assigned_before p o.variables o.values es)) (o.variables ++ xs) (chosen_closed true parts ys vs all h)
    (order_closed p (assigned_before p o.variables o.values es) all (before_closed p o.variables o.values es all inside (chosen_closed false parts ys vs all h) k)))

held_by : (ts os xs : List Var) (v : Var) (a b : Bool) → is_bound ts v ≡ a → is_bound os v ≡ b → (a || b) ≡ true → is_bound (ts ++ (os ++ xs)) v ≡ true
held_by ts os xs v true b p q h = bound_in_front ts (os ++ xs) v p
held_by ts os xs v false true p q h = bound_behind ts (os ++ xs) v (bound_in_front os xs v q)
held_by ts os xs v false false p q h = absurd cc

split_within : (ys : List Var) (vs es : Nodes) (xs : List Var) → length ys ≡ how_many vs → Within (split_bound ys vs es xs) ys
split_within ys vs es xs n =
    let t = (chosen true (joined vs es) ys vs).variables in
    let o = (chosen false (joined vs es) ys vs).variables in
    within_all ys (split_bound ys vs es xs) ys (λ v g. held_by t o xs v (is_bound t v) (is_bound o v) refl refl (split_holds (joined vs es) ys vs n v g)) (within_itself ys)

split_covers : (ys : List Var) (vs es : Nodes) (xs : List Var) (ss : List Scope) (s : ℕ) → Covers xs ss s → Covers (split_bound ys vs es xs) ss s
split_covers ys vs es xs ss s h =
    covers_bound (chosen true (joined vs es) ys vs).variables ((chosen false (joined vs es) ys vs).variables ++ xs) ss s (covers_bound (chosen false (joined vs es) ys vs).variables xs ss s h)

-- the node of its parts
abbrev IsClosedOption : List Var → Option Core → Type 0
IsClosedOption xs None = Unit {0}
IsClosedOption xs (Some e) = IsClosedIn xs e

built_closed : (st : State) (c : Context) (p : Place) (k : Build) (es : Nodes) (xs : List Var) → Covers xs st.scopes c.scope → IsGoodBuild st c k → AreClosed xs es → IsClosedOption xs (built p k es)
built_closed st c p Choosing (cons a (cons b (cons d nil))) xs v g h = (h.0, h.1.0, h.1.1.0)
built_closed st c p ChoosingOne (cons a (cons b nil)) xs v g h = (h.0, h.1.0, tt)
built_closed st c p (AssigningLocal x) (cons e nil) xs v g h = (v g.name x g.found, h.0)
built_closed st c p (AssigningGlobal q r) (cons e nil) xs v g h = h.0
built_closed st c p (Using q) es xs v g h = h
built_closed st c p ApplyingTo (cons f (cons l nil)) xs v g h = (h.0, h.1.0)
built_closed st c p Calling (cons f es) xs v g h = h
built_closed st c p k es xs v g h = tt

name_closed : (st : State) (c : Context) (e : Core) (xs : List Var) → Covers xs st.scopes c.scope → IsGoodName st c e → IsClosedIn xs e
name_closed st c (Local x) xs v g = v g.name x g.found
name_closed st c (Global r) xs v g = tt
name_closed st c e xs v g = absurd g

-- a scope of new variables
new_covers : (st : State) (s : ℕ) (bs : List Binder) (xs : List Var) → Covers xs st.scopes s → Covers (variables (fresh st) (names bs) ++ xs) (enter st s (names bs)).scopes (fresh st)
new_covers st s bs xs h =
    let ys = variables (fresh st) (names bs) in
    covers_entered (ys ++ xs) st.scopes s (names bs) (within_all ys (ys ++ xs) ys (λ v g. bound_in_front ys xs v g) (within_itself ys)) (covers_bound ys xs st.scopes s h)

same_covers : (xs : List Var) (st st' : State) (s : ℕ) → st'.scopes ≡ st.scopes → Covers xs st.scopes s → Covers xs st'.scopes s
same_covers xs st st' s e h = subst (λ (ss : List Scope). Covers xs ss s) (sym e) h

still_in : (st st' : State) (s : ℕ) → st'.scopes ≡ st.scopes → s ≤ length st.scopes → s ≤ length st'.scopes
still_in st st' s e h = subst (λ (ss : List Scope). s ≤ length ss) (sym e) h

variables_many : (s : ℕ) (bs : List Binder) → length (variables s (names bs)) ≡ length bs
variables_many s [] = refl
variables_many s (b ∷ bs) = let h = variables_many s bs in omega arith

each_many : {st : State} {c : Context} {vs : List Defined} {es : Nodes} {st' : State} → MeansEach st c vs es st' → how_many es ≡ length vs
each_many none_defined = refl
each_many (one_defined m ms) = let h = each_many ms in omega arith

scan_many : {st : State} {c : Context} {ds : datum.Trees} {f : Found} {st' : State} → Scans st c ds f st' → length f.variables ≡ length f.values
scan_many scanned = refl
scan_many (expressions k) = refl
scan_many (a_definition k i s) = let h = scan_many s in omega arith
scan_many (a_begin {e = e} {f = f} k s n t) =
    let g = scan_many s in
    let h = scan_many t in
    let u = length-append e.variables f.variables in
    let v = length-append e.values f.values in
    omega arith

mutual
  means_closed : {st : State} {c : Context} {d : datum.Tree} {e : Node} {st' : State} → Means st c d e st' → (xs : List Var) → c.scope ≤ length st.scopes → Covers xs st.scopes c.scope → IsClosed xs e
  means_closed (a_constant k a b) xs le h = tt
  means_closed (a_name {st = st} {c = c} {p = p} {s = s} {e = e} k a) xs le h = name_closed st c e xs h (subst (IsGood st c) k (good_expression st c (datum.At p s)))
  means_closed (operands {st = st} {mid = mid} {c = c} {p = p} {s = s} {k = k} {es = es} q a m b l) xs le h =
      let o = opened_steps p 1 0 st c mid a in
      subst (IsClosedOption xs) b
      (built_closed st c p k es xs h (subst (IsGood st c) q (good_expression st c (datum.At p s))) (all_closed m xs (still_in st mid c.scope o.scopes le) (same_covers xs st mid c.scope o.scopes h)))
  means_closed (a_sequence k m) xs le h = sequence_closed m xs le h
  means_closed (a_lambda k m) xs le h = lambda_closed m xs le h
  means_closed (a_let {st = st} {mid = mid} {far = far} {c = c} {p = p} {ps = ps} k a m b) xs le h =
      let o = opened_steps p 1 (length ps.binders) st c mid a in
      let inmid = still_in st mid c.scope o.scopes le in
      let onmid = same_covers xs st mid c.scope o.scopes h in
      let r = all_means_counted m in
      let longer = r.grows.longer in (
        all_closed m xs inmid onmid,
        body_closed b (variables (fresh far) (names ps.binders) ++ xs) (omega arith) (new_covers far c.scope ps.binders xs (covers_grown xs mid far c.scope r.grows inmid onmid)),
      )
  means_closed (a_letrec {st = st} {mid = mid} {far = far} {c = c} {p = p} {s = s} {ps = ps} {es = es} {e = e} k a m b l) xs le h =
      let ys = variables (fresh mid) (names ps.binders) in
      let all = split_bound ys es (cons e nil) xs in
      let o = bound_steps p (length ps.binders) st c mid a in
      let good : length ps.binders ≡ how_many_data ps.values = subst IsGoodShape k (good_shape st c (datum.At p s)) in
      let many = variables_many (fresh mid) ps.binders in
      let values = as_many m in
      let entry = enter mid c.scope (names ps.binders) in
      let onmid = split_covers ys es (cons e nil) xs mid.scopes c.scope (same_covers xs st mid c.scope o.scopes h) in
      let on : Covers all entry.scopes (fresh mid) = covers_entered all mid.scopes c.scope (names ps.binders) (split_within ys es (cons e nil) xs (omega arith)) onmid in
      let r = all_means_counted m in
      let longer = r.grows.longer in
      split_closed p ys es (cons e nil) xs (all_closed m all (omega arith) on)
      (body_closed b all (omega arith) (covers_grown all entry far (fresh mid) r.grows (omega arith) on), tt)

  all_closed : {st : State} {c : Context} {ds : datum.Trees} {es : Nodes} {st' : State} → MeansAll st c ds es st' → (xs : List Var) → c.scope ≤ length st.scopes → Covers xs st.scopes c.scope → AreClosed xs es
  all_closed no_more xs le h = tt
  all_closed (one_more {st = st} {mid = mid} {c = c} m ms) xs le h =
      let r = means_counted m in
      let longer = r.grows.longer in
      (means_closed m xs le h, all_closed ms xs (omega arith) (covers_grown xs st mid c.scope r.grows le h))

  sequence_closed : {st : State} {c : Context} {p : Place} {ds : datum.Trees} {e : Node} {st' : State} → MeansSequence st c p ds e st' → (xs : List Var) → c.scope ≤ length st.scopes → Covers xs st.scopes c.scope → IsClosed xs e
  sequence_closed (alone m) xs le h = means_closed m xs le h
  sequence_closed (several {st = st} {mid = mid} {c = c} {p = p} a m) xs le h =
      let o = opened_steps p 1 0 st c mid a in
      all_closed m xs (still_in st mid c.scope o.scopes le) (same_covers xs st mid c.scope o.scopes h)

  lambda_closed : {st : State} {c : Context} {p : Place} {f : Formals} {b : datum.Trees} {e : Node} {st' : State} → MeansLambda st c p f b e st' → (xs : List Var) → c.scope ≤ length st.scopes → Covers xs st.scopes c.scope → IsClosed xs e
  lambda_closed (closure {st = st} {mid = mid} {c = c} {p = p} {f = f} {e = e} a m) xs le h =
      let o = opened_steps p (lambda_nodes c) (length (parameters f)) st c mid a in
      subst (λ vs. IsClosed (vs ++ xs) e) (sym (parameters_listed (fresh mid) f))
      (body_closed m (variables (fresh mid) (names (parameters f)) ++ xs) (omega arith) (new_covers mid c.scope (parameters f) xs (same_covers xs st mid c.scope o.scopes h)))

  defined_closed : {st : State} {c : Context} {v : Defined} {e : Node} {st' : State} → MeansDefined st c v e st' → (xs : List Var) → c.scope ≤ length st.scopes → Covers xs st.scopes c.scope → IsClosed xs e
  defined_closed (a_value m) xs le h = means_closed m xs le h
  defined_closed (a_procedure n m) xs le h = lambda_closed m xs le h

  each_closed : {st : State} {c : Context} {vs : List Defined} {es : Nodes} {st' : State} → MeansEach st c vs es st' → (xs : List Var) → c.scope ≤ length st.scopes → Covers xs st.scopes c.scope → AreClosed xs es
  each_closed none_defined xs le h = tt
  each_closed (one_defined {st = st} {mid = mid} {c = c} m ms) xs le h =
      let r = defined_counted m in
      let longer = r.grows.longer in
      (defined_closed m xs le h, each_closed ms xs (omega arith) (covers_grown xs st mid c.scope r.grows le h))

  body_closed : {st : State} {c : Context} {p : Place} {ds : datum.Trees} {e : Node} {st' : State} → MeansBody st c p ds e st' → (xs : List Var) → c.scope ≤ length st.scopes → Covers xs st.scopes c.scope → IsClosed xs e
  body_closed (plain_body {st = st} {mid = mid} {c = c} {f = f} s n m) xs le h =
      let g = scan_counts s in
      let longer = g.grows.longer in
      sequence_closed m xs (omega arith) (covers_grown xs st mid c.scope g.grows le h)
  body_closed (defining_body {st = st} {mid = mid} {far = far} {last = last} {c = c} {p = p} {f = f} {vs = vs} {es = es} s n o b a m ms l) xs le h =
      let ys = f.variables in
      let all = split_bound ys vs es xs in
      let defined = each_many m in
      let found = scan_many s in
      let r = scan_covers s le all (split_within ys vs es xs (omega arith)) (split_covers ys vs es xs st.scopes c.scope h) in
      let t = bound_steps p (length f.binders) mid c far a in
      let infar = still_in mid far f.scope t.scopes r.scope in
      let onfar = same_covers all mid far f.scope t.scopes r.covers in
      let u = each_counted m in
      let longer = u.grows.longer in
      split_closed p ys vs es xs (each_closed m all infar onfar) (all_closed ms all (omega arith) (covers_grown all far last f.scope u.grows infar onfar))

joined_closed : (es fs : Nodes) (xs : List Var) → AreClosed xs es → AreClosed xs fs → AreClosed xs (joined es fs)
joined_closed nil fs xs h k = k
joined_closed (cons e es) fs xs h k = (h.0, joined_closed es fs xs h.1 k)

mutual
  form_closed : {st : State} {c : Context} {d : datum.Tree} {es : Nodes} {st' : State} → MeansForm st c d es st' → c.is_value ≡ false → (xs : List Var) → c.scope ≤ length st.scopes → Covers xs st.scopes c.scope → AreClosed xs es
  form_closed (an_expression k m) q xs le h = (means_closed m xs le h, tt)
  form_closed (a_global {st = st} {mid = mid} {c = c} {p = p} k i w a m) q xs le h =
      let o = opened_steps p 1 0 st c mid a in
      (defined_closed m xs (still_in st mid c.scope o.scopes le) (same_covers xs st mid c.scope o.scopes h), tt)
  form_closed (forms_of_begin k m) q xs le h = forms_closed m q xs le h

  forms_closed : {st : State} {c : Context} {ds : datum.Trees} {es : Nodes} {st' : State} → MeansForms st c ds es st' → c.is_value ≡ false → (xs : List Var) → c.scope ≤ length st.scopes → Covers xs st.scopes c.scope → AreClosed xs es
  forms_closed no_form q xs le h = tt
  forms_closed (one_form {st = st} {mid = mid} {c = c} {es = es} {fs = fs} m ms) q xs le h =
      let r = form_counted m q in
      let longer = r.grows.longer in
      joined_closed es fs xs (form_closed m q xs le h) (forms_closed ms q xs (omega arith) (covers_grown xs st mid c.scope r.grows le h))

no_names : (xs : List Var) → Covers xs [] 0
unfolding binding
no_names xs x v e = absurd cc

pub text_closed : (library : Bool) (ds : datum.Trees) (es : Nodes) → MeansText library ds es → AreClosed [] es
text_closed library ds es (a_text m o) = forms_closed m refl [] (omega arith) (no_names [])
