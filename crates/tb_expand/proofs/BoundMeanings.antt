-- What data mean binds each variable once: each scope has a number of its own, and binds no name twice.
use Rattle.std.proofs.Common.{◌≡◌, refl, sym, ap, subst, ◌∙◌, ℕ, ◌+◌, ◌≤◌, ◌==◌, ◌&&◌, ⊎_elim, arith, Bool, true, false, cond, List, [], ◌∷◌, ◌++◌, length, Option, Some, None, eqb-true}
use Rattle.std.proofs.lemmas.Bool.{cases_Bool, leb-false}
use Rattle.tb_prim.specs.declared.place.Place.{Place}
use Rattle.tb_sexp.specs.Tree as datum
use Rattle.tb_expand.specs.declared.context.Context.{Context}
use Rattle.tb_expand.specs.Names.{Name, same_name, is_among, Binder, names, again, bound_twice}
use Rattle.tb_expand.specs.Trees.{Var, same_var, variables, Node, Nodes, nil, cons}
use Rattle.tb_expand.specs.Splits.{split}
use Rattle.tb_expand.specs.Scopes.{Scope, State, fresh, enter}
use Rattle.tb_expand.specs.Shapes.{Formals, Defined, parameters, option_list}
use Rattle.tb_expand.specs.Expressions.{follows}
use Rattle.tb_expand.specs.Bodies.{Found, Scans, scanned, expressions, a_definition, a_begin}
use Rattle.tb_expand.specs.Means.{fixed_variables, rest_variable, lambda_nodes, Means, MeansAll, MeansSequence, MeansLambda, MeansDefined, MeansEach, MeansBody}
use Rattle.tb_expand.specs.Means.{a_constant, a_name, operands, a_sequence, a_lambda, a_let, a_letrec, no_more, one_more, alone, several, closure, a_value, a_procedure, none_defined, one_defined, plain_body, defining_body}
use Rattle.tb_expand.specs.Texts.{MeansForm, MeansForms, MeansText, an_expression, a_global, forms_of_begin, no_form, one_form, a_text}
use Rattle.tb_expand.specs.Closed.{binders_of, binders_of_all, one_if, times}
use Rattle.tb_expand.proofs.Times.{times_joined, any_times, past, past_at, past_below, past_more, past_least}
use Rattle.tb_expand.proofs.FirstOccurrences.{same_name_true, same_var_true}
use Rattle.tb_expand.proofs.NamedVariables.{count}
use Rattle.tb_expand.proofs.SplitCounts.{split_binds}
use Rattle.tb_expand.proofs.GoodExpressions.{IsGood, good_expression}
use Rattle.tb_expand.proofs.CountedMeanings.{opened_steps, counted_steps, bound_steps, finished_steps, constant_steps, IsBuilt, built_counted, name_counted, parameters_listed, binders_joined}

-- names that are bound together are different
abbrev name_count : Name → List Name → ℕ
name_count x xs = times (same_name x) xs

none_times : (x : Name) (xs : List Name) → is_among x xs ≡ false → name_count x xs ≡ 0
none_times x xs e = let k = leb-false 1 (name_count x xs) (sym (any_times (same_name x) xs) ∙ e) in omega arith

one_name : (x b : Name) (seen : List Name) → is_among b seen ≡ false → name_count x seen ≤ 1 → name_count x (seen ++ b ∷ []) ≤ 1
one_name x b seen e h =
    let j = times_joined (same_name x) seen (b ∷ []) in
    ⊎_elim
    (λ k. let q : name_count x seen ≡ name_count b seen = ap (λ v. name_count v seen) (same_name_true x b k) in
    let z = none_times b seen e in let o : one_if (same_name x b) ≡ 1 = ap one_if k in omega arith)
    (λ k. let o : one_if (same_name x b) ≡ 0 = ap one_if k in omega arith)
    (cases_Bool (same_name x b))

again_case : (b : Bool) (p : Place) (o : Option Place) → cond b (Some p) o ≡ None → (b ≡ false) × (o ≡ None)
again_case true p o e = absurd cc
again_case false p o e = (refl, e)

again_once : (seen : List Name) (bs : List Binder) → again seen bs ≡ None → ((x : Name) → name_count x seen ≤ 1) → (x : Name) → name_count x seen + name_count x (names bs) ≤ 1
again_once seen [] e h x = let k = h x in omega arith
again_once seen (b ∷ bs) e h x =
    let c = again_case (is_among b.name seen) b.place (again (seen ++ (b.name ∷ [])) bs) e in
    let r = again_once (seen ++ (b.name ∷ [])) bs c.1 (λ y. one_name y b.name seen c.0 (h y)) x in
    let j = times_joined (same_name x) seen (b.name ∷ []) in
    omega arith

names_once : (bs : List Binder) → bound_twice bs ≡ None → (x : Name) → name_count x (names bs) ≤ 1
names_once bs e x = let k = again_once [] bs e (λ y. omega arith) x in omega arith

module _ (y : Var) where
  -- one where the scope of the variable is new
  abbrev new : State → ℕ
  new st = past y.scope (fresh st)

  new_same : (st st' : State) → st'.scopes ≡ st.scopes → new st' ≡ new st
  new_same st st' e = ap (λ (ss : List Scope). past y.scope (length ss + 1)) e

  in_scope_by : (s : ℕ) (xs : List Name) → (y.scope == s) ≡ true → count y (variables s xs) ≡ name_count y.name xs
  in_scope_by s [] e = refl
  in_scope_by s (x ∷ xs) e =
      let h = in_scope_by s xs e in
      let k : one_if ((y.scope == s) && same_name y.name x) ≡ one_if (same_name y.name x) = ap (λ b. one_if (b && same_name y.name x)) e in
      omega arith

  not_in_scope : (s : ℕ) (xs : List Name) → (y.scope == s) ≡ false → count y (variables s xs) ≡ 0
  not_in_scope s [] e = refl
  not_in_scope s (x ∷ xs) e =
      let h = not_in_scope s xs e in
      let k : one_if ((y.scope == s) && same_name y.name x) ≡ 0 = ap (λ b. one_if (b && same_name y.name x)) e in
      omega arith

  scope_once : (s : ℕ) (bs : List Binder) → bound_twice bs ≡ None → count y (variables s (names bs)) + past y.scope (s + 1) ≤ past y.scope s
  scope_once s bs e =
      ⊎_elim
      (λ k. let q = eqb-true y.scope s k in
      let a = in_scope_by s (names bs) k in
      let o = names_once bs e y.name in
      let b = past_below y.scope (s + 1) (omega arith) in
      let c = past_at y.scope s (omega arith) in omega arith)
      (λ k. let a = not_in_scope s (names bs) k in let m = past_more y.scope s (s + 1) (omega arith) in omega arith)
      (cases_Bool (y.scope == s))

  entered : (st : State) (s : ℕ) (bs : List Binder) → bound_twice bs ≡ None → count y (variables (fresh st) (names bs)) + new (enter st s (names bs)) ≤ new st
  entered st s bs e =
      let h = scope_once (fresh st) bs e in
      let q : new (enter st s (names bs)) ≡ past y.scope (fresh st + 1) = ap (past y.scope) (omega arith) in
      omega arith

  one_defined_once : (st : State) (s : ℕ) (x : Name) → count y (record { scope = fresh st; name = x } ∷ []) + new (enter st s (x ∷ [])) ≤ new st
  one_defined_once st s x =
      let q : new (enter st s (x ∷ [])) ≡ past y.scope (fresh st + 1) = ap (past y.scope) (omega arith) in
      let v : Var = record { scope = fresh st; name = x } in
      ⊎_elim
      (λ k. let e : y.scope ≡ fresh st = ap (λ (w : Var). w.scope) (same_var_true y v k) in
      let a : one_if (same_var y v) ≡ 1 = ap one_if k in
      let b = past_below y.scope (fresh st + 1) (omega arith) in
      let c = past_at y.scope (fresh st) (omega arith) in omega arith)
      (λ k. let a : one_if (same_var y v) ≡ 0 = ap one_if k in let m = past_more y.scope (fresh st) (fresh st + 1) (omega arith) in omega arith)
      (cases_Bool (same_var y v))

  scan_once : {st : State} {c : Context} {ds : datum.Trees} {f : Found} {st' : State} → Scans st c ds f st' → count y f.variables + new st' ≤ new st
  scan_once scanned = omega arith
  scan_once (expressions k) = omega arith
  scan_once (a_definition {st = st} {c = c} {e = e} k i s) = let h = scan_once s in let o = one_defined_once st c.scope e.binder.name in omega arith
  scan_once (a_begin {e = e} {f = f} k s n t) = let g = scan_once s in let h = scan_once t in let j = times_joined (same_var y) e.variables f.variables in omega arith

  mutual
    means_once : {st : State} {c : Context} {d : datum.Tree} {e : Node} {st' : State} → Means st c d e st' → count y (binders_of e) + new st' ≤ new st
    means_once (a_constant {st = st} {mid = mid} {st' = st'} {c = c} {p = p} {t = t} k a b) =
        let i = new_same st mid (opened_steps p 1 0 st c mid a).scopes in
        let j = new_same mid st' (constant_steps p t mid st' b).scopes in
        omega arith
    means_once (a_name {st = st} {st' = st'} {c = c} {p = p} {s = s} {e = e} k a) =
        let i = new_same st st' (opened_steps p 1 0 st c st' a).scopes in
        let j = (name_counted (same_var y) st c e (subst (IsGood st c) k (good_expression st c (datum.At p s)))).1 in
        omega arith
    means_once (operands {st = st} {mid = mid} {far = far} {st' = st'} {c = c} {p = p} {k = k} {es = es} q a m b l) =
        let i = new_same st mid (opened_steps p 1 0 st c mid a).scopes in
        let r = all_once m in
        let j = new_same far st' (counted_steps p (follows k) 0 far st' l).scopes in
        let g = (subst (IsBuilt (same_var y) k es) b (built_counted (same_var y) p k es)).1 in
        omega arith
    means_once (a_sequence k m) = sequence_once m
    means_once (a_lambda {st = st} {c = c} {p = p} {s = s} k m) = lambda_once m (subst (IsGood st c) k (good_expression st c (datum.At p s)))
    means_once (a_let {st = st} {mid = mid} {far = far} {c = c} {p = p} {s = s} {ps = ps} {es = es} {e = e} k a m b) =
        let xs = variables (fresh far) (names ps.binders) in
        let g : bound_twice ps.binders ≡ None = subst (IsGood st c) k (good_expression st c (datum.At p s)) in
        let i = new_same st mid (opened_steps p 1 (length ps.binders) st c mid a).scopes in
        let r = all_once m in
        let o = entered far c.scope ps.binders g in
        let u = body_once b in
        let j = times_joined (same_var y) xs (binders_of_all es ++ binders_of e) in
        let l = times_joined (same_var y) (binders_of_all es) (binders_of e) in
        omega arith
    means_once (a_letrec {st = st} {mid = mid} {last = last} {st' = st'} {c = c} {p = p} {s = s} {ps = ps} {es = es} {e = e} k a m b l) =
        let xs = variables (fresh mid) (names ps.binders) in
        let g : bound_twice ps.binders ≡ None = subst (IsGood st c) k (good_expression st c (datum.At p s)) in
        let i = new_same st mid (bound_steps p (length ps.binders) st c mid a).scopes in
        let o = entered mid c.scope ps.binders g in
        let r = all_once m in
        let u = body_once b in
        let w = new_same last st' (finished_steps p (split xs es (cons e nil)) c last st' l).scopes in
        let j = split_binds (same_var y) p xs es (cons e nil) in
        let n = times_joined (same_var y) (binders_of e) [] in
        omega arith

    all_once : {st : State} {c : Context} {ds : datum.Trees} {es : Nodes} {st' : State} → MeansAll st c ds es st' → count y (binders_of_all es) + new st' ≤ new st
    all_once no_more = omega arith
    all_once (one_more {e = e} {es = es} m ms) = let r = means_once m in let u = all_once ms in let j = times_joined (same_var y) (binders_of e) (binders_of_all es) in omega arith

    sequence_once : {st : State} {c : Context} {p : Place} {ds : datum.Trees} {e : Node} {st' : State} → MeansSequence st c p ds e st' → count y (binders_of e) + new st' ≤ new st
    sequence_once (alone m) = means_once m
    sequence_once (several {st = st} {mid = mid} {c = c} {p = p} a m) = let i = new_same st mid (opened_steps p 1 0 st c mid a).scopes in let r = all_once m in omega arith

    lambda_once : {st : State} {c : Context} {p : Place} {f : Formals} {b : datum.Trees} {e : Node} {st' : State} → MeansLambda st c p f b e st' → bound_twice (parameters f) ≡ None → count y (binders_of e) + new st' ≤ new st
    lambda_once (closure {st = st} {mid = mid} {c = c} {p = p} {f = f} {e = e} a m) g =
        let i = new_same st mid (opened_steps p (lambda_nodes c) (length (parameters f)) st c mid a).scopes in
        let o = entered mid c.scope (parameters f) g in
        let r = body_once m in
        let l = ap (count y) (parameters_listed (fresh mid) f) in
        let j = times_joined (same_var y) (fixed_variables (fresh mid) f ++ option_list (rest_variable (fresh mid) f)) (binders_of e) in
        omega arith

    defined_once : {st : State} {c : Context} {v : Defined} {e : Node} {st' : State} → MeansDefined st c v e st' → count y (binders_of e) + new st' ≤ new st
    defined_once (a_value m) = means_once m
    defined_once (a_procedure n m) = lambda_once m n

    each_once : {st : State} {c : Context} {vs : List Defined} {es : Nodes} {st' : State} → MeansEach st c vs es st' → count y (binders_of_all es) + new st' ≤ new st
    each_once none_defined = omega arith
    each_once (one_defined {e = e} {es = es} m ms) = let r = defined_once m in let u = each_once ms in let j = times_joined (same_var y) (binders_of e) (binders_of_all es) in omega arith

    body_once : {st : State} {c : Context} {p : Place} {ds : datum.Trees} {e : Node} {st' : State} → MeansBody st c p ds e st' → count y (binders_of e) + new st' ≤ new st
    body_once (plain_body s n m) = let g = scan_once s in let r = sequence_once m in omega arith
    body_once (defining_body {mid = mid} {far = far} {end = end} {st' = st'} {c = c} {p = p} {f = f} {vs = vs} {es = es} s n o b a m ms l) =
        let g = scan_once s in
        let i = new_same mid far (bound_steps p (length f.binders) mid c far a).scopes in
        let r = each_once m in
        let u = all_once ms in
        let w = new_same end st' (finished_steps p (split f.variables vs es) c end st' l).scopes in
        let j = split_binds (same_var y) p f.variables vs es in
        omega arith

  mutual
    form_once : {st : State} {c : Context} {d : datum.Tree} {es : Nodes} {st' : State} → MeansForm st c d es st' → count y (binders_of_all es) + new st' ≤ new st
    form_once (an_expression {e = e} k m) = let r = means_once m in let j = times_joined (same_var y) (binders_of e) [] in omega arith
    form_once (a_global {st = st} {mid = mid} {c = c} {p = p} {e = e} k i w a m) =
        let n = new_same st mid (opened_steps p 1 0 st c mid a).scopes in
        let r = defined_once m in
        let j = times_joined (same_var y) (binders_of e) [] in
        omega arith
    form_once (forms_of_begin k m) = forms_once m

    forms_once : {st : State} {c : Context} {ds : datum.Trees} {es : Nodes} {st' : State} → MeansForms st c ds es st' → count y (binders_of_all es) + new st' ≤ new st
    forms_once no_form = omega arith
    forms_once (one_form {es = es} {fs = fs} m ms) = let r = form_once m in let u = forms_once ms in let j = binders_joined (same_var y) es fs in omega arith

-- the variables of a scope, and those that a scan finds
pub variables_once : (s : ℕ) (bs : List Binder) → bound_twice bs ≡ None → (y : Var) → count y (variables s (names bs)) ≤ 1
variables_once s bs e y = let h = scope_once y s bs e in let l = past_least y.scope s in omega arith

pub found_once : {st : State} {c : Context} {ds : datum.Trees} {f : Found} {st' : State} → Scans st c ds f st' → (y : Var) → count y f.variables ≤ 1
found_once {st = st} s y = let h = scan_once y s in let l = past_least y.scope (fresh st) in omega arith

pub text_once : (library : Bool) (ds : datum.Trees) (es : Nodes) → MeansText library ds es → (y : Var) → times (same_var y) (binders_of_all es) ≤ 1
text_once library ds es (a_text m o) y = let r = forms_once y m in let l = past_least y.scope 1 in let q : past y.scope (0 + 1) ≡ past y.scope 1 = refl in omega arith
