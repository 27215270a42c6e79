-- What data mean, and the first refusal in them, are what expansion answers once it is given enough levels.
use Rattle.std.proofs.Common.{◌≡◌, ◌≢◌, refl, ap, ◌∙◌, ℕ, List, [], ◌∷◌, Option, Some, None}
use Rattle.tb_prim.specs.declared.place.Place.{Place}
use Rattle.tb_sexp.specs.Tree as datum
use Rattle.tb_expand.specs.Names.{bound_twice}
use Rattle.tb_expand.specs.Trees.{Node, Nodes}
use Rattle.tb_expand.specs.Words.{Meaning, Variable, Special, Integrated, Plain, word_of}
use Rattle.tb_expand.specs.Refusals as refusal
use Rattle.tb_expand.specs.Refusals.{Refusal}
use Rattle.tb_expand.specs.declared.context.Context.{Context}
use Rattle.tb_expand.specs.Scopes.{State}
use Rattle.tb_expand.specs.Shapes.{Formals, Defined, Definition, definition_of}
use Rattle.tb_expand.specs.Expressions.{Expression, Wrong, Constantly, Naming, Operands, Sequence, Procedural, Binding, Recursion, expression}
use Rattle.tb_expand.specs.Bodies.{Kind, Defining, Beginning, kind, Found, and_one, and_then, defined_in, Scans, scanned, expressions, a_definition, a_begin, ScanRefuses, no_definition, behind_definition, in_begin, expression_in_begin, behind_begin}
use Rattle.tb_expand.specs.Bodies as body
use Rattle.tb_expand.specs.Means.{Means, a_constant, a_name, operands, a_sequence, a_lambda, a_let, a_letrec, MeansAll, no_more, one_more, MeansSequence, alone, several, MeansLambda, closure, MeansDefined, a_value, a_procedure, MeansEach, none_defined, one_defined, MeansBody, plain_body, defining_body, Refuses, is_wrong, no_constant, no_objects, no_name, no_node, in_operands, behind_operands, in_sequence, in_lambda, no_let, in_let_values, in_let_body, no_letrec, in_letrec_values, in_letrec_body, no_split, RefusesAll, here, later, RefusesSequence, no_expressions, in_one, no_sequence, in_several, RefusesLambda, no_closure, in_closure, RefusesDefined, in_value, parameter_twice, in_procedure, RefusesEach, in_first, in_others, RefusesBody, in_scan, in_plain, defined_twice, nothing_behind, no_definitions, in_values, in_rest, no_body_split}
use Rattle.tb_expand.specs.Texts.{top_kind, MeansForm, an_expression, a_global, forms_of_begin, MeansForms, no_form, one_form, RefusesForm, in_expression, no_global, no_plain_name, no_room, in_global, in_forms, RefusesForms, in_form, in_later_form}
use Rattle.tb_expand.specs.calls.Expand.{Answer, Made, Refused, Scanner, scan_define, scan_behind, scan_kind, scan, Deeper, all, sequence, Bodies, lambda, procedure, defined, each, body_parts, body_defining, body_found, made, of_expression, expand, bodies, global_as, global, forms, form_of_kind, form}
use Rattle.tb_expand.proofs.Answers.{Reaches, reached_now, on_reached, on_refused, limit_reached, limit_refused, along, one_level}

-- scans
scan_by : {st : State} {c : Context} {d : datum.Tree} {ds : datum.Trees} {a : Answer Found} (k : Kind) → kind st c d ≡ k →
    Reaches (λ m. scan_kind (scan m) st c d ds k) a → Reaches (λ m. scan m st c (datum.more d ds)) a
scan_by {st = st} {c = c} {d = d} {ds = ds} {a = a} k e r =
    one_level (λ m. scan m st c (datum.more d ds)) a (along (λ m k. scan_kind (scan m) st c d ds k) (kind st c d) k a e r)

behind_known : (again : Scanner) (c : Context) (p : Place) (e : Found) (mid : State) (ds rest : datum.Trees) → rest ≢ datum.none → scan_behind again c p e mid ds rest ≡ Refused (refusal.BadForm p)
behind_known again c p e mid ds datum.none n = absurd (n refl)
behind_known again c p e mid ds (datum.more x xs) n = refl

mutual
  scan_reached : {st : State} {c : Context} {ds : datum.Trees} {f : Found} {st' : State} → Scans st c ds f st' → Reaches (λ m. scan m st c ds) (Made f st')
  scan_reached (scanned {st = st} {c = c}) = one_level (λ m. scan m st c datum.none) _ (reached_now _)
  scan_reached (expressions k) = scan_by body.Expression k (reached_now _)
  scan_reached (a_definition {st = st} {c = c} {d = d} {ds = ds} {es = es} {p = p} {e = e} k i s) =
      scan_by (Defining p es) k (along (λ m o. scan_define (scan m) st c p ds o) _ _ _ i (on_reached _ _ _ _ _ (scan_reached s) (reached_now _)))
  scan_reached (a_begin {st = st} {mid = mid} {c = c} {d = d} {ds = ds} {es = es} {p = p} {e = e} k s q t) =
      scan_by (Beginning p es) k (on_reached _ _ _ _ _ (scan_reached s)
      (along (λ m r. scan_behind (scan m) c p e mid ds r) _ _ _ q (on_reached _ _ _ _ _ (scan_reached t) (reached_now _))))

scan_refusal_reached : {st : State} {c : Context} {ds : datum.Trees} {r : Refusal} → ScanRefuses st c ds r → Reaches (λ m. scan m st c ds) (Refused r)
scan_refusal_reached (no_definition {st = st} {c = c} {d = d} {ds = ds} {es = es} {p = p} k i) =
    scan_by (Defining p es) k (along (λ m o. scan_define (scan m) st c p ds o) _ _ _ i (reached_now _))
scan_refusal_reached (behind_definition {st = st} {c = c} {ds = ds} {es = es} {p = p} k i n) =
    scan_by (Defining p es) k (along (λ m o. scan_define (scan m) st c p ds o) _ _ _ i (on_refused _ _ _ (scan_refusal_reached n)))
scan_refusal_reached (in_begin {es = es} {p = p} k n) = scan_by (Beginning p es) k (on_refused _ _ _ (scan_refusal_reached n))
scan_refusal_reached (expression_in_begin {mid = mid} {c = c} {ds = ds} {es = es} {p = p} {e = e} k s q) =
    scan_by (Beginning p es) k (on_reached _ _ _ _ _ (scan_reached s)
    (record { levels = 0; reach = λ m le. behind_known (scan m) c p e mid ds e.rest q }))
scan_refusal_reached (behind_begin {mid = mid} {c = c} {ds = ds} {es = es} {p = p} {e = e} k s q n) =
    scan_by (Beginning p es) k (on_reached _ _ _ _ _ (scan_reached s)
    (along (λ m r. scan_behind (scan m) c p e mid ds r) _ _ _ q (on_refused _ _ _ (scan_refusal_reached n))))

-- expressions
by : {st : State} {c : Context} {p : Place} {s : datum.Shape} {a : Answer Node} (x : Expression) → expression st c (datum.At p s) ≡ x →
    Reaches (λ m. of_expression (expand m) (bodies m) st c p x) a → Reaches (λ m. expand m st c (datum.At p s)) a
by {st = st} {c = c} {p = p} {s = s} {a = a} x e r =
    one_level (λ m. expand m st c (datum.At p s)) a (along (λ m x. of_expression (expand m) (bodies m) st c p x) (expression st c (datum.At p s)) x a e r)

by_found : {st mid : State} {c : Context} {p : Place} {ds : datum.Trees} {f : Found} {a : Answer Node} (vs : List Defined) → Scans st c ds f mid → f.values ≡ vs →
    Reaches (λ m. body_found (expand m) (bodies m) c p f mid vs) a → Reaches (λ m. bodies m st c p ds) a
by_found {st = st} {mid = mid} {c = c} {p = p} {ds = ds} {f = f} {a = a} vs s e r =
    one_level (λ m. bodies m st c p ds) a (on_reached _ _ _ _ _ (scan_reached s) (along (λ m vs. body_found (expand m) (bodies m) c p f mid vs) f.values vs a e r))

found_known : (again : Deeper) (bodies : Bodies) (c : Context) (p : Place) (f : Found) (mid : State) (vs : List Defined) → vs ≢ [] →
    body_found again bodies c p f mid vs ≡ body_defining again bodies c p f mid (bound_twice f.binders)
found_known again bodies c p f mid [] n = absurd (n refl)
found_known again bodies c p f mid (v ∷ vs) n = refl

by_definitions : {st mid : State} {c : Context} {p : Place} {ds : datum.Trees} {f : Found} {a : Answer Node} (o : Option Place) → Scans st c ds f mid → f.values ≢ [] → bound_twice f.binders ≡ o →
    Reaches (λ m. body_defining (expand m) (bodies m) c p f mid o) a → Reaches (λ m. bodies m st c p ds) a
by_definitions {st = st} {mid = mid} {c = c} {p = p} {ds = ds} {f = f} {a = a} o s v e r =
    by_found f.values s refl (record {
      levels = r.levels;
      reach = λ m le. found_known (expand m) (bodies m) c p f mid f.values v ∙ ap (body_defining (expand m) (bodies m) c p f mid) e ∙ r.reach m le;
    })

abbrev whole_body : Deeper → Bodies → Context → Place → Found → State → datum.Trees → Answer Node
whole_body again bodies c p f mid r = body_parts again bodies c p f mid (datum.more (datum.At p datum.Nil) r)

parts_known : (again : Deeper) (bodies : Bodies) (c : Context) (p : Place) (f : Found) (mid : State) (rest : datum.Trees) → rest ≢ datum.none →
    body_parts again bodies c p f mid rest ≡ whole_body again bodies c p f mid rest
parts_known again bodies c p f mid datum.none n = absurd (n refl)
parts_known again bodies c p f mid (datum.more d ds) n = refl

by_whole : {st mid : State} {c : Context} {p : Place} {ds : datum.Trees} {f : Found} {a : Answer Node} → Scans st c ds f mid → f.values ≢ [] → bound_twice f.binders ≡ None → f.rest ≢ datum.none →
    Reaches (λ m. whole_body (expand m) (bodies m) c p f mid f.rest) a → Reaches (λ m. bodies m st c p ds) a
by_whole {mid = mid} {c = c} {p = p} {f = f} s v e n r =
    by_definitions None s v e (record { levels = r.levels; reach = λ m le. parts_known (expand m) (bodies m) c p f mid f.rest n ∙ r.reach m le })

mutual
  pub means_reached : {st : State} {c : Context} {d : datum.Tree} {e : Node} {st' : State} → Means st c d e st' → Reaches (λ m. expand m st c d) (Made e st')
  means_reached (a_constant {t = t} e o l) = by (Constantly t) e (limit_reached _ _ _ _ o (limit_reached _ _ _ _ l (reached_now _)))
  means_reached (a_name {e = x} e o) = by (Naming x) e (limit_reached _ _ _ _ o (reached_now _))
  means_reached (operands {far = far} {p = p} {k = k} {ds = ds} {es = es} e o m b l) =
      by (Operands k ds) e (limit_reached _ _ _ _ o (on_reached _ _ _ _ _ (all_reached m)
      (along (λ n x. made p k far es x) _ _ _ b (limit_reached _ _ _ _ l (reached_now _)))))
  means_reached (a_sequence {ds = ds} e m) = by (Sequence ds) e (sequence_reached m)
  means_reached (a_lambda {f = f} {b = b} e m) = by (Procedural f b) e (lambda_reached m)
  means_reached (a_let {ps = ps} {b = b} e o ms m) =
      by (Binding ps b) e (limit_reached _ _ _ _ o (on_reached _ _ _ _ _ (all_reached ms) (on_reached _ _ _ _ _ (body_reached m) (reached_now _))))
  means_reached (a_letrec {ps = ps} {b = b} e o ms m g) =
      by (Recursion ps b) e (limit_reached _ _ _ _ o (on_reached _ _ _ _ _ (all_reached ms) (on_reached _ _ _ _ _ (body_reached m) (limit_reached _ _ _ _ g (reached_now _)))))

  all_reached : {st : State} {c : Context} {ds : datum.Trees} {es : Nodes} {st' : State} → MeansAll st c ds es st' → Reaches (λ m. all (expand m) st c ds) (Made es st')
  all_reached no_more = reached_now _
  all_reached (one_more m ms) = on_reached _ _ _ _ _ (means_reached m) (on_reached _ _ _ _ _ (all_reached ms) (reached_now _))

  sequence_reached : {st : State} {c : Context} {p : Place} {ds : datum.Trees} {e : Node} {st' : State} → MeansSequence st c p ds e st' → Reaches (λ m. sequence (expand m) st c p ds) (Made e st')
  sequence_reached (alone m) = means_reached m
  sequence_reached (several o ms) = limit_reached _ _ _ _ o (on_reached _ _ _ _ _ (all_reached ms) (reached_now _))

  lambda_reached : {st : State} {c : Context} {p : Place} {f : Formals} {b : datum.Trees} {e : Node} {st' : State} → MeansLambda st c p f b e st' → Reaches (λ m. lambda (bodies m) st c p f b) (Made e st')
  lambda_reached (closure o m) = limit_reached _ _ _ _ o (on_reached _ _ _ _ _ (body_reached m) (reached_now _))

  defined_reached : {st : State} {c : Context} {v : Defined} {e : Node} {st' : State} → MeansDefined st c v e st' → Reaches (λ m. defined (expand m) (bodies m) st c v) (Made e st')
  defined_reached (a_value m) = means_reached m
  defined_reached (a_procedure {st = st} {c = c} {p = p} {f = f} {b = b} t m) = along (λ m o. procedure (bodies m) st c p f b o) _ _ _ t (lambda_reached m)

  each_reached : {st : State} {c : Context} {vs : List Defined} {es : Nodes} {st' : State} → MeansEach st c vs es st' → Reaches (λ m. each (expand m) (bodies m) st c vs) (Made es st')
  each_reached none_defined = reached_now _
  each_reached (one_defined m ms) = on_reached _ _ _ _ _ (defined_reached m) (on_reached _ _ _ _ _ (each_reached ms) (reached_now _))

  body_reached : {st : State} {c : Context} {p : Place} {ds : datum.Trees} {e : Node} {st' : State} → MeansBody st c p ds e st' → Reaches (λ m. bodies m st c p ds) (Made e st')
  body_reached (plain_body s v m) = by_found [] s v (sequence_reached m)
  body_reached (defining_body s v t n o ms rs g) =
      by_whole s v t n (limit_reached _ _ _ _ o (on_reached _ _ _ _ _ (each_reached ms) (on_reached _ _ _ _ _ (all_reached rs) (limit_reached _ _ _ _ g (reached_now _)))))

mutual
  pub refusal_reached : {st : State} {c : Context} {d : datum.Tree} {r : Refusal} → Refuses st c d r → Reaches (λ m. expand m st c d) (Refused r)
  refusal_reached (is_wrong {st = st} {c = c} {d = datum.At p s} {r = r} e) = by (Wrong r) e (reached_now _)
  refusal_reached (no_constant {t = t} e o) = by (Constantly t) e (limit_refused _ _ _ o)
  refusal_reached (no_objects {t = t} e o l) = by (Constantly t) e (limit_reached _ _ _ _ o (limit_refused _ _ _ l))
  refusal_reached (no_name {e = x} e o) = by (Naming x) e (limit_refused _ _ _ o)
  refusal_reached (no_node {k = k} {ds = ds} e o) = by (Operands k ds) e (limit_refused _ _ _ o)
  refusal_reached (in_operands {k = k} {ds = ds} e o n) = by (Operands k ds) e (limit_reached _ _ _ _ o (on_refused _ _ _ (refusals_reached n)))
  refusal_reached (behind_operands {far = far} {p = p} {k = k} {ds = ds} {es = es} e o m b l) =
      by (Operands k ds) e (limit_reached _ _ _ _ o (on_reached _ _ _ _ _ (all_reached m)
      (along (λ n x. made p k far es x) _ _ _ b (limit_refused _ _ _ l))))
  refusal_reached (in_sequence {ds = ds} e n) = by (Sequence ds) e (sequence_refused n)
  refusal_reached (in_lambda {f = f} {b = b} e n) = by (Procedural f b) e (lambda_refused n)
  refusal_reached (no_let {ps = ps} {b = b} e o) = by (Binding ps b) e (limit_refused _ _ _ o)
  refusal_reached (in_let_values {ps = ps} {b = b} e o n) = by (Binding ps b) e (limit_reached _ _ _ _ o (on_refused _ _ _ (refusals_reached n)))
  refusal_reached (in_let_body {ps = ps} {b = b} e o ms n) =
      by (Binding ps b) e (limit_reached _ _ _ _ o (on_reached _ _ _ _ _ (all_reached ms) (on_refused _ _ _ (body_refused n))))
  refusal_reached (no_letrec {ps = ps} {b = b} e o) = by (Recursion ps b) e (limit_refused _ _ _ o)
  refusal_reached (in_letrec_values {ps = ps} {b = b} e o n) = by (Recursion ps b) e (limit_reached _ _ _ _ o (on_refused _ _ _ (refusals_reached n)))
  refusal_reached (in_letrec_body {ps = ps} {b = b} e o ms n) =
      by (Recursion ps b) e (limit_reached _ _ _ _ o (on_reached _ _ _ _ _ (all_reached ms) (on_refused _ _ _ (body_refused n))))
  refusal_reached (no_split {ps = ps} {b = b} e o ms m g) =
      by (Recursion ps b) e (limit_reached _ _ _ _ o (on_reached _ _ _ _ _ (all_reached ms) (on_reached _ _ _ _ _ (body_reached m) (limit_refused _ _ _ g))))

  refusals_reached : {st : State} {c : Context} {ds : datum.Trees} {r : Refusal} → RefusesAll st c ds r → Reaches (λ m. all (expand m) st c ds) (Refused r)
  refusals_reached (here n) = on_refused _ _ _ (refusal_reached n)
  refusals_reached (later m n) = on_reached _ _ _ _ _ (means_reached m) (on_refused _ _ _ (refusals_reached n))

  sequence_refused : {st : State} {c : Context} {p : Place} {ds : datum.Trees} {r : Refusal} → RefusesSequence st c p ds r → Reaches (λ m. sequence (expand m) st c p ds) (Refused r)
  sequence_refused no_expressions = reached_now _
  sequence_refused (in_one n) = refusal_reached n
  sequence_refused (no_sequence o) = limit_refused _ _ _ o
  sequence_refused (in_several o n) = limit_reached _ _ _ _ o (on_refused _ _ _ (refusals_reached n))

  lambda_refused : {st : State} {c : Context} {p : Place} {f : Formals} {b : datum.Trees} {r : Refusal} → RefusesLambda st c p f b r → Reaches (λ m. lambda (bodies m) st c p f b) (Refused r)
  lambda_refused (no_closure o) = limit_refused _ _ _ o
  lambda_refused (in_closure o n) = limit_reached _ _ _ _ o (on_refused _ _ _ (body_refused n))

  defined_refused : {st : State} {c : Context} {v : Defined} {r : Refusal} → RefusesDefined st c v r → Reaches (λ m. defined (expand m) (bodies m) st c v) (Refused r)
  defined_refused (in_value n) = refusal_reached n
  defined_refused (parameter_twice {st = st} {c = c} {p = p} {f = f} {b = b} t) = along (λ m o. procedure (bodies m) st c p f b o) _ _ _ t (reached_now _)
  defined_refused (in_procedure {st = st} {c = c} {p = p} {f = f} {b = b} t n) = along (λ m o. procedure (bodies m) st c p f b o) _ _ _ t (lambda_refused n)

  each_refused : {st : State} {c : Context} {vs : List Defined} {r : Refusal} → RefusesEach st c vs r → Reaches (λ m. each (expand m) (bodies m) st c vs) (Refused r)
  each_refused (in_first n) = on_refused _ _ _ (defined_refused n)
  each_refused (in_others m n) = on_reached _ _ _ _ _ (defined_reached m) (on_refused _ _ _ (each_refused n))

  body_refused : {st : State} {c : Context} {p : Place} {ds : datum.Trees} {r : Refusal} → RefusesBody st c p ds r → Reaches (λ m. bodies m st c p ds) (Refused r)
  body_refused (in_scan {st = st} {c = c} {p = p} {ds = ds} n) = one_level (λ m. bodies m st c p ds) _ (on_refused _ _ _ (scan_refusal_reached n))
  body_refused (in_plain s v n) = by_found [] s v (sequence_refused n)
  body_refused (defined_twice {q = q} s v t) = by_definitions (Some q) s v t (reached_now _)
  body_refused (nothing_behind {mid = mid} {c = c} {p = p} {f = f} s v t n) =
      by_definitions None s v t (along (λ m r. body_parts (expand m) (bodies m) c p f mid r) _ _ _ n (reached_now _))
  body_refused (no_definitions s v t n o) = by_whole s v t n (limit_refused _ _ _ o)
  body_refused (in_values s v t n o m) = by_whole s v t n (limit_reached _ _ _ _ o (on_refused _ _ _ (each_refused m)))
  body_refused (in_rest s v t n o ms m) = by_whole s v t n (limit_reached _ _ _ _ o (on_reached _ _ _ _ _ (each_reached ms) (on_refused _ _ _ (refusals_reached m))))
  body_refused (no_body_split s v t n o ms rs g) =
      by_whole s v t n (limit_reached _ _ _ _ o (on_reached _ _ _ _ _ (each_reached ms) (on_reached _ _ _ _ _ (all_reached rs) (limit_refused _ _ _ g))))

-- the top level
by_kind : {st : State} {c : Context} {d : datum.Tree} {a : Answer Nodes} (k : Kind) → top_kind st c d ≡ k →
    Reaches (λ m. form_of_kind (expand m) (bodies m) (form m) st c d k) a → Reaches (λ m. form m st c d) a
by_kind {st = st} {c = c} {d = d} {a = a} k e r =
    one_level (λ m. form m st c d) a (along (λ m k. form_of_kind (expand m) (bodies m) (form m) st c d k) (top_kind st c d) k a e r)

by_global : {st : State} {c : Context} {d : datum.Tree} {p : Place} {ds : datum.Trees} {a : Answer Nodes} (o : Option Definition) → top_kind st c d ≡ Defining p ds → definition_of p ds ≡ o →
    Reaches (λ m. global (expand m) (bodies m) st c p o) a → Reaches (λ m. form m st c d) a
by_global {st = st} {c = c} {d = d} {p = p} {ds = ds} {a = a} o k e r =
    by_kind (Defining p ds) k (along (λ m o. global (expand m) (bodies m) st c p o) (definition_of p ds) o a e r)

by_plain : {st : State} {c : Context} {d : datum.Tree} {p : Place} {ds : datum.Trees} {i : Definition} {a : Answer Nodes} (m : Meaning) → top_kind st c d ≡ Defining p ds → definition_of p ds ≡ Some i →
    word_of c.library i.binder.name.text ≡ m → Reaches (λ n. global_as (expand n) (bodies n) st c p i m) a → Reaches (λ n. form n st c d) a
by_plain {st = st} {c = c} {d = d} {p = p} {ds = ds} {i = i} {a = a} m k e w r =
    by_global (Some i) k e (along (λ n m. global_as (expand n) (bodies n) st c p i m) (word_of c.library i.binder.name.text) m a w r)

not_plain : (again : Deeper) (bodies : Bodies) (st : State) (c : Context) (p : Place) (i : Definition) (m : Meaning) → ((g : List ℕ) → m ≢ Plain g) →
    global_as again bodies st c p i m ≡ Refused (refusal.Integrated i.binder.place)
not_plain again bodies st c p i (Variable x) n = refl
not_plain again bodies st c p i (Special f) n = refl
not_plain again bodies st c p i (Integrated q) n = refl
not_plain again bodies st c p i (Plain g) n = absurd (n g refl)

mutual
  form_reached : {st : State} {c : Context} {d : datum.Tree} {es : Nodes} {st' : State} → MeansForm st c d es st' → Reaches (λ m. form m st c d) (Made es st')
  form_reached (an_expression k m) = by_kind body.Expression k (on_reached _ _ _ _ _ (means_reached m) (reached_now _))
  form_reached (a_global {g = g} k e w o m) = by_plain (Plain g) k e w (limit_reached _ _ _ _ o (on_reached _ _ _ _ _ (defined_reached m) (reached_now _)))
  form_reached (forms_of_begin {ds = ds} {p = p} k m) = by_kind (Beginning p ds) k (forms_reached m)

  pub forms_reached : {st : State} {c : Context} {ds : datum.Trees} {es : Nodes} {st' : State} → MeansForms st c ds es st' → Reaches (λ m. forms (form m) st c ds) (Made es st')
  forms_reached no_form = reached_now _
  forms_reached (one_form m ms) = on_reached _ _ _ _ _ (form_reached m) (on_reached _ _ _ _ _ (forms_reached ms) (reached_now _))

mutual
  form_refused : {st : State} {c : Context} {d : datum.Tree} {r : Refusal} → RefusesForm st c d r → Reaches (λ m. form m st c d) (Refused r)
  form_refused (in_expression k n) = by_kind body.Expression k (on_refused _ _ _ (refusal_reached n))
  form_refused (no_global k e) = by_global None k e (reached_now _)
  form_refused (no_plain_name {st = st} {c = c} {p = p} {i = i} k e n) =
      by_plain (word_of c.library i.binder.name.text) k e refl
      (record { levels = 0; reach = λ m le. not_plain (expand m) (bodies m) st c p i (word_of c.library i.binder.name.text) n })
  form_refused (no_room {g = g} k e w o) = by_plain (Plain g) k e w (limit_refused _ _ _ o)
  form_refused (in_global {g = g} k e w o n) = by_plain (Plain g) k e w (limit_reached _ _ _ _ o (on_refused _ _ _ (defined_refused n)))
  form_refused (in_forms {ds = ds} {p = p} k n) = by_kind (Beginning p ds) k (forms_refused n)

  pub forms_refused : {st : State} {c : Context} {ds : datum.Trees} {r : Refusal} → RefusesForms st c ds r → Reaches (λ m. forms (form m) st c ds) (Refused r)
  forms_refused (in_form n) = on_refused _ _ _ (form_refused n)
  forms_refused (in_later_form m n) = on_reached _ _ _ _ _ (form_reached m) (on_refused _ _ _ (forms_refused n))
