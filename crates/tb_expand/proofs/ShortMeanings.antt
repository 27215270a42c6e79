-- What a text means has short constants.
use Rattle.std.proofs.Common.{◌≡◌, refl, subst, ◌∙◌, ℕ, ◌+◌, ◌^◌, ◌==◌, ◌&&◌, not, nat_le, Bool, true, false, cond, List, [], ◌∷◌, length, Option, Some, None}
use Rattle.tb_prim.specs.declared.place.Place.{Place}
use Rattle.tb_prim.specs.declared.primitive.Primitive.{Primitive}
use Rattle.tb_prim.specs.Primitives.{arity_of}
use Rattle.tb_sexp.specs.Tree as datum
use Rattle.tb_expand.specs.declared.context.Context.{Context}
use Rattle.tb_expand.specs.declared.form.Form.{Form}
use Rattle.tb_expand.specs.declared.form.Form.TheVariants.{Applying}
use Rattle.tb_expand.specs.Names.{Binder, names, bound_twice}
use Rattle.tb_expand.specs.Trees.{Var, variables, Node, Core, Nodes, nil, cons, joined}
use Rattle.tb_expand.specs.Splits.{Bindings, binding_if, is_steady, chosen, Split, split, assigned_before, in_order, letrec_round, let_round, undefined, node_of, first_deep, inserted}
use Rattle.tb_expand.specs.Words.{Meaning, Variable, Special, Integrated, Plain, is_of_many}
use Rattle.tb_expand.specs.Refusals as refusal
use Rattle.tb_expand.specs.Refusals.{Refusal}
use Rattle.tb_expand.specs.Scopes.{State, fresh, meaning}
use Rattle.tb_expand.specs.Limits.{Limited, Within, Past, counted, opened, how_many_data}
use Rattle.tb_expand.specs.Shapes.{Formals, Defined, parameters, Parts, QuoteOf, LambdaOf, IfOf, ShortIfOf, SetOf, BeginOf, LetOf, LetrecOf, ApplyOf, Unbuilt, parts_of}
use Rattle.tb_expand.specs.Expressions as expr
use Rattle.tb_expand.specs.Expressions.{Expression, Wrong, Constantly, Naming, Operands, Sequence, Procedural, Recursion, Build, Choosing, ChoosingOne, AssigningLocal, AssigningGlobal, Using, ApplyingTo, Calling, Head, Operator, Keyword, Primitively, head, word_alone, named, assigned, binding_once, are_fixnums_in, constantly, of_parts, misused, by_head, expression, built, follows}
use Rattle.tb_expand.specs.Bodies.{Found, Scans, scanned, expressions, a_definition, a_begin}
use Rattle.tb_expand.specs.Means.{lambda_nodes, bound_together, finished, not_deep, Means, MeansAll, MeansSequence, MeansLambda, MeansDefined, MeansEach, MeansBody}
use Rattle.tb_expand.specs.Means.{a_constant, a_name, operands, a_sequence, a_lambda, a_let, a_letrec, no_more, one_more, alone, several, closure, a_value, a_procedure, none_defined, one_defined, plain_body, defining_body}
use Rattle.tb_expand.specs.Texts.{MeansForm, MeansForms, MeansText, an_expression, a_global, forms_of_begin, no_form, one_form, a_text}
use Rattle.tb_expand.specs.Constants.{HasShort, HasShortIn, HaveShort}
use Rattle.tb_expand.proofs.ShortConstants.{AreShortTexts, constant_short}

-- what a datum is: its numbers are fixnums, and a name has no constant
abbrev IsGood : Expression → Type 0
IsGood (Wrong r) = Unit {0}
IsGood (Constantly s) = are_fixnums_in s ≡ true
IsGood (Naming e) = HasShortIn e
IsGood (Operands k ds) = Unit {0}
IsGood (Sequence ds) = Unit {0}
IsGood (Procedural f b) = Unit {0}
IsGood (expr.Binding ps b) = Unit {0}
IsGood (Recursion ps b) = Unit {0}

good_constant : (p : Place) (s : datum.Shape) (b : Bool) → are_fixnums_in s ≡ b → IsGood (cond b (Constantly s) (Wrong (refusal.BadForm p)))
good_constant p s true e = e
good_constant p s false e = tt

good_once : (o : Option Place) (x : Expression) → IsGood x → IsGood (binding_once o x)
good_once None x h = h
good_once (Some p) x h = tt

good_assigned : (b : Binder) (d : datum.Tree) (m : Meaning) → IsGood (assigned b d m)
good_assigned b d (Variable x) = tt
good_assigned b d (Special f) = tt
good_assigned b d (Integrated q) = tt
good_assigned b d (Plain g) = tt

good_of_parts : (st : State) (c : Context) (p : Place) (o : Option Parts) → IsGood (of_parts st c p o)
good_of_parts st c p None = tt
good_of_parts st c p (Some (QuoteOf (datum.At q s))) = good_constant p s (are_fixnums_in s) refl
good_of_parts st c p (Some (LambdaOf f b)) = good_once (bound_twice (parameters f)) (Procedural f b) tt
good_of_parts st c p (Some (IfOf a b d)) = tt
good_of_parts st c p (Some (ShortIfOf a b)) = tt
good_of_parts st c p (Some (SetOf b d)) = good_assigned b d (meaning st c b.name)
good_of_parts st c p (Some (BeginOf ds)) = tt
good_of_parts st c p (Some (LetOf ps b)) = good_once (bound_twice ps.binders) (expr.Binding ps b) tt
good_of_parts st c p (Some (LetrecOf ps b)) = good_once (bound_twice ps.binders) (Recursion ps b) tt
good_of_parts st c p (Some (ApplyOf f l)) = tt
good_of_parts st c p (Some Unbuilt) = tt

good_misused : (p : Place) (h : datum.Tree) (b : Bool) → IsGood (misused p h b)
good_misused p h true = tt
good_misused p h false = tt

good_use : (p : Place) (h : datum.Tree) (ds : datum.Trees) (q : Primitive) (b : Bool) → IsGood (cond b (Operands (Using q) ds) (misused p h (is_of_many q)))
good_use p h ds q true = tt
good_use p h ds q false = good_misused p h (is_of_many q)

good_by_head : (st : State) (c : Context) (p : Place) (h : datum.Tree) (ds : datum.Trees) (x : Head) → IsGood (by_head st c p h ds x)
good_by_head st c p h ds Operator = tt
good_by_head st c p h ds (Keyword f) = good_of_parts st c p (parts_of f ds)
good_by_head st c p h ds (Primitively q) = good_use p h ds q (how_many_data ds == arity_of q)

good_alone : (p : Place) (f : Form) → IsGood (word_alone p f)
good_alone p Applying = tt
good_alone p f = tt

good_named : (p : Place) (m : Meaning) → IsGood (named p m)
good_named p (Variable x) = tt
good_named p (Special f) = good_alone p f
good_named p (Integrated q) = tt
good_named p (Plain g) = tt

good_expression : (st : State) (c : Context) (d : datum.Tree) → IsGood (expression st c d)
unfolding expression
good_expression st c (datum.At p datum.Nil) = tt
good_expression st c (datum.At p (datum.Truth b)) = refl
good_expression st c (datum.At p (datum.Fixnum n)) = good_constant p (datum.Fixnum n) (are_fixnums_in (datum.Fixnum n)) refl
good_expression st c (datum.At p (datum.Character n)) = refl
good_expression st c (datum.At p (datum.String s)) = refl
good_expression st c (datum.At p (datum.Name s alias)) = good_named p (meaning st c (record { text = s; alias = alias }))
good_expression st c (datum.At p (datum.Proper datum.none)) = tt
good_expression st c (datum.At p (datum.Proper (datum.more h ds))) = good_by_head st c p h ds (head st c h)
good_expression st c (datum.At p (datum.Dotted ds d)) = tt
good_expression st c (datum.At p (datum.Vector ds)) = tt

-- limits on nodes leave the static objects
abbrev pub Leaves : State → Limited → Type 0
Leaves st (Within mid) = (st.symbols ≡ mid.symbols) × (st.objects ≡ mid.objects) × (st.words ≡ mid.words)
Leaves st (Past r) = Unit {0}

leaves_either : (st : State) (b : Bool) (l m : Limited) → Leaves st l → Leaves st m → Leaves st (cond b l m)
leaves_either st true l m h k = h
leaves_either st false l m h k = k

pub counted_leaves : (p : Place) (n v : ℕ) (st : State) → Leaves st (counted p n v st)
unfolding counted
counted_leaves p n v st = leaves_either st (nat_le (st.nodes + n) 1000000 && nat_le (st.variables + v) (2 ^ 24)) (Within (record st { nodes = st.nodes + n; variables = st.variables + v })) (Past (refusal.Budget p)) (refl, refl, refl) tt

pub opened_leaves : (p : Place) (n v : ℕ) (st : State) (c : Context) → Leaves st (opened p n v st c)
unfolding opened
opened_leaves p n v st c = leaves_either st (c.levels == 0) (Past (refusal.TooDeep p)) (counted p n v st) tt (counted_leaves p n v st)

pub bound_leaves : (p : Place) (n : ℕ) (st : State) (c : Context) → Leaves st (bound_together p n st c)
bound_leaves p n st c = leaves_either st (n == 0) (Within st) (opened p 0 n st c) (refl, refl, refl) (opened_leaves p 0 n st c)

deep_leaves : (st : State) (o : Option Place) (l : Limited) → Leaves st l → Leaves st (not_deep o l)
deep_leaves st None l h = h
deep_leaves st (Some p) l h = tt

pub finished_leaves : (p : Place) (s : Split) (c : Context) (st : State) → Leaves st (finished p s c st)
finished_leaves p s c st = deep_leaves st (first_deep c.levels (node_of p s)) (counted p (inserted s) 0 st) (counted_leaves p (inserted s) 0 st)

still_short : (st mid : State) (l : Limited) → Leaves st l → l ≡ Within mid → AreShortTexts st.symbols → AreShortTexts mid.symbols
still_short st mid l k e h = subst AreShortTexts (subst (Leaves st) e k).0 h

-- nodes of parts
abbrev IsShortOption : Option Core → Type 0
IsShortOption None = Unit {0}
IsShortOption (Some e) = HasShortIn e

built_short : (p : Place) (k : Build) (es : Nodes) → HaveShort es → IsShortOption (built p k es)
built_short p Choosing (cons a (cons b (cons c nil))) h = (h.0, h.1.0, h.1.1.0)
built_short p ChoosingOne (cons a (cons b nil)) h = (h.0, h.1.0, tt)
built_short p (AssigningLocal x) (cons e nil) h = h.0
built_short p (AssigningGlobal q g) (cons e nil) h = h.0
built_short p (Using q) es h = h
built_short p ApplyingTo (cons f (cons l nil)) h = (h.0, h.1.0)
built_short p Calling (cons f es) h = h
built_short p k es h = tt

binding_short : (b : Bool) (x : Var) (e : Node) (r : Bindings) → HasShort e → HaveShort r.values → HaveShort (binding_if b x e r).values
binding_short true x e r h k = (h, k)
binding_short false x e r h k = k

chosen_short : (b : Bool) (parts : Nodes) (xs : List Var) (es : Nodes) → HaveShort es → HaveShort (chosen b parts xs es).values
chosen_short b parts [] es h = tt
chosen_short b parts (x ∷ xs) nil h = tt
chosen_short true parts (x ∷ xs) (cons e es) h = binding_short (is_steady parts x e) x e (chosen true parts xs es) h.0 (chosen_short true parts xs es h.1)
chosen_short false parts (x ∷ xs) (cons e es) h = binding_short (not (is_steady parts x e)) x e (chosen false parts xs es) h.0 (chosen_short false parts xs es h.1)

before_short : (p : Place) (xs : List Var) (vs es : Nodes) → HaveShort vs → HaveShort es → HaveShort (assigned_before p xs vs es)
before_short p [] vs es h k = k
before_short p (x ∷ xs) nil es h k = k
before_short p (x ∷ xs) (cons v vs) es h k = (h.0, before_short p xs vs es h.1 k)

in_order_short : (p : Place) (es : Nodes) → HaveShort es → HasShort (in_order p es)
in_order_short p nil h = tt
in_order_short p (cons e nil) h = h.0
in_order_short p (cons e (cons f es)) h = h

letrec_short : (p : Place) (xs : List Var) (vs : Nodes) (e : Node) → HaveShort vs → HasShort e → HasShort (letrec_round p xs vs e)
letrec_short p [] vs e h k = k
letrec_short p (x ∷ xs) vs e h k = (h, k)

undefined_short : (p : Place) (xs : List Var) → HaveShort (undefined p xs)
undefined_short p [] = tt
undefined_short p (x ∷ xs) = (tt, undefined_short p xs)

let_short : (p : Place) (xs : List Var) (e : Node) → HasShort e → HasShort (let_round p xs e)
let_short p [] e h = h
let_short p (x ∷ xs) e h = (undefined_short p (x ∷ xs), h)

split_short : (p : Place) (xs : List Var) (vs es : Nodes) → HaveShort vs → HaveShort es → HasShort (node_of p (split xs vs es))
split_short p xs vs es h k =
    let o = chosen_short false (joined vs es) xs vs h in
    let t = chosen_short true (joined vs es) xs vs h in
    let s = split xs vs es in
    let_short p s.others.variables (letrec_round p s.together.variables s.together.values (in_order p (assigned_before p s.others.variables s.others.values s.body)))
    (letrec_short p s.together.variables s.together.values (in_order p (assigned_before p s.others.variables s.others.values s.body)) t
    (in_order_short p (assigned_before p s.others.variables s.others.values s.body) (before_short p s.others.variables s.others.values s.body o k)))

joined_short : (es fs : Nodes) → HaveShort es → HaveShort fs → HaveShort (joined es fs)
joined_short nil fs h k = k
joined_short (cons e es) fs h k = (h.0, joined_short es fs h.1 k)

-- and so does a scan
pub scan_leaves : {st : State} {c : Context} {ds : datum.Trees} {f : Found} {st' : State} → Scans st c ds f st' → Leaves st (Within st')
scan_leaves scanned = (refl, refl, refl)
scan_leaves (expressions k) = (refl, refl, refl)
scan_leaves (a_definition k i s) = scan_leaves s
scan_leaves (a_begin k s q t) = let a = scan_leaves s in let b = scan_leaves t in (a.0 ∙ b.0, a.1 ∙ b.1, a.2 ∙ b.2)

scan_short : {st : State} {c : Context} {ds : datum.Trees} {f : Found} {st' : State} → Scans st c ds f st' → AreShortTexts st.symbols → AreShortTexts st'.symbols
scan_short {st = st} {st' = st'} s h = still_short st st' (Within st') (scan_leaves s) refl h

mutual
  means_short : {st : State} {c : Context} {d : datum.Tree} {e : Node} {st' : State} → Means st c d e st' → AreShortTexts st.symbols → HasShort e × AreShortTexts st'.symbols
  means_short (a_constant {st = st} {mid = mid} {st' = st'} {c = c} {p = p} {s = s} {t = t} k a b) h =
      constant_short p t mid st' b (subst IsGood k (good_expression st c (datum.At p s))) (still_short st mid (opened p 1 0 st c) (opened_leaves p 1 0 st c) a h)
  means_short (a_name {st = st} {st' = st'} {c = c} {p = p} {s = s} {e = e} k a) h =
      (subst IsGood k (good_expression st c (datum.At p s)), still_short st st' (opened p 1 0 st c) (opened_leaves p 1 0 st c) a h)
  means_short (operands {st = st} {mid = mid} {far = far} {st' = st'} {c = c} {p = p} {k = k} {es = es} q a m b l) h =
      let r = all_short m (still_short st mid (opened p 1 0 st c) (opened_leaves p 1 0 st c) a h) in
      (subst IsShortOption b (built_short p k es r.0), still_short far st' (counted p (follows k) 0 far) (counted_leaves p (follows k) 0 far) l r.1)
  means_short (a_sequence k m) h = sequence_short m h
  means_short (a_lambda k m) h = lambda_short m h
  means_short (a_let {st = st} {mid = mid} {c = c} {p = p} {ps = ps} k a m b) h =
      let r = all_short m (still_short st mid (opened p 1 (length ps.binders) st c) (opened_leaves p 1 (length ps.binders) st c) a h) in
      let s = body_short b r.1 in
      ((r.0, s.0), s.1)
  means_short (a_letrec {st = st} {mid = mid} {last = last} {st' = st'} {c = c} {p = p} {ps = ps} {es = es} {e = e} k a m b l) h =
      let r = all_short m (still_short st mid (bound_together p (length ps.binders) st c) (bound_leaves p (length ps.binders) st c) a h) in
      let s = body_short b r.1 in
      (split_short p (variables (fresh mid) (names ps.binders)) es (cons e nil) r.0 (s.0, tt), still_short last st' _ (finished_leaves p (split (variables (fresh mid) (names ps.binders)) es (cons e nil)) c last) l s.1)

  all_short : {st : State} {c : Context} {ds : datum.Trees} {es : Nodes} {st' : State} → MeansAll st c ds es st' → AreShortTexts st.symbols → HaveShort es × AreShortTexts st'.symbols
  all_short no_more h = (tt, h)
  all_short (one_more m ms) h = let a = means_short m h in let b = all_short ms a.1 in ((a.0, b.0), b.1)

  sequence_short : {st : State} {c : Context} {p : Place} {ds : datum.Trees} {e : Node} {st' : State} → MeansSequence st c p ds e st' → AreShortTexts st.symbols → HasShort e × AreShortTexts st'.symbols
  sequence_short (alone m) h = means_short m h
  sequence_short (several {st = st} {mid = mid} {c = c} {p = p} a m) h = all_short m (still_short st mid (opened p 1 0 st c) (opened_leaves p 1 0 st c) a h)

  lambda_short : {st : State} {c : Context} {p : Place} {f : Formals} {b : datum.Trees} {e : Node} {st' : State} → MeansLambda st c p f b e st' → AreShortTexts st.symbols → HasShort e × AreShortTexts st'.symbols
  lambda_short (closure {st = st} {mid = mid} {c = c} {p = p} {f = f} a m) h =
      body_short m (still_short st mid (opened p (lambda_nodes c) (length (parameters f)) st c) (opened_leaves p (lambda_nodes c) (length (parameters f)) st c) a h)

  defined_short : {st : State} {c : Context} {v : Defined} {e : Node} {st' : State} → MeansDefined st c v e st' → AreShortTexts st.symbols → HasShort e × AreShortTexts st'.symbols
  defined_short (a_value m) h = means_short m h
  defined_short (a_procedure n m) h = lambda_short m h

  each_short : {st : State} {c : Context} {vs : List Defined} {es : Nodes} {st' : State} → MeansEach st c vs es st' → AreShortTexts st.symbols → HaveShort es × AreShortTexts st'.symbols
  each_short none_defined h = (tt, h)
  each_short (one_defined m ms) h = let a = defined_short m h in let b = each_short ms a.1 in ((a.0, b.0), b.1)

  body_short : {st : State} {c : Context} {p : Place} {ds : datum.Trees} {e : Node} {st' : State} → MeansBody st c p ds e st' → AreShortTexts st.symbols → HasShort e × AreShortTexts st'.symbols
  body_short (plain_body s n m) h = sequence_short m (scan_short s h)
  body_short (defining_body {mid = mid} {far = far} {end = end} {st' = st'} {c = c} {p = p} {f = f} {vs = vs} {es = es} s n o b a m ms l) h =
      let r = each_short m (still_short mid far (bound_together p (length f.binders) mid c) (bound_leaves p (length f.binders) mid c) a (scan_short s h)) in
      let t = all_short ms r.1 in
      (split_short p f.variables vs es r.0 t.0, still_short end st' _ (finished_leaves p (split f.variables vs es) c end) l t.1)

mutual
  form_short : {st : State} {c : Context} {d : datum.Tree} {es : Nodes} {st' : State} → MeansForm st c d es st' → AreShortTexts st.symbols → HaveShort es × AreShortTexts st'.symbols
  form_short (an_expression k m) h = let a = means_short m h in ((a.0, tt), a.1)
  form_short (a_global {st = st} {mid = mid} {c = c} {p = p} k i w a m) h =
      let r = defined_short m (still_short st mid (opened p 1 0 st c) (opened_leaves p 1 0 st c) a h) in
      ((r.0, tt), r.1)
  form_short (forms_of_begin k m) h = forms_short m h

  forms_short : {st : State} {c : Context} {ds : datum.Trees} {es : Nodes} {st' : State} → MeansForms st c ds es st' → AreShortTexts st.symbols → HaveShort es × AreShortTexts st'.symbols
  forms_short no_form h = (tt, h)
  forms_short (one_form {es = es} {fs = fs} m ms) h = let a = form_short m h in let b = forms_short ms a.1 in (joined_short es fs a.0 b.0, b.1)

pub text_short : (library : Bool) (ds : datum.Trees) (es : Nodes) → MeansText library ds es → HaveShort es
text_short library ds es (a_text m o) = (forms_short m tt).0
