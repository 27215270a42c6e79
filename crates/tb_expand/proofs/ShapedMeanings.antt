-- What a text means has the right shapes.
use Rattle.std.proofs.Common.{◌≡◌, ◌≢◌, refl, subst, ℕ, ◌==◌, not, ◌≤◌, arith, Bool, true, false, cond, List, [], ◌∷◌, length, Option, Some, None}
use Rattle.tb_prim.specs.declared.place.Place.{Place}
use Rattle.tb_prim.specs.declared.primitive.Primitive.{Primitive}
use Rattle.tb_prim.specs.Primitives.{arity_of}
use Rattle.tb_sexp.specs.Tree as datum
use Rattle.tb_expand.specs.declared.context.Context.{Context}
use Rattle.tb_expand.specs.declared.form.Form.{Form}
use Rattle.tb_expand.specs.declared.form.Form.TheVariants.{Applying}
use Rattle.tb_expand.specs.declared.form.Form.TheVariants as word
use Rattle.std.proofs.lemmas.Bool.{eqb-true}
use Rattle.tb_expand.proofs.ShortConstants.{both_true}
use Rattle.tb_expand.specs.Names.{Binder, names, bound_twice}
use Rattle.tb_expand.specs.Trees.{Var, variables, Node, Core, Nodes, nil, cons, joined, how_many, is_lambda, assigns_any}
use Rattle.tb_expand.specs.Splits.{Bindings, binding_if, is_steady, chosen, split, assigned_before, in_order, letrec_round, let_round, undefined, node_of}
use Rattle.tb_expand.specs.Words.{Meaning, Variable, Special, Integrated, Plain, is_of_many}
use Rattle.tb_expand.specs.Refusals as refusal
use Rattle.tb_expand.specs.Refusals.{Refusal}
use Rattle.tb_expand.specs.Scopes.{State, fresh, meaning}
use Rattle.tb_expand.specs.Limits.{how_many_data}
use Rattle.tb_expand.specs.Shapes.{Formals, Defined, parameters, Parts, QuoteOf, LambdaOf, IfOf, ShortIfOf, SetOf, BeginOf, LetOf, LetrecOf, ApplyOf, Unbuilt, parts_of}
use Rattle.tb_expand.specs.Expressions as expr
use Rattle.tb_expand.specs.Expressions.{Expression, Wrong, Constantly, Naming, Operands, Sequence, Procedural, Recursion, Build, Choosing, ChoosingOne, AssigningLocal, AssigningGlobal, Using, ApplyingTo, Calling, Head, Operator, Keyword, Primitively, head, word_alone, named, assigned, binding_once, are_fixnums_in, constantly, of_parts, misused, by_head, expression, built, follows}
use Rattle.tb_expand.specs.Means.{Means, MeansAll, MeansSequence, MeansLambda, MeansDefined, MeansEach, MeansBody}
use Rattle.tb_expand.specs.Means.{a_constant, a_name, operands, a_sequence, a_lambda, a_let, a_letrec, no_more, one_more, alone, several, closure, a_value, a_procedure, none_defined, one_defined, plain_body, defining_body}
use Rattle.tb_expand.specs.Texts.{MeansForm, MeansForms, MeansText, an_expression, a_global, forms_of_begin, no_form, one_form, a_text}
use Rattle.tb_expand.specs.Shapes.{Pairs, Pair, pair_in, and_pair, pairs_of, pairs_in, elements_of, binder_of, quote_parts, lambda_of, formals_of, lambda_parts, if_parts, set_of, set_parts, begin_parts, let_of, named_or, let_parts, letrec_of, letrec_parts, apply_parts}
use Rattle.tb_expand.specs.WellShaped.{AreLambdas, HasShape, HasShapeIn, HaveShape}

-- as many binders as values
abbrev PairsEven : Option Pairs → Type 0
PairsEven None = Unit {0}
PairsEven (Some ps) = length ps.binders ≡ how_many_data ps.values

and_pair_even : (b : Option Pair) (ps : Option Pairs) → PairsEven ps → PairsEven (and_pair b ps)
and_pair_even None ps h = tt
and_pair_even (Some b) None h = tt
and_pair_even (Some b) (Some ps) h = omega arith

pairs_even : (ds : datum.Trees) → PairsEven (pairs_of ds)
pairs_even datum.none = refl
pairs_even (datum.more d ds) = and_pair_even (pair_in (elements_of d)) (pairs_of ds) (pairs_even ds)

pairs_in_even : (o : Option datum.Trees) → PairsEven (pairs_in o)
pairs_in_even None = tt
pairs_in_even (Some ds) = pairs_even ds

-- the parts of a form: as many values as binders, and a body
abbrev PartsEven : Option Parts → Type 0
PartsEven None = Unit {0}
PartsEven (Some (QuoteOf d)) = Unit {0}
PartsEven (Some (LambdaOf f b)) = Unit {0}
PartsEven (Some (IfOf a b c)) = Unit {0}
PartsEven (Some (ShortIfOf a b)) = Unit {0}
PartsEven (Some (SetOf b d)) = Unit {0}
PartsEven (Some (BeginOf ds)) = Unit {0}
PartsEven (Some (LetOf ps b)) = length ps.binders ≡ how_many_data ps.values
PartsEven (Some (LetrecOf ps b)) = length ps.binders ≡ how_many_data ps.values
PartsEven (Some (ApplyOf f l)) = Unit {0}
PartsEven (Some Unbuilt) = Unit {0}

lambda_of_even : (f : Option Formals) (b : datum.Trees) → PartsEven (lambda_of f b)
lambda_of_even None b = tt
lambda_of_even (Some f) b = tt

set_of_even : (b : Option Binder) (d : datum.Tree) → PartsEven (set_of b d)
set_of_even None d = tt
set_of_even (Some b) d = tt

let_of_even : (x : Option Binder) (ps : Option Pairs) (b : datum.Trees) → PairsEven ps → PartsEven (named_or x (let_of ps b))
let_of_even (Some x) ps b h = tt
let_of_even None None b h = tt
let_of_even None (Some ps) b h = h

letrec_of_even : (ps : Option Pairs) (b : datum.Trees) → PairsEven ps → PartsEven (letrec_of ps b)
letrec_of_even None b h = tt
letrec_of_even (Some ps) b h = h

quote_even : (ds : datum.Trees) → PartsEven (quote_parts ds)
quote_even (datum.more d datum.none) = tt
quote_even ds = tt

lambda_even : (ds : datum.Trees) → PartsEven (lambda_parts ds)
lambda_even (datum.more f (datum.more b bs)) = lambda_of_even (formals_of f) (datum.more b bs)
lambda_even ds = tt

if_even : (ds : datum.Trees) → PartsEven (if_parts ds)
if_even (datum.more a (datum.more b datum.none)) = tt
if_even (datum.more a (datum.more b (datum.more c datum.none))) = tt
if_even ds = tt

set_even : (ds : datum.Trees) → PartsEven (set_parts ds)
set_even (datum.more x (datum.more d datum.none)) = set_of_even (binder_of x) d
set_even ds = tt

begin_even : (ds : datum.Trees) → PartsEven (begin_parts ds)
begin_even datum.none = tt
begin_even (datum.more d ds) = tt

let_even : (ds : datum.Trees) → PartsEven (let_parts ds)
let_even (datum.more d (datum.more b bs)) = let_of_even (binder_of d) (pairs_in (elements_of d)) (datum.more b bs) (pairs_in_even (elements_of d))
let_even ds = tt

letrec_even : (ds : datum.Trees) → PartsEven (letrec_parts ds)
letrec_even (datum.more d (datum.more b bs)) = letrec_of_even (pairs_in (elements_of d)) (datum.more b bs) (pairs_in_even (elements_of d))
letrec_even ds = tt

apply_even : (ds : datum.Trees) → PartsEven (apply_parts ds)
apply_even (datum.more f (datum.more l datum.none)) = tt
apply_even (datum.more f (datum.more d (datum.more e ds))) = tt
apply_even ds = tt

parts_even : (f : Form) (ds : datum.Trees) → PartsEven (parts_of f ds)
parts_even word.Quoting ds = quote_even ds
parts_even word.Closure ds = lambda_even ds
parts_even word.Choice ds = if_even ds
parts_even word.Assigning ds = set_even ds
parts_even word.Defining ds = tt
parts_even word.Beginning ds = begin_even ds
parts_even word.Binding ds = let_even ds
parts_even word.Recursive ds = letrec_even ds
parts_even word.Applying ds = apply_even ds
parts_even word.Later ds = tt

-- what a datum is: a primitive with its operands, and as many values as binders
abbrev pub IsGoodBuild : Build → ℕ → Type 0
IsGoodBuild (Using q) n = n ≡ arity_of q
IsGoodBuild k n = Unit {0}

abbrev pub IsGood : Expression → Type 0
IsGood (Wrong r) = Unit {0}
IsGood (Constantly s) = Unit {0}
IsGood (Naming e) = HasShapeIn e
IsGood (Operands k ds) = IsGoodBuild k (how_many_data ds)
IsGood (Sequence ds) = Unit {0}
IsGood (Procedural f b) = Unit {0}
IsGood (expr.Binding ps b) = length ps.binders ≡ how_many_data ps.values
IsGood (Recursion ps b) = length ps.binders ≡ how_many_data ps.values

good_constant : (p : Place) (s : datum.Shape) (b : Bool) → IsGood (cond b (Constantly s) (Wrong (refusal.BadForm p)))
good_constant p s true = tt
good_constant p s false = tt

good_once : (o : Option Place) (x : Expression) → IsGood x → IsGood (binding_once o x)
good_once None x h = h
good_once (Some p) x h = tt

good_assigned : (b : Binder) (d : datum.Tree) (m : Meaning) → IsGood (assigned b d m)
good_assigned b d (Variable x) = tt
good_assigned b d (Special f) = tt
good_assigned b d (Integrated q) = tt
good_assigned b d (Plain g) = tt

good_of_parts : (st : State) (c : Context) (p : Place) (o : Option Parts) → PartsEven o → IsGood (of_parts st c p o)
good_of_parts st c p None h = tt
good_of_parts st c p (Some (QuoteOf (datum.At q s))) h = good_constant p s (are_fixnums_in s)
good_of_parts st c p (Some (LambdaOf f b)) h = good_once (bound_twice (parameters f)) (Procedural f b) tt
good_of_parts st c p (Some (IfOf a b d)) h = tt
good_of_parts st c p (Some (ShortIfOf a b)) h = tt
good_of_parts st c p (Some (SetOf b d)) h = good_assigned b d (meaning st c b.name)
good_of_parts st c p (Some (BeginOf ds)) h = tt
good_of_parts st c p (Some (LetOf ps b)) h = good_once (bound_twice ps.binders) (expr.Binding ps b) h
good_of_parts st c p (Some (LetrecOf ps b)) h = good_once (bound_twice ps.binders) (Recursion ps b) h
good_of_parts st c p (Some (ApplyOf f l)) h = tt
good_of_parts st c p (Some Unbuilt) h = tt

good_misused : (p : Place) (h : datum.Tree) (b : Bool) → IsGood (misused p h b)
good_misused p h true = tt
good_misused p h false = tt

good_use : (p : Place) (h : datum.Tree) (ds : datum.Trees) (q : Primitive) (b : Bool) → (how_many_data ds == arity_of q) ≡ b → IsGood (cond b (Operands (Using q) ds) (misused p h (is_of_many q)))
good_use p h ds q true e = eqb-true (how_many_data ds) (arity_of q) e
good_use p h ds q false e = good_misused p h (is_of_many q)

good_by_head : (st : State) (c : Context) (p : Place) (h : datum.Tree) (ds : datum.Trees) (x : Head) → IsGood (by_head st c p h ds x)
good_by_head st c p h ds Operator = tt
good_by_head st c p h ds (Keyword f) = good_of_parts st c p (parts_of f ds) (parts_even f ds)
good_by_head st c p h ds (Primitively q) = good_use p h ds q (how_many_data ds == arity_of q) refl

good_alone : (p : Place) (f : Form) → IsGood (word_alone p f)
good_alone p Applying = tt
good_alone p f = tt

good_named : (p : Place) (m : Meaning) → IsGood (named p m)
good_named p (Variable x) = tt
good_named p (Special f) = good_alone p f
good_named p (Integrated q) = tt
good_named p (Plain g) = tt

pub good_expression : (st : State) (c : Context) (d : datum.Tree) → IsGood (expression st c d)
unfolding expression
good_expression st c (datum.At p datum.Nil) = tt
good_expression st c (datum.At p (datum.Truth b)) = tt
good_expression st c (datum.At p (datum.Fixnum n)) = good_constant p (datum.Fixnum n) (are_fixnums_in (datum.Fixnum n))
good_expression st c (datum.At p (datum.Character n)) = tt
good_expression st c (datum.At p (datum.String s)) = tt
good_expression st c (datum.At p (datum.Name s alias)) = good_named p (meaning st c (record { text = s; alias = alias }))
good_expression st c (datum.At p (datum.Proper datum.none)) = tt
good_expression st c (datum.At p (datum.Proper (datum.more h ds))) = good_by_head st c p h ds (head st c h)
good_expression st c (datum.At p (datum.Dotted ds d)) = tt
good_expression st c (datum.At p (datum.Vector ds)) = tt

-- nodes of parts
abbrev IsShapedOption : Option Core → Type 0
IsShapedOption None = Unit {0}
IsShapedOption (Some e) = HasShapeIn e

built_shaped : (p : Place) (k : Build) (es : Nodes) → IsGoodBuild k (how_many es) → HaveShape es → IsShapedOption (built p k es)
built_shaped p Choosing (cons a (cons b (cons c nil))) g h = (h.0, h.1.0, h.1.1.0)
built_shaped p ChoosingOne (cons a (cons b nil)) g h = (h.0, h.1.0, tt)
built_shaped p (AssigningLocal x) (cons e nil) g h = h.0
built_shaped p (AssigningGlobal q r) (cons e nil) g h = h.0
built_shaped p (Using q) es g h = (g, h)
built_shaped p ApplyingTo (cons f (cons l nil)) g h = (h.0, h.1.0)
built_shaped p Calling (cons f es) g h = h
built_shaped p k es g h = tt

-- splits: as many variables as values, and lambda expressions among those bound together
record IsEven (b : Bindings) : Type 0 where
  pub counted : length b.variables ≡ how_many b.values
  pub values : HaveShape b.values

binding_even : (b : Bool) (x : Var) (e : Node) (r : Bindings) → HasShape e → IsEven r → IsEven (binding_if b x e r)
binding_even true x e r h k = let n = k.counted in record { counted = omega arith; values = (h, k.values) }
binding_even false x e r h k = k

chosen_even : (b : Bool) (parts : Nodes) (xs : List Var) (es : Nodes) → HaveShape es → IsEven (chosen b parts xs es)
chosen_even b parts [] es h = record { counted = refl; values = tt }
chosen_even b parts (x ∷ xs) nil h = record { counted = refl; values = tt }
chosen_even true parts (x ∷ xs) (cons e es) h = binding_even (is_steady parts x e) x e (chosen true parts xs es) h.0 (chosen_even true parts xs es h.1)
chosen_even false parts (x ∷ xs) (cons e es) h = binding_even (not (is_steady parts x e)) x e (chosen false parts xs es) h.0 (chosen_even false parts xs es h.1)

steady_lambda : (b : Bool) (parts : Nodes) (x : Var) (e : Node) (r : Bindings) → is_steady parts x e ≡ b → AreLambdas r.values → AreLambdas (binding_if b x e r).values
steady_lambda true parts x e r k h = ((both_true (is_lambda e) (not (assigns_any x parts)) k).0, h)
steady_lambda false parts x e r k h = h

chosen_lambdas : (parts : Nodes) (xs : List Var) (es : Nodes) → AreLambdas (chosen true parts xs es).values
chosen_lambdas parts [] es = tt
chosen_lambdas parts (x ∷ xs) nil = tt
chosen_lambdas parts (x ∷ xs) (cons e es) = steady_lambda (is_steady parts x e) parts x e (chosen true parts xs es) refl (chosen_lambdas parts xs es)

before_shaped : (p : Place) (xs : List Var) (vs es : Nodes) → HaveShape vs → HaveShape es → HaveShape (assigned_before p xs vs es)
before_shaped p [] vs es h k = k
before_shaped p (x ∷ xs) nil es h k = k
before_shaped p (x ∷ xs) (cons v vs) es h k = (h.0, before_shaped p xs vs es h.1 k)

before_some : (p : Place) (xs : List Var) (vs es : Nodes) → 1 ≤ how_many es → 1 ≤ how_many (assigned_before p xs vs es)
before_some p [] vs es h = h
before_some p (x ∷ xs) nil es h = h
before_some p (x ∷ xs) (cons v vs) es h = omega arith

in_order_shaped : (p : Place) (es : Nodes) → 1 ≤ how_many es → HaveShape es → HasShape (in_order p es)
in_order_shaped p nil n h = absurd (omega arith)
in_order_shaped p (cons e nil) n h = h.0
in_order_shaped p (cons e (cons f es)) n h = (n, h)

letrec_shaped_by : (p : Place) (xs : List Var) (vs : Nodes) (e : Node) → length xs ≡ how_many vs → AreLambdas vs → HaveShape vs → HasShape e → HasShape (letrec_round p xs vs e)
letrec_shaped_by p [] vs e n l h k = k
letrec_shaped_by p (x ∷ xs) vs e n l h k = (n, l, h, k)

letrec_shaped : (p : Place) (b : Bindings) (e : Node) → IsEven b → AreLambdas b.values → HasShape e → HasShape (letrec_round p b.variables b.values e)
letrec_shaped p b e h l k = letrec_shaped_by p b.variables b.values e h.counted l h.values k

undefined_shaped : (p : Place) (xs : List Var) → HaveShape (undefined p xs)
undefined_shaped p [] = tt
undefined_shaped p (x ∷ xs) = (tt, undefined_shaped p xs)

undefined_counted : (p : Place) (xs : List Var) → length xs ≡ how_many (undefined p xs)
undefined_counted p [] = refl
undefined_counted p (x ∷ xs) = let h = undefined_counted p xs in omega arith

let_shaped : (p : Place) (xs : List Var) (e : Node) → HasShape e → HasShape (let_round p xs e)
let_shaped p [] e h = h
let_shaped p (x ∷ xs) e h = (undefined_counted p (x ∷ xs), undefined_shaped p (x ∷ xs), h)

split_shaped : (p : Place) (xs : List Var) (vs es : Nodes) → 1 ≤ how_many es → HaveShape vs → HaveShape es → HasShape (node_of p (split xs vs es))
split_shaped p xs vs es n h k =
    let o = chosen_even false (joined vs es) xs vs h in
    let t = chosen_even true (joined vs es) xs vs h in
    let s = split xs vs es in
    let parts = assigned_before p s.others.variables s.others.values s.body in
    let_shaped p s.others.variables (letrec_round p s.together.variables s.together.values (in_order p parts))
    (letrec_shaped p s.together (in_order p parts) t (chosen_lambdas (joined vs es) xs vs)
    (in_order_shaped p parts (before_some p s.others.variables s.others.values s.body n) (before_shaped p s.others.variables s.others.values s.body o.values k)))

joined_shaped : (es fs : Nodes) → HaveShape es → HaveShape fs → HaveShape (joined es fs)
joined_shaped nil fs h k = k
joined_shaped (cons e es) fs h k = (h.0, joined_shaped es fs h.1 k)

-- as many nodes as data
as_many : {st : State} {c : Context} {ds : datum.Trees} {es : Nodes} {st' : State} → MeansAll st c ds es st' → how_many_data ds ≡ how_many es
as_many no_more = refl
as_many (one_more m ms) = let h = as_many ms in omega arith

some_data : (ds : datum.Trees) → ds ≢ datum.none → 1 ≤ how_many_data ds
some_data datum.none n = absurd (n refl)
some_data (datum.more d ds) n = omega arith

variables_counted : (s : ℕ) (bs : List Binder) → length (variables s (names bs)) ≡ length bs
variables_counted s [] = refl
variables_counted s (b ∷ bs) = let h = variables_counted s bs in omega arith

good_count : (k : Build) (m n : ℕ) → m ≡ n → IsGoodBuild k m → IsGoodBuild k n
good_count k m n e h = subst (IsGoodBuild k) e h

mutual
  means_shaped : {st : State} {c : Context} {d : datum.Tree} {e : Node} {st' : State} → Means st c d e st' → HasShape e
  means_shaped (a_constant k a b) = tt
  means_shaped (a_name {st = st} {c = c} {p = p} {s = s} k a) = subst IsGood k (good_expression st c (datum.At p s))
  means_shaped (operands {st = st} {c = c} {p = p} {s = s} {k = k} {ds = ds} {es = es} q a m b l) =
      let g : IsGoodBuild k (how_many_data ds) = subst IsGood q (good_expression st c (datum.At p s)) in
      subst IsShapedOption b (built_shaped p k es (good_count k (how_many_data ds) (how_many es) (as_many m) g) (all_shaped m))
  means_shaped (a_sequence k m) = sequence_shaped m
  means_shaped (a_lambda k m) = lambda_shaped m
  means_shaped (a_let {st = st} {far = far} {c = c} {p = p} {s = s} {ps = ps} k a m b) =
      let g : length ps.binders ≡ how_many_data ps.values = subst IsGood k (good_expression st c (datum.At p s)) in
      let n = variables_counted (fresh far) ps.binders in
      let v = as_many m in
      (omega arith, all_shaped m, body_shaped b)
  means_shaped (a_letrec {mid = mid} {p = p} {ps = ps} {es = es} {e = e} k a m b l) =
      split_shaped p (variables (fresh mid) (names ps.binders)) es (cons e nil) (omega arith) (all_shaped m) (body_shaped b, tt)

  all_shaped : {st : State} {c : Context} {ds : datum.Trees} {es : Nodes} {st' : State} → MeansAll st c ds es st' → HaveShape es
  all_shaped no_more = tt
  all_shaped (one_more m ms) = (means_shaped m, all_shaped ms)

  sequence_shaped : {st : State} {c : Context} {p : Place} {ds : datum.Trees} {e : Node} {st' : State} → MeansSequence st c p ds e st' → HasShape e
  sequence_shaped (alone m) = means_shaped m
  sequence_shaped (several a m) = let n = as_many m in (omega arith, all_shaped m)

  lambda_shaped : {st : State} {c : Context} {p : Place} {f : Formals} {b : datum.Trees} {e : Node} {st' : State} → MeansLambda st c p f b e st' → HasShape e
  lambda_shaped (closure a m) = body_shaped m

  defined_shaped : {st : State} {c : Context} {v : Defined} {e : Node} {st' : State} → MeansDefined st c v e st' → HasShape e
  defined_shaped (a_value m) = means_shaped m
  defined_shaped (a_procedure n m) = lambda_shaped m

  each_shaped : {st : State} {c : Context} {vs : List Defined} {es : Nodes} {st' : State} → MeansEach st c vs es st' → HaveShape es
  each_shaped none_defined = tt
  each_shaped (one_defined m ms) = (defined_shaped m, each_shaped ms)

  body_shaped : {st : State} {c : Context} {p : Place} {ds : datum.Trees} {e : Node} {st' : State} → MeansBody st c p ds e st' → HasShape e
  body_shaped (plain_body s n m) = sequence_shaped m
  body_shaped (defining_body {p = p} {f = f} {vs = vs} {es = es} s n o b a m ms l) =
      let k = some_data f.rest b in
      let v = as_many ms in
      split_shaped p f.variables vs es (omega arith) (each_shaped m) (all_shaped ms)

mutual
  form_shaped : {st : State} {c : Context} {d : datum.Tree} {es : Nodes} {st' : State} → MeansForm st c d es st' → HaveShape es
  form_shaped (an_expression k m) = (means_shaped m, tt)
  form_shaped (a_global k i w a m) = (defined_shaped m, tt)
  form_shaped (forms_of_begin k m) = forms_shaped m

  forms_shaped : {st : State} {c : Context} {ds : datum.Trees} {es : Nodes} {st' : State} → MeansForms st c ds es st' → HaveShape es
  forms_shaped no_form = tt
  forms_shaped (one_form {es = es} {fs = fs} m ms) = joined_shaped es fs (form_shaped m) (forms_shaped ms)

pub text_shaped : (library : Bool) (ds : datum.Trees) (es : Nodes) → MeansText library ds es → HaveShape es
text_shaped library ds es (a_text m o) = forms_shaped m
