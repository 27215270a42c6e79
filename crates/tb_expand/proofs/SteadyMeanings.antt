-- In what data mean the mark stands for variables that are assigned, and the variables of a `letrec` are not assigned
-- in it.
use Rattle.std.proofs.Common.{◌≡◌, refl, sym, ap, subst, ◌∙◌, ℕ, ◌+◌, ◌≤◌, ◌||◌, not, arith, Bool, true, false, List, [], ◌∷◌, ◌++◌, length, Option, Some, None}
use Rattle.tb_prim.specs.declared.place.Place.{Place}
use Rattle.tb_core.specs.Rules.{Every}
use Rattle.tb_sexp.specs.Tree as datum
use Rattle.tb_expand.specs.declared.context.Context.{Context}
use Rattle.tb_expand.specs.Names.{names, bound_twice}
use Rattle.tb_expand.specs.Trees.{Var, same_var, variables, Node, At, Core, Local, Global, Let, Letrec, Nodes, nil, cons, joined, how_many, is_lambda, assigns, assigns_in, assigns_any}
use Rattle.tb_expand.specs.Splits.{Bindings, binding_if, is_steady, chosen, split, assigned_before, in_order, letrec_round, let_round, undefined, node_of}
use Rattle.tb_expand.specs.Scopes.{State, fresh}
use Rattle.tb_expand.specs.Shapes.{Formals, Defined}
use Rattle.tb_expand.specs.Expressions.{Build, Choosing, ChoosingOne, AssigningLocal, AssigningGlobal, Using, ApplyingTo, Calling, built}
use Rattle.tb_expand.specs.Means.{Means, MeansAll, MeansSequence, MeansLambda, MeansDefined, MeansEach, MeansBody}
use Rattle.tb_expand.specs.Means.{a_constant, a_name, operands, a_sequence, a_lambda, a_let, a_letrec, no_more, one_more, alone, several, closure, a_value, a_procedure, none_defined, one_defined, plain_body, defining_body}
use Rattle.tb_expand.specs.Texts.{MeansForm, MeansForms, MeansText, an_expression, a_global, forms_of_begin, no_form, one_form, a_text}
use Rattle.tb_expand.specs.Closed.{one_if, times}
use Rattle.tb_expand.proofs.ShortConstants.{both_true}
use Rattle.tb_expand.proofs.Times.{times_joined}
use Rattle.tb_expand.proofs.FirstOccurrences.{same_var_itself, same_var_true}
use Rattle.tb_expand.proofs.NamedVariables.{count, own_held, every_mapped}
use Rattle.tb_expand.proofs.SplitCounts.{chosen_even, both_bound}
use Rattle.tb_expand.proofs.GoodExpressions.{IsGood, IsGoodName, good_expression}
use Rattle.tb_expand.proofs.BoundMeanings.{variables_once, found_once}
use Rattle.tb_expand.proofs.Steady.{marked, NoneMarked, MarksPass, IsSteady, AreSteady}

-- whether a node assigns a variable that it binds
abbrev pub own_assigns : Core → Var → Bool
own_assigns c x = assigns_in x c

pub or_most : (a b : Bool) → one_if (a || b) ≤ one_if a + one_if b
or_most true b = omega arith
or_most false b = omega arith

pub or_first : (a b : Bool) → one_if a ≤ one_if (a || b)
or_first true b = omega arith
or_first false b = omega arith

pub or_second : (a b : Bool) → one_if b ≤ one_if (a || b)
or_second true true = omega arith
or_second true false = omega arith
or_second false b = omega arith

pub none_true : (b : Bool) → one_if b ≤ 0 → b ≡ false
none_true true h = absurd (omega arith)
none_true false h = refl

pub one_true : (b : Bool) → 1 ≤ one_if b → b ≡ true
one_true true h = refl
one_true false h = absurd (omega arith)

-- the parts of a split
joined_by : (a b c : Bool) → one_if b ≤ one_if c → one_if (a || b) ≤ one_if (a || c)
joined_by true b c h = omega arith
joined_by false b c h = h

assigned_joined : (x : Var) (es fs : Nodes) → one_if (assigns_any x es) ≤ one_if (assigns_any x (joined es fs))
assigned_joined x nil fs = omega arith
assigned_joined x (cons e es) fs = joined_by (assigns x e) (assigns_any x es) (assigns_any x (joined es fs)) (assigned_joined x es fs)

assigned_behind : (x : Var) (es fs : Nodes) → one_if (assigns_any x fs) ≤ one_if (assigns_any x (joined es fs))
assigned_behind x nil fs = omega arith
assigned_behind x (cons e es) fs = let h = assigned_behind x es fs in let k = or_second (assigns x e) (assigns_any x (joined es fs)) in omega arith

-- a variable that is bound together is not assigned in the parts
abbrev Unassigned : Nodes → Var → Type 0
Unassigned parts x = one_if (assigns_any x parts) ≤ 0

not_assigned : (b : Bool) → not b ≡ true → one_if b ≤ 0
not_assigned true h = absurd cc
not_assigned false h = omega arith

together_one : (b : Bool) (parts : Nodes) (x : Var) (e : Node) (r : Bindings) → is_steady parts x e ≡ b → Every (Unassigned parts) r.variables → Every (Unassigned parts) (binding_if b x e r).variables
together_one true parts x e r q h = (not_assigned (assigns_any x parts) (both_true (is_lambda e) (not (assigns_any x parts)) q).1, h)
together_one false parts x e r q h = h

together_steady : (parts : Nodes) (xs : List Var) (vs : Nodes) → Every (Unassigned parts) (chosen true parts xs vs).variables
together_steady parts [] vs = tt
together_steady parts (x ∷ xs) nil = tt
together_steady parts (x ∷ xs) (cons e es) = together_one (is_steady parts x e) parts x e (chosen true parts xs es) refl (together_steady parts xs es)

assigned_by : (s a b c : Bool) (n m : ℕ) → one_if c ≤ n + (one_if b + m) → one_if ((s || a) || c) ≤ (one_if s + n) + (one_if (a || b) + m)
assigned_by true a b c n m h = omega arith
assigned_by false true b c n m h = omega arith
assigned_by false false b c n m h = omega arith

or_none : (b : Bool) → b ≡ (b || false)
or_none true = refl
or_none false = refl

same_back : (x y : Var) → same_var x y ≡ same_var y x
same_back x y = by (same_var x y) (same_var y x) refl refl
  where
    by : (a b : Bool) → same_var x y ≡ a → same_var y x ≡ b → a ≡ b
    by true true p q = refl
    by true false p q = let e = same_var_true x y p in let h : same_var y x ≡ true = subst (λ v. same_var v x ≡ true) e (same_var_itself x) in cc
    by false true p q = let e = same_var_true y x q in let h : same_var x y ≡ true = subst (λ v. same_var v y ≡ true) e (same_var_itself y) in cc
    by false false p q = refl

module _ (y : Var) where
  abbrev any : Nodes → ℕ
  any es = one_if (assigns_any y es)

  -- how many of these it is
  abbrev those : List Var → ℕ
  those xs = times (λ (x : Var). same_var x y) xs

  chosen_one : (b : Bool) (x : Var) (e : Node) (r : Bindings) (n : ℕ) (es : Nodes) → any r.values ≤ any es → any (binding_if b x e r).values ≤ any (cons e es)
  chosen_one true x e r n es h = joined_by (assigns y e) (assigns_any y r.values) (assigns_any y es) h
  chosen_one false x e r n es h = let k = or_second (assigns y e) (assigns_any y es) in omega arith

  chosen_assigns : (b : Bool) (parts : Nodes) (xs : List Var) (vs : Nodes) → any (chosen b parts xs vs).values ≤ any vs
  chosen_assigns b parts [] vs = omega arith
  chosen_assigns b parts (x ∷ xs) nil = omega arith
  chosen_assigns true parts (x ∷ xs) (cons e es) = chosen_one (is_steady parts x e) x e (chosen true parts xs es) 0 es (chosen_assigns true parts xs es)
  chosen_assigns false parts (x ∷ xs) (cons e es) = chosen_one (not (is_steady parts x e)) x e (chosen false parts xs es) 0 es (chosen_assigns false parts xs es)

  before_most : (p : Place) (xs : List Var) (vs es : Nodes) → any (assigned_before p xs vs es) ≤ those xs + (any vs + any es)
  before_most p [] vs es = omega arith
  before_most p (x ∷ xs) nil es = omega arith
  before_most p (x ∷ xs) (cons v vs) es =
      assigned_by (same_var x y) (assigns y v) (assigns_any y vs) (assigns_any y (assigned_before p xs vs es)) (those xs) (any es) (before_most p xs vs es)

  order_same : (p : Place) (es : Nodes) → one_if (assigns y (in_order p es)) ≡ any es
  order_same p nil = refl
  order_same p (cons e nil) = ap one_if (or_none (assigns y e))
  order_same p (cons e (cons f es)) = refl

  letrec_least : (p : Place) (xs : List Var) (vs : Nodes) (e : Node) → one_if (assigns y e) ≤ one_if (assigns y (letrec_round p xs vs e))
  letrec_least p [] vs e = omega arith
  letrec_least p (x ∷ xs) vs e = or_second (assigns_any y vs) (assigns y e)

  those_count : (xs : List Var) → those xs ≡ count y xs
  those_count [] = refl
  those_count (x ∷ xs) = let h = those_count xs in let k = ap one_if (same_back x y) in omega arith

-- each variable that is assigned before the body is
before_each : (p : Place) (xs : List Var) (vs es : Nodes) → length xs ≡ how_many vs → Every (λ y. 1 ≤ one_if (assigns_any y (assigned_before p xs vs es))) xs
before_each p [] vs es n = tt
before_each p (x ∷ xs) nil es n = absurd (omega arith)
before_each p (x ∷ xs) (cons v vs) es n = (
  let i = or_first (same_var x x || assigns x v) (assigns_any x (assigned_before p xs vs es)) in
      let j = or_first (same_var x x) (assigns x v) in
      let k : one_if (same_var x x) ≡ 1 = ap one_if (same_var_itself x) in
      omega arith,
  every_mapped (λ y. 1 ≤ one_if (assigns_any y (assigned_before p xs vs es))) (λ y. 1 ≤ one_if (assigns_any y (assigned_before p (x ∷ xs) (cons v vs) es)))
      (λ y h. let k = or_second (same_var x y || assigns y v) (assigns_any y (assigned_before p xs vs es)) in omega arith) xs (before_each p xs vs es (omega arith)),
)

-- nodes of parts
chosen_kept_one : (b : Bool) (x : Var) (e : Node) (r : Bindings) → IsSteady own_assigns e → AreSteady own_assigns r.values → AreSteady own_assigns (binding_if b x e r).values
chosen_kept_one true x e r h k = (h, k)
chosen_kept_one false x e r h k = k

chosen_kept : (b : Bool) (parts : Nodes) (xs : List Var) (es : Nodes) → AreSteady own_assigns es → AreSteady own_assigns (chosen b parts xs es).values
chosen_kept b parts [] es h = tt
chosen_kept b parts (x ∷ xs) nil h = tt
chosen_kept true parts (x ∷ xs) (cons e es) h = chosen_kept_one (is_steady parts x e) x e (chosen true parts xs es) h.0 (chosen_kept true parts xs es h.1)
chosen_kept false parts (x ∷ xs) (cons e es) h = chosen_kept_one (not (is_steady parts x e)) x e (chosen false parts xs es) h.0 (chosen_kept false parts xs es h.1)

chosen_plain_one : (b : Bool) (x : Var) (e : Node) (r : Bindings) → marked e ≡ false → NoneMarked r.values → NoneMarked (binding_if b x e r).values
chosen_plain_one true x e r h k = (h, k)
chosen_plain_one false x e r h k = k

chosen_plain : (b : Bool) (parts : Nodes) (xs : List Var) (es : Nodes) → NoneMarked es → NoneMarked (chosen b parts xs es).values
chosen_plain b parts [] es h = tt
chosen_plain b parts (x ∷ xs) nil h = tt
chosen_plain true parts (x ∷ xs) (cons e es) h = chosen_plain_one (is_steady parts x e) x e (chosen true parts xs es) h.0 (chosen_plain true parts xs es h.1)
chosen_plain false parts (x ∷ xs) (cons e es) h = chosen_plain_one (not (is_steady parts x e)) x e (chosen false parts xs es) h.0 (chosen_plain false parts xs es h.1)

before_steady : (p : Place) (xs : List Var) (vs es : Nodes) → AreSteady own_assigns vs → NoneMarked vs → AreSteady own_assigns es → AreSteady own_assigns (assigned_before p xs vs es)
before_steady p [] vs es h n k = k
before_steady p (x ∷ xs) nil es h n k = k
before_steady p (x ∷ xs) (cons v vs) es h n k = ((n.0, h.0), before_steady p xs vs es h.1 n.1 k)

before_plain : (p : Place) (xs : List Var) (vs es : Nodes) → NoneMarked es → NoneMarked (assigned_before p xs vs es)
before_plain p [] vs es k = k
before_plain p (x ∷ xs) nil es k = k
before_plain p (x ∷ xs) (cons v vs) es k = (refl, before_plain p xs vs es k)

-- a node that is steady and is not the mark
pub record Steadily (e : Node) : Type 0 where
  pub steady : IsSteady own_assigns e
  pub plain : marked e ≡ false

pub record AllSteadily (es : Nodes) : Type 0 where
  pub steady : AreSteady own_assigns es
  pub plain : NoneMarked es

order_steady : (p : Place) (es : Nodes) → AreSteady own_assigns es → NoneMarked es → Steadily (in_order p es)
order_steady p nil h n = record { steady = (tt, tt); plain = refl }
order_steady p (cons e nil) h n = record { steady = h.0; plain = n.0 }
order_steady p (cons e (cons f es)) h n = record { steady = (n, h); plain = refl }

letrec_steady : (p : Place) (xs : List Var) (vs : Nodes) (e : Node) → Every (λ x. one_if (assigns_any x vs) + one_if (assigns x e) ≤ 0) xs → AreSteady own_assigns vs → Steadily e → Steadily (letrec_round p xs vs e)
letrec_steady p [] vs e n h k = k
letrec_steady p (x ∷ xs) vs e n h k = record {
  steady = (
    every_mapped (λ x. one_if (assigns_any x vs) + one_if (assigns x e) ≤ 0) (λ x. own_assigns (Letrec (x ∷ xs) vs e) x ≡ false)
        (λ y g. let m = or_most (assigns_any y vs) (assigns y e) in none_true (assigns_any y vs || assigns y e) (omega arith)) (x ∷ xs) n,
    k.plain,
    h,
    k.steady,
  );
  plain = refl;
}

undefined_steady : (p : Place) (xs : List Var) → AreSteady own_assigns (undefined p xs)
undefined_steady p [] = tt
undefined_steady p (x ∷ xs) = (tt, undefined_steady p xs)

undefined_pass : (f : Var → Bool) (p : Place) (xs : List Var) → Every (λ x. f x ≡ true) xs → MarksPass f xs (undefined p xs)
undefined_pass f p [] h = tt
undefined_pass f p (x ∷ xs) h = (λ m. h.0, undefined_pass f p xs h.1)

let_steady : (p : Place) (xs : List Var) (e : Node) → Every (λ x. 1 ≤ one_if (assigns x e)) xs → Steadily e → Steadily (let_round p xs e)
let_steady p [] e n k = k
let_steady p (x ∷ xs) e n k =
    let es = undefined p (x ∷ xs) in
    record {
      steady = (
        undefined_pass (own_assigns (Let (x ∷ xs) es e)) p (x ∷ xs)
            (every_mapped (λ x. 1 ≤ one_if (assigns x e)) (λ y. own_assigns (Let (x ∷ xs) es e) y ≡ true)
            (λ y g. let m = or_second (assigns_any y es) (assigns y e) in one_true (assigns_any y es || assigns y e) (omega arith)) (x ∷ xs) n),
        k.plain,
        undefined_steady p (x ∷ xs),
        k.steady,
      );
      plain = refl;
    }

every_both : {X : Type 0} (P Q R : X → Type 0) → ((x : X) → P x → Q x → R x) → (xs : List X) → Every P xs → Every Q xs → Every R xs
every_both P Q R f [] h k = tt
every_both P Q R f (x ∷ xs) h k = (f x h.0 k.0, every_both P Q R f xs h.1 k.1)

split_steady : (p : Place) (xs : List Var) (vs es : Nodes) → ((y : Var) → count y xs ≤ 1) → AllSteadily vs → AllSteadily es → Steadily (node_of p (split xs vs es))
split_steady p xs vs es once h k =
    let parts = joined vs es in
    let t = chosen true parts xs vs in
    let o = chosen false parts xs vs in
    let body = assigned_before p o.variables o.values es in
    let ordered = order_steady p body (before_steady p o.variables o.values es (chosen_kept false parts xs vs h.steady) (chosen_plain false parts xs vs h.plain) k.steady) (before_plain p o.variables o.values es k.plain) in
    let there : Every (λ y. 1 ≤ count y [] + count y (t.variables ++ [])) t.variables = own_held [] t.variables [] in
    let free : Every (λ x. one_if (assigns_any x t.values) + one_if (assigns x (in_order p body)) ≤ 0) t.variables =
    every_both (λ y. 1 ≤ count y [] + count y (t.variables ++ [])) (Unassigned parts) (λ x. one_if (assigns_any x t.values) + one_if (assigns x (in_order p body)) ≤ 0)
    (λ y one none.
    let apart = both_bound (same_var y) parts xs vs in
    let all = once y in
    let nothing = times_joined (same_var y) t.variables [] in
    let a = chosen_assigns y true parts xs vs in
    let b = chosen_assigns y false parts xs vs in
    let c = before_most y p o.variables o.values es in
    let d = those_count y o.variables in
    let e = order_same y p body in
    let f = assigned_joined y vs es in
    let g = assigned_behind y vs es in
    omega arith) t.variables there (together_steady parts xs vs) in
    let around = letrec_steady p t.variables t.values (in_order p body) free (chosen_kept true parts xs vs h.steady) ordered in
    let each = every_mapped (λ y. 1 ≤ one_if (assigns_any y body)) (λ y. 1 ≤ one_if (assigns y (letrec_round p t.variables t.values (in_order p body))))
    (λ y g. let a = order_same y p body in let b = letrec_least y p t.variables t.values (in_order p body) in omega arith) o.variables (before_each p o.variables o.values es (chosen_even false parts xs vs)) in
    let_steady p o.variables (letrec_round p t.variables t.values (in_order p body)) each around

-- the node of its parts
abbrev IsSteadyOption : Place → Option Core → Type 0
IsSteadyOption p None = Unit {0}
IsSteadyOption p (Some e) = Steadily (At p e)

built_steady : (p : Place) (k : Build) (es : Nodes) → AllSteadily es → IsSteadyOption p (built p k es)
built_steady p Choosing (cons a (cons b (cons c nil))) h = record { steady = (h.plain, h.steady.0, h.steady.1.0, h.steady.1.1.0); plain = refl }
built_steady p ChoosingOne (cons a (cons b nil)) h = record { steady = ((h.plain.0, (h.plain.1.0, (refl, tt))), h.steady.0, h.steady.1.0, tt); plain = refl }
built_steady p (AssigningLocal x) (cons e nil) h = record { steady = (h.plain.0, h.steady.0); plain = refl }
built_steady p (AssigningGlobal q r) (cons e nil) h = record { steady = (h.plain.0, h.steady.0); plain = refl }
built_steady p (Using q) es h = record { steady = (h.plain, h.steady); plain = refl }
built_steady p ApplyingTo (cons f (cons l nil)) h = record { steady = (h.plain, h.steady.0, h.steady.1.0); plain = refl }
built_steady p Calling (cons f es) h = record { steady = (h.plain, h.steady.0, h.steady.1); plain = refl }
built_steady p k es h = tt

name_steady : (st : State) (c : Context) (p : Place) (e : Core) → IsGoodName st c e → Steadily (At p e)
name_steady st c p (Local x) h = record { steady = tt; plain = refl }
name_steady st c p (Global g) h = record { steady = tt; plain = refl }
name_steady st c p e h = absurd h

marks_none : (f : Var → Bool) (xs : List Var) (es : Nodes) → NoneMarked es → MarksPass f xs es
marks_none f xs nil h = tt
marks_none f [] (cons e es) h = h
marks_none f (x ∷ xs) (cons e es) h = (λ m. let n : true ≡ false = sym m ∙ h.0 in absurd cc, marks_none f xs es h.1)

mutual
  means_steady : {st : State} {c : Context} {d : datum.Tree} {e : Node} {st' : State} → Means st c d e st' → Steadily e
  means_steady (a_constant k a b) = record { steady = tt; plain = refl }
  means_steady (a_name {st = st} {c = c} {p = p} {s = s} {e = e} k a) = name_steady st c p e (subst (IsGood st c) k (good_expression st c (datum.At p s)))
  means_steady (operands {p = p} {k = k} {es = es} q a m b l) = subst (IsSteadyOption p) b (built_steady p k es (all_steady m))
  means_steady (a_sequence k m) = sequence_steady m
  means_steady (a_lambda k m) = lambda_steady m
  means_steady (a_let {far = far} {ps = ps} {es = es} {e = e} k a m b) =
      let r = all_steady m in
      let u = body_steady b in
      let xs = variables (fresh far) (names ps.binders) in
      record { steady = (marks_none (own_assigns (Let xs es e)) xs es r.plain, u.plain, r.steady, u.steady); plain = refl }
  means_steady (a_letrec {st = st} {mid = mid} {c = c} {p = p} {s = s} {ps = ps} {es = es} {e = e} k a m b l) =
      let g : bound_twice ps.binders ≡ None = subst (IsGood st c) k (good_expression st c (datum.At p s)) in
      let u = body_steady b in
      split_steady p (variables (fresh mid) (names ps.binders)) es (cons e nil) (variables_once (fresh mid) ps.binders g) (all_steady m) (record { steady = (u.steady, tt); plain = (u.plain, tt) })

  all_steady : {st : State} {c : Context} {ds : datum.Trees} {es : Nodes} {st' : State} → MeansAll st c ds es st' → AllSteadily es
  all_steady no_more = record { steady = tt; plain = tt }
  all_steady (one_more m ms) = let r = means_steady m in let u = all_steady ms in record { steady = (r.steady, u.steady); plain = (r.plain, u.plain) }

  sequence_steady : {st : State} {c : Context} {p : Place} {ds : datum.Trees} {e : Node} {st' : State} → MeansSequence st c p ds e st' → Steadily e
  sequence_steady (alone m) = means_steady m
  sequence_steady (several a m) = let r = all_steady m in record { steady = (r.plain, r.steady); plain = refl }

  lambda_steady : {st : State} {c : Context} {p : Place} {f : Formals} {b : datum.Trees} {e : Node} {st' : State} → MeansLambda st c p f b e st' → Steadily e
  lambda_steady (closure a m) = let r = body_steady m in record { steady = (r.plain, r.steady); plain = refl }

  defined_steady : {st : State} {c : Context} {v : Defined} {e : Node} {st' : State} → MeansDefined st c v e st' → Steadily e
  defined_steady (a_value m) = means_steady m
  defined_steady (a_procedure n m) = lambda_steady m

  each_steady : {st : State} {c : Context} {vs : List Defined} {es : Nodes} {st' : State} → MeansEach st c vs es st' → AllSteadily es
  each_steady none_defined = record { steady = tt; plain = tt }
  each_steady (one_defined m ms) = let r = defined_steady m in let u = each_steady ms in record { steady = (r.steady, u.steady); plain = (r.plain, u.plain) }

  body_steady : {st : State} {c : Context} {p : Place} {ds : datum.Trees} {e : Node} {st' : State} → MeansBody st c p ds e st' → Steadily e
  body_steady (plain_body s n m) = sequence_steady m
  body_steady (defining_body {p = p} {f = f} {vs = vs} {es = es} s n o b a m ms l) = split_steady p f.variables vs es (found_once s) (each_steady m) (all_steady ms)

joined_steady : (es fs : Nodes) → AllSteadily es → AllSteadily fs → AllSteadily (joined es fs)
joined_steady nil fs h k = k
joined_steady (cons e es) fs h k = let r = joined_steady es fs (record { steady = h.steady.1; plain = h.plain.1 }) k in record { steady = (h.steady.0, r.steady); plain = (h.plain.0, r.plain) }

mutual
  form_steady : {st : State} {c : Context} {d : datum.Tree} {es : Nodes} {st' : State} → MeansForm st c d es st' → AllSteadily es
  form_steady (an_expression k m) = let r = means_steady m in record { steady = (r.steady, tt); plain = (r.plain, tt) }
  form_steady (a_global k i w a m) = let r = defined_steady m in record { steady = ((r.plain, r.steady), tt); plain = (refl, tt) }
  form_steady (forms_of_begin k m) = forms_steady m

  forms_steady : {st : State} {c : Context} {ds : datum.Trees} {es : Nodes} {st' : State} → MeansForms st c ds es st' → AllSteadily es
  forms_steady no_form = record { steady = tt; plain = tt }
  forms_steady (one_form {es = es} {fs = fs} m ms) = joined_steady es fs (form_steady m) (forms_steady ms)

pub text_steady : (library : Bool) (ds : datum.Trees) (es : Nodes) → MeansText library ds es → AllSteadily es
text_steady library ds es (a_text m o) = forms_steady m
