-- What a datum means in a context, and the first refusal in it. The state is handed from each part to the next in
-- written order, and what was made only grows.
use Rattle.std.specs.Prelude.{◌≡◌, ◌≢◌, ℕ, ◌-◌, ◌==◌, nat_le, true, false, cond, List, [], ◌∷◌, length, Option, Some, None}
use Rattle.tb_prim.specs.declared.place.Place.{Place}
use Rattle.tb_sexp.specs.Tree as datum
use Rattle.tb_expand.specs.Names.{Binder, names, bound_twice}
use Rattle.tb_expand.specs.Trees.{Var, variables, Node, At, Core, Constant, Lambda, Let, Seq, Nodes, nil, cons}
use Rattle.tb_expand.specs.Splits.{Split, split, node_of, inserted, first_deep}
use Rattle.tb_expand.specs.Refusals.{Refusal, BadForm, Duplicate, TooDeep}
use Rattle.tb_expand.specs.declared.context.Context.{Context}
use Rattle.tb_expand.specs.Scopes.{State, fresh, enter}
use Rattle.tb_expand.specs.Limits.{Limited, Within, Past, counted, opened, with_constant, inner, within, valued, how_many_data}
use Rattle.tb_expand.specs.Shapes.{Formals, parameters, Pairs, Defined, Value, Procedure}
use Rattle.tb_expand.specs.Expressions.{Wrong, Constantly, Naming, Operands, Sequence, Procedural, Binding, Recursion, Build, expression, built, follows}
use Rattle.tb_expand.specs.Bodies.{Found, Scans, ScanRefuses}

abbrev pub option_map : {X Y : Type 0} → (X → Y) → Option X → Option Y
option_map f None = None
option_map f (Some x) = Some (f x)

-- the variables of parameters in a scope
abbrev pub fixed_variables : ℕ → Formals → List Var
fixed_variables s f = variables s (names f.fixed)

abbrev pub rest_variable : ℕ → Formals → Option Var
rest_variable s f = option_map (λ (b : Binder). record { scope = s; name = b.name }) f.rest

-- a lambda expression makes a node, unless a `letrec` or the definitions of a body bind it: then that is known once
-- they are split
abbrev pub lambda_nodes : Context → ℕ
lambda_nodes c = cond c.is_value 0 1

-- a level is needed round variables that are bound together, if there are any
abbrev pub bound_together : Place → ℕ → State → Context → Limited
bound_together p n st c = cond (n == 0) (Within st) (opened p 0 n st c)

-- the context of the expressions of a body with definitions: where there are two or more, a sequence stands round them
abbrev pub body_levels : datum.Trees → ℕ → ℕ
body_levels ds n = cond (nat_le 2 (how_many_data ds)) (n - 1) n

abbrev pub rest_context : Found → Context → Context
rest_context f c = record { library = c.library; scope = f.scope; levels = body_levels f.rest c.levels; is_value = false }

-- a node that is split, where it is not too deep
abbrev pub not_deep : Option Place → Limited → Limited
not_deep None l = l
not_deep (Some p) l = Past (TooDeep p)

abbrev pub finished : Place → Split → Context → State → Limited
finished p s c st = not_deep (first_deep c.levels (node_of p s)) (counted p (inserted s) 0 st)

-- the body of a `letrec` is a value where nothing is bound, since the `letrec` makes no node then
abbrev pub letrec_body : Pairs → ℕ → Context → Context
letrec_body ps s c = record { library = c.library; scope = s; levels = c.levels; is_value = cond (length ps.binders == 0) c.is_value false }

mutual
  pub data Means : State → Context → datum.Tree → Node → State → Type 0 where
    a_constant : {st mid st' : State} {c : Context} {p : Place} {s t : datum.Shape} →
        expression st c (datum.At p s) ≡ Constantly t → opened p 1 0 st c ≡ Within mid → with_constant p t mid ≡ Within st' →
        Means st c (datum.At p s) (At p (Constant t)) st'
    a_name : {st st' : State} {c : Context} {p : Place} {s : datum.Shape} {e : Core} →
        expression st c (datum.At p s) ≡ Naming e → opened p 1 0 st c ≡ Within st' → Means st c (datum.At p s) (At p e) st'
    operands : {st mid far st' : State} {c : Context} {p : Place} {s : datum.Shape} {k : Build} {ds : datum.Trees} {es : Nodes} {e : Core} →
        expression st c (datum.At p s) ≡ Operands k ds → opened p 1 0 st c ≡ Within mid → MeansAll mid (inner c) ds es far →
        built p k es ≡ Some e → counted p (follows k) 0 far ≡ Within st' → Means st c (datum.At p s) (At p e) st'
    a_sequence : {st st' : State} {c : Context} {p : Place} {s : datum.Shape} {ds : datum.Trees} {e : Node} →
        expression st c (datum.At p s) ≡ Sequence ds → MeansSequence st c p ds e st' → Means st c (datum.At p s) e st'
    a_lambda : {st st' : State} {c : Context} {p : Place} {s : datum.Shape} {f : Formals} {b : datum.Trees} {e : Node} →
        expression st c (datum.At p s) ≡ Procedural f b → MeansLambda st c p f b e st' → Means st c (datum.At p s) e st'
    a_let : {st mid far st' : State} {c : Context} {p : Place} {s : datum.Shape} {ps : Pairs} {b : datum.Trees} {es : Nodes} {e : Node} →
        expression st c (datum.At p s) ≡ Binding ps b → opened p 1 (length ps.binders) st c ≡ Within mid →
        MeansAll mid (inner c) ps.values es far →
        MeansBody (enter far c.scope (names ps.binders)) (within (fresh far) (inner c)) p b e st' →
        Means st c (datum.At p s) (At p (Let (variables (fresh far) (names ps.binders)) es e)) st'
    a_letrec : {st mid far last st' : State} {c : Context} {p : Place} {s : datum.Shape} {ps : Pairs} {b : datum.Trees} {es : Nodes} {e : Node} →
        expression st c (datum.At p s) ≡ Recursion ps b → bound_together p (length ps.binders) st c ≡ Within mid →
        MeansAll (enter mid c.scope (names ps.binders)) (valued true (within (fresh mid) c)) ps.values es far →
        MeansBody far (letrec_body ps (fresh mid) c) p b e last →
        finished p (split (variables (fresh mid) (names ps.binders)) es (cons e nil)) c last ≡ Within st' →
        Means st c (datum.At p s) (node_of p (split (variables (fresh mid) (names ps.binders)) es (cons e nil))) st'

  -- data one after another
  pub data MeansAll : State → Context → datum.Trees → Nodes → State → Type 0 where
    no_more : {st : State} {c : Context} → MeansAll st c datum.none nil st
    one_more : {st mid st' : State} {c : Context} {d : datum.Tree} {ds : datum.Trees} {e : Node} {es : Nodes} →
        Means st c d e mid → MeansAll mid c ds es st' → MeansAll st c (datum.more d ds) (cons e es) st'

  -- expressions in written order as one: a single one is itself
  pub data MeansSequence : State → Context → Place → datum.Trees → Node → State → Type 0 where
    alone : {st st' : State} {c : Context} {p : Place} {d : datum.Tree} {e : Node} →
        Means st c d e st' → MeansSequence st c p (datum.more d datum.none) e st'
    several : {st mid st' : State} {c : Context} {p : Place} {d e : datum.Tree} {ds : datum.Trees} {es : Nodes} →
        opened p 1 0 st c ≡ Within mid → MeansAll mid (inner c) (datum.more d (datum.more e ds)) es st' →
        MeansSequence st c p (datum.more d (datum.more e ds)) (At p (Seq es)) st'

  -- a lambda expression at this place
  pub data MeansLambda : State → Context → Place → Formals → datum.Trees → Node → State → Type 0 where
    closure : {st mid st' : State} {c : Context} {p : Place} {f : Formals} {b : datum.Trees} {e : Node} →
        opened p (lambda_nodes c) (length (parameters f)) st c ≡ Within mid →
        MeansBody (enter mid c.scope (names (parameters f))) (within (fresh mid) (inner c)) p b e st' →
        MeansLambda st c p f b (At p (Lambda (fixed_variables (fresh mid) f) (rest_variable (fresh mid) f) e)) st'

  -- what names are defined as; the parameters of a definition are looked at when its turn comes
  pub data MeansDefined : State → Context → Defined → Node → State → Type 0 where
    a_value : {st st' : State} {c : Context} {d : datum.Tree} {e : Node} → Means st c d e st' → MeansDefined st c (Value d) e st'
    a_procedure : {st st' : State} {c : Context} {p : Place} {f : Formals} {b : datum.Trees} {e : Node} →
        bound_twice (parameters f) ≡ None → MeansLambda st c p f b e st' → MeansDefined st c (Procedure p f b) e st'

  pub data MeansEach : State → Context → List Defined → Nodes → State → Type 0 where
    none_defined : {st : State} {c : Context} → MeansEach st c [] nil st
    one_defined : {st mid st' : State} {c : Context} {v : Defined} {vs : List Defined} {e : Node} {es : Nodes} →
        MeansDefined st c v e mid → MeansEach mid c vs es st' → MeansEach st c (v ∷ vs) (cons e es) st'

  -- a body of the form at this place: its definitions are scanned first, and then what they define and its
  -- expressions are read in the scope of all of them
  pub data MeansBody : State → Context → Place → datum.Trees → Node → State → Type 0 where
    plain_body : {st mid st' : State} {c : Context} {p : Place} {ds : datum.Trees} {f : Found} {e : Node} →
        Scans st c ds f mid → f.values ≡ [] → MeansSequence mid c p f.rest e st' → MeansBody st c p ds e st'
    defining_body : {st mid far last end st' : State} {c : Context} {p : Place} {ds : datum.Trees} {f : Found} {vs es : Nodes} →
        Scans st c ds f mid → f.values ≢ [] → bound_twice f.binders ≡ None → f.rest ≢ datum.none →
        bound_together p (length f.binders) mid c ≡ Within far →
        MeansEach far (valued true (within f.scope c)) f.values vs last → MeansAll last (rest_context f c) f.rest es end →
        finished p (split f.variables vs es) c end ≡ Within st' →
        MeansBody st c p ds (node_of p (split f.variables vs es)) st'

mutual
  -- the first refusal: that of a form's own shape is before those of its parts, which come in written order
  pub data Refuses : State → Context → datum.Tree → Refusal → Type 0 where
    is_wrong : {st : State} {c : Context} {d : datum.Tree} {r : Refusal} → expression st c d ≡ Wrong r → Refuses st c d r
    no_constant : {st : State} {c : Context} {p : Place} {s t : datum.Shape} {r : Refusal} →
        expression st c (datum.At p s) ≡ Constantly t → opened p 1 0 st c ≡ Past r → Refuses st c (datum.At p s) r
    no_objects : {st mid : State} {c : Context} {p : Place} {s t : datum.Shape} {r : Refusal} →
        expression st c (datum.At p s) ≡ Constantly t → opened p 1 0 st c ≡ Within mid → with_constant p t mid ≡ Past r → Refuses st c (datum.At p s) r
    no_name : {st : State} {c : Context} {p : Place} {s : datum.Shape} {e : Core} {r : Refusal} →
        expression st c (datum.At p s) ≡ Naming e → opened p 1 0 st c ≡ Past r → Refuses st c (datum.At p s) r
    no_node : {st : State} {c : Context} {p : Place} {s : datum.Shape} {k : Build} {ds : datum.Trees} {r : Refusal} →
        expression st c (datum.At p s) ≡ Operands k ds → opened p 1 0 st c ≡ Past r → Refuses st c (datum.At p s) r
    in_operands : {st mid : State} {c : Context} {p : Place} {s : datum.Shape} {k : Build} {ds : datum.Trees} {r : Refusal} →
        expression st c (datum.At p s) ≡ Operands k ds → opened p 1 0 st c ≡ Within mid → RefusesAll mid (inner c) ds r →
        Refuses st c (datum.At p s) r
    behind_operands : {st mid far : State} {c : Context} {p : Place} {s : datum.Shape} {k : Build} {ds : datum.Trees} {es : Nodes} {e : Core} {r : Refusal} →
        expression st c (datum.At p s) ≡ Operands k ds → opened p 1 0 st c ≡ Within mid → MeansAll mid (inner c) ds es far →
        built p k es ≡ Some e → counted p (follows k) 0 far ≡ Past r → Refuses st c (datum.At p s) r
    in_sequence : {st : State} {c : Context} {p : Place} {s : datum.Shape} {ds : datum.Trees} {r : Refusal} →
        expression st c (datum.At p s) ≡ Sequence ds → RefusesSequence st c p ds r → Refuses st c (datum.At p s) r
    in_lambda : {st : State} {c : Context} {p : Place} {s : datum.Shape} {f : Formals} {b : datum.Trees} {r : Refusal} →
        expression st c (datum.At p s) ≡ Procedural f b → RefusesLambda st c p f b r → Refuses st c (datum.At p s) r
    no_let : {st : State} {c : Context} {p : Place} {s : datum.Shape} {ps : Pairs} {b : datum.Trees} {r : Refusal} →
        expression st c (datum.At p s) ≡ Binding ps b → opened p 1 (length ps.binders) st c ≡ Past r → Refuses st c (datum.At p s) r
    in_let_values : {st mid : State} {c : Context} {p : Place} {s : datum.Shape} {ps : Pairs} {b : datum.Trees} {r : Refusal} →
        expression st c (datum.At p s) ≡ Binding ps b → opened p 1 (length ps.binders) st c ≡ Within mid →
        RefusesAll mid (inner c) ps.values r → Refuses st c (datum.At p s) r
    in_let_body : {st mid far : State} {c : Context} {p : Place} {s : datum.Shape} {ps : Pairs} {b : datum.Trees} {es : Nodes} {r : Refusal} →
        expression st c (datum.At p s) ≡ Binding ps b → opened p 1 (length ps.binders) st c ≡ Within mid →
        MeansAll mid (inner c) ps.values es far →
        RefusesBody (enter far c.scope (names ps.binders)) (within (fresh far) (inner c)) p b r → Refuses st c (datum.At p s) r
    no_letrec : {st : State} {c : Context} {p : Place} {s : datum.Shape} {ps : Pairs} {b : datum.Trees} {r : Refusal} →
        expression st c (datum.At p s) ≡ Recursion ps b → bound_together p (length ps.binders) st c ≡ Past r → Refuses st c (datum.At p s) r
    in_letrec_values : {st mid : State} {c : Context} {p : Place} {s : datum.Shape} {ps : Pairs} {b : datum.Trees} {r : Refusal} →
        expression st c (datum.At p s) ≡ Recursion ps b → bound_together p (length ps.binders) st c ≡ Within mid →
        RefusesAll (enter mid c.scope (names ps.binders)) (valued true (within (fresh mid) c)) ps.values r → Refuses st c (datum.At p s) r
    in_letrec_body : {st mid far : State} {c : Context} {p : Place} {s : datum.Shape} {ps : Pairs} {b : datum.Trees} {es : Nodes} {r : Refusal} →
        expression st c (datum.At p s) ≡ Recursion ps b → bound_together p (length ps.binders) st c ≡ Within mid →
        MeansAll (enter mid c.scope (names ps.binders)) (valued true (within (fresh mid) c)) ps.values es far →
        RefusesBody far (letrec_body ps (fresh mid) c) p b r → Refuses st c (datum.At p s) r
    no_split : {st mid far last : State} {c : Context} {p : Place} {s : datum.Shape} {ps : Pairs} {b : datum.Trees} {es : Nodes} {e : Node} {r : Refusal} →
        expression st c (datum.At p s) ≡ Recursion ps b → bound_together p (length ps.binders) st c ≡ Within mid →
        MeansAll (enter mid c.scope (names ps.binders)) (valued true (within (fresh mid) c)) ps.values es far →
        MeansBody far (letrec_body ps (fresh mid) c) p b e last →
        finished p (split (variables (fresh mid) (names ps.binders)) es (cons e nil)) c last ≡ Past r → Refuses st c (datum.At p s) r

  pub data RefusesAll : State → Context → datum.Trees → Refusal → Type 0 where
    here : {st : State} {c : Context} {d : datum.Tree} {ds : datum.Trees} {r : Refusal} → Refuses st c d r → RefusesAll st c (datum.more d ds) r
    later : {st mid : State} {c : Context} {d : datum.Tree} {ds : datum.Trees} {e : Node} {r : Refusal} →
        Means st c d e mid → RefusesAll mid c ds r → RefusesAll st c (datum.more d ds) r

  pub data RefusesSequence : State → Context → Place → datum.Trees → Refusal → Type 0 where
    no_expressions : {st : State} {c : Context} {p : Place} → RefusesSequence st c p datum.none (BadForm p)
    in_one : {st : State} {c : Context} {p : Place} {d : datum.Tree} {r : Refusal} →
        Refuses st c d r → RefusesSequence st c p (datum.more d datum.none) r
    no_sequence : {st : State} {c : Context} {p : Place} {d e : datum.Tree} {ds : datum.Trees} {r : Refusal} →
        opened p 1 0 st c ≡ Past r → RefusesSequence st c p (datum.more d (datum.more e ds)) r
    in_several : {st mid : State} {c : Context} {p : Place} {d e : datum.Tree} {ds : datum.Trees} {r : Refusal} →
        opened p 1 0 st c ≡ Within mid → RefusesAll mid (inner c) (datum.more d (datum.more e ds)) r →
        RefusesSequence st c p (datum.more d (datum.more e ds)) r

  pub data RefusesLambda : State → Context → Place → Formals → datum.Trees → Refusal → Type 0 where
    no_closure : {st : State} {c : Context} {p : Place} {f : Formals} {b : datum.Trees} {r : Refusal} →
        opened p (lambda_nodes c) (length (parameters f)) st c ≡ Past r → RefusesLambda st c p f b r
    in_closure : {st mid : State} {c : Context} {p : Place} {f : Formals} {b : datum.Trees} {r : Refusal} →
        opened p (lambda_nodes c) (length (parameters f)) st c ≡ Within mid →
        RefusesBody (enter mid c.scope (names (parameters f))) (within (fresh mid) (inner c)) p b r → RefusesLambda st c p f b r

  pub data RefusesDefined : State → Context → Defined → Refusal → Type 0 where
    in_value : {st : State} {c : Context} {d : datum.Tree} {r : Refusal} → Refuses st c d r → RefusesDefined st c (Value d) r
    parameter_twice : {st : State} {c : Context} {p q : Place} {f : Formals} {b : datum.Trees} →
        bound_twice (parameters f) ≡ Some q → RefusesDefined st c (Procedure p f b) (Duplicate q)
    in_procedure : {st : State} {c : Context} {p : Place} {f : Formals} {b : datum.Trees} {r : Refusal} →
        bound_twice (parameters f) ≡ None → RefusesLambda st c p f b r → RefusesDefined st c (Procedure p f b) r

  pub data RefusesEach : State → Context → List Defined → Refusal → Type 0 where
    in_first : {st : State} {c : Context} {v : Defined} {vs : List Defined} {r : Refusal} → RefusesDefined st c v r → RefusesEach st c (v ∷ vs) r
    in_others : {st mid : State} {c : Context} {v : Defined} {vs : List Defined} {e : Node} {r : Refusal} →
        MeansDefined st c v e mid → RefusesEach mid c vs r → RefusesEach st c (v ∷ vs) r

  pub data RefusesBody : State → Context → Place → datum.Trees → Refusal → Type 0 where
    in_scan : {st : State} {c : Context} {p : Place} {ds : datum.Trees} {r : Refusal} → ScanRefuses st c ds r → RefusesBody st c p ds r
    in_plain : {st mid : State} {c : Context} {p : Place} {ds : datum.Trees} {f : Found} {r : Refusal} →
        Scans st c ds f mid → f.values ≡ [] → RefusesSequence mid c p f.rest r → RefusesBody st c p ds r
    defined_twice : {st mid : State} {c : Context} {p q : Place} {ds : datum.Trees} {f : Found} →
        Scans st c ds f mid → f.values ≢ [] → bound_twice f.binders ≡ Some q → RefusesBody st c p ds (Duplicate q)
    nothing_behind : {st mid : State} {c : Context} {p : Place} {ds : datum.Trees} {f : Found} →
        Scans st c ds f mid → f.values ≢ [] → bound_twice f.binders ≡ None → f.rest ≡ datum.none → RefusesBody st c p ds (BadForm p)
    no_definitions : {st mid : State} {c : Context} {p : Place} {ds : datum.Trees} {f : Found} {r : Refusal} →
        Scans st c ds f mid → f.values ≢ [] → bound_twice f.binders ≡ None → f.rest ≢ datum.none →
        bound_together p (length f.binders) mid c ≡ Past r → RefusesBody st c p ds r
    in_values : {st mid far : State} {c : Context} {p : Place} {ds : datum.Trees} {f : Found} {r : Refusal} →
        Scans st c ds f mid → f.values ≢ [] → bound_twice f.binders ≡ None → f.rest ≢ datum.none →
        bound_together p (length f.binders) mid c ≡ Within far →
        RefusesEach far (valued true (within f.scope c)) f.values r → RefusesBody st c p ds r
    in_rest : {st mid far last : State} {c : Context} {p : Place} {ds : datum.Trees} {f : Found} {vs : Nodes} {r : Refusal} →
        Scans st c ds f mid → f.values ≢ [] → bound_twice f.binders ≡ None → f.rest ≢ datum.none →
        bound_together p (length f.binders) mid c ≡ Within far →
        MeansEach far (valued true (within f.scope c)) f.values vs last → RefusesAll last (rest_context f c) f.rest r → RefusesBody st c p ds r
    no_body_split : {st mid far last end : State} {c : Context} {p : Place} {ds : datum.Trees} {f : Found} {vs es : Nodes} {r : Refusal} →
        Scans st c ds f mid → f.values ≢ [] → bound_twice f.binders ≡ None → f.rest ≢ datum.none →
        bound_together p (length f.binders) mid c ≡ Within far →
        MeansEach far (valued true (within f.scope c)) f.values vs last → MeansAll last (rest_context f c) f.rest es end →
        finished p (split f.variables vs es) c end ≡ Past r → RefusesBody st c p ds r
