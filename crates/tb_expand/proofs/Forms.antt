-- What comes of the parts of a form is what comes of it.
use Rattle.std.proofs.Common.{◌≡◌, ◌≢◌, refl, sym, ap, subst, ◌∙◌, ℕ, ◌==◌, true, false, ◌≤◌, ◌<◌, ◌+◌, suc, get_or, drop, arith, List, [], ◌∷◌, ◌++◌, map, length, Some, None}
use Rattle.std.proofs.lemmas.Bool.{eqb-true}
use Rattle.std.proofs.Math.Numerals.{add-one}
use Rattle.std.proofs.Math.Seq.{drop-cons}
use Rattle.tb_expand.specs.declared.definition.Defined.{Defined as DefinedCode}
use Rattle.tb_expand.specs.View.{view_defined}
use Rattle.tb_prim.specs.declared.place.Place.{Place}
use Rattle.tb_sexp.specs.Tree as datum
use Rattle.tb_expand.specs.declared.context.Context.{Context}
use Rattle.tb_expand.specs.declared.refusal.ExpandRefusal.{ExpandRefusal}
use Rattle.tb_expand.specs.Names.{names, bound_twice}
use Rattle.tb_expand.specs.Trees.{Var, variables, Node, At, Core, Lambda, Let, Seq, Nodes, nil, cons, how_many, joined}
use Rattle.tb_expand.specs.Splits.{split}
use Rattle.tb_expand.specs.Refusals.{Refusal, BadForm, Duplicate}
use Rattle.tb_expand.specs.Scopes.{State, fresh, enter}
use Rattle.tb_expand.specs.Limits.{Within, Past, counted, opened, inner, within, valued, how_many_data}
use Rattle.tb_expand.specs.Shapes.{Formals, parameters, Pairs, Defined, Value, Procedure}
use Rattle.tb_expand.specs.Expressions.{Expression, Wrong, Operands, Sequence, Procedural, Binding, Recursion, Build, Choosing, ChoosingOne, AssigningLocal, AssigningGlobal, Using, ApplyingTo, Calling, expression, built, follows}
use Rattle.tb_expand.specs.Bodies.{Found, Scans, ScanRefuses}
use Rattle.tb_expand.specs.Means.{fixed_variables, rest_variable, lambda_nodes, bound_together, rest_context, letrec_body, finished}
use Rattle.tb_expand.specs.Means.{Means, MeansAll, MeansSequence, MeansLambda, MeansDefined, MeansEach, MeansBody}
use Rattle.tb_expand.specs.Means.{operands, a_sequence, a_lambda, a_let, a_letrec, no_more, one_more, alone, several, closure, a_value, none_defined, one_defined, plain_body, defining_body}
use Rattle.tb_expand.specs.Means.{Refuses, RefusesAll, RefusesSequence, RefusesLambda, RefusesDefined, RefusesEach, RefusesBody}
use Rattle.tb_expand.specs.Means.{is_wrong, no_node, in_operands, behind_operands, in_sequence, in_lambda, no_let, in_let_values, in_let_body, no_letrec, in_letrec_values, in_letrec_body, no_split}
use Rattle.tb_expand.specs.Means.{here, later, no_expressions, in_one, no_sequence, in_several, no_closure, in_closure, in_value, parameter_twice, in_procedure, in_first, in_others}
use Rattle.tb_expand.specs.Means.{in_scan, in_plain, defined_twice, nothing_behind, no_definitions, in_values, in_rest, no_body_split}
use Rattle.tb_expand.specs.declared.scan.Found.{Found as FoundCode}
use Rattle.tb_expand.specs.View.{Fails, view_lists, view_variable, data_of, nodes, view, view_binder}
use Rattle.tb_sexp.specs.View as data_view
use Rattle.tb_sexp.specs.declared.datum.Datum.{Datum}
use Rattle.tb_expand.specs.declared.tree.Node.{Node as NodeCode}
use Rattle.tb_expand.specs.calls.Expanded.{Gives, Denies, BodyGives, BodyDenies, Finishes, AllGoes, EachGoes, Suits, as_values, DefinitionsOpen, DefinitionsDenied, is_twice, not_behind, not_limited}
use Rattle.tb_expand.specs.calls.Scanned.{Lists, with_found, ScanGives}
use Rattle.tb_expand.proofs.Sizes.{size_all}
use Rattle.tb_expand.proofs.Works.{weight_all, found_weighs}
use Rattle.tb_expand.proofs.Scanning.{fails_as, same_lists}
use Rattle.tb_expand.proofs.Reading.{view_datum}

-- operands
pub operands_give : (st mid far st' : State) (c : Context) (p : Place) (k : Build) (ds : datum.Trees) (es : Nodes) (x : Core) (e : Node) → opened p 1 0 st c ≡ Within mid → MeansAll mid (inner c) ds es far →
    built p k es ≡ Some x → counted p (follows k) 0 far ≡ Within st' → e ≡ At p x → Gives st c p (Operands k ds) e st'
operands_give st mid far st' c p k ds es x e a m b l q = record { means = λ s h. subst (λ (e : Node). Means st c (datum.At p s) e st') (sym q) (operands h a m b l) }

pub operands_not_opened : (st : State) (c : Context) (p : Place) (k : Build) (ds : datum.Trees) (r : ExpandRefusal) → Fails (λ q. opened p 1 0 st c ≡ Past q) r → Fails (Denies st c p (Operands k ds)) r
operands_not_opened st c p k ds r f = fails_as (λ q. opened p 1 0 st c ≡ Past q) (Denies st c p (Operands k ds)) (λ q a. record { refuses = λ s h. no_node h a }) r f

pub operands_denied : (st mid : State) (c : Context) (p : Place) (k : Build) (ds : datum.Trees) (r : ExpandRefusal) → opened p 1 0 st c ≡ Within mid → Fails (RefusesAll mid (inner c) ds) r →
    Fails (Denies st c p (Operands k ds)) r
operands_denied st mid c p k ds r a f = fails_as (RefusesAll mid (inner c) ds) (Denies st c p (Operands k ds)) (λ q b. record { refuses = λ s h. in_operands h a b }) r f

nodes_counted : (es : List NodeCode) → how_many (nodes (map view es)) ≡ length es
nodes_counted [] = refl
nodes_counted (e ∷ es) = let h = nodes_counted es in omega arith

-- a node has as many operands as it needs, so it is made
built_once : (p : Place) (k : Build) (n : ℕ) (es : Nodes) → n ≡ how_many es → Suits k n → (x : Core) × (built p k es ≡ Some x)
built_once p Choosing n (cons a (cons b (cons c nil))) e s = (_, refl)
built_once p Choosing n nil e s = absurd (omega arith)
built_once p Choosing n (cons a nil) e s = absurd (omega arith)
built_once p Choosing n (cons a (cons b nil)) e s = absurd (omega arith)
built_once p Choosing n (cons a (cons b (cons c (cons d es)))) e s = absurd (omega arith)
built_once p ChoosingOne n (cons a (cons b nil)) e s = (_, refl)
built_once p ChoosingOne n nil e s = absurd (omega arith)
built_once p ChoosingOne n (cons a nil) e s = absurd (omega arith)
built_once p ChoosingOne n (cons a (cons b (cons c es))) e s = absurd (omega arith)
built_once p (AssigningLocal x) n (cons a nil) e s = (_, refl)
built_once p (AssigningLocal x) n nil e s = absurd (omega arith)
built_once p (AssigningLocal x) n (cons a (cons b es)) e s = absurd (omega arith)
built_once p (AssigningGlobal q g) n (cons a nil) e s = (_, refl)
built_once p (AssigningGlobal q g) n nil e s = absurd (omega arith)
built_once p (AssigningGlobal q g) n (cons a (cons b es)) e s = absurd (omega arith)
built_once p (Using q) n es e s = (_, refl)
built_once p ApplyingTo n (cons a (cons b nil)) e s = (_, refl)
built_once p ApplyingTo n nil e s = absurd (omega arith)
built_once p ApplyingTo n (cons a nil) e s = absurd (omega arith)
built_once p ApplyingTo n (cons a (cons b (cons c es))) e s = absurd (omega arith)
built_once p Calling n (cons a es) e s = (_, refl)
built_once p Calling n nil e s = absurd (omega arith)

as_many : {st : State} {c : Context} {ds : datum.Trees} {es : Nodes} {st' : State} → MeansAll st c ds es st' → how_many_data ds ≡ how_many es
as_many no_more = refl
as_many (one_more m ms) = let h = as_many ms in omega arith

operands_past : (st mid far : State) (c : Context) (p : Place) (k : Build) (ds : datum.Trees) (es : Nodes) (x : Core) (r : ExpandRefusal) → opened p 1 0 st c ≡ Within mid → MeansAll mid (inner c) ds es far →
    built p k es ≡ Some x → Fails (λ q. counted p (follows k) 0 far ≡ Past q) r → Fails (Denies st c p (Operands k ds)) r
operands_past st mid far c p k ds es x r a m b f =
    fails_as (λ q. counted p (follows k) 0 far ≡ Past q) (Denies st c p (Operands k ds)) (λ q l. record { refuses = λ s h. behind_operands h a m b l }) r f

pub operands_not_counted : (st mid far : State) (c : Context) (p : Place) (k : Build) (ds : datum.Trees) (es : Nodes) (r : ExpandRefusal) → Suits k (how_many_data ds) → opened p 1 0 st c ≡ Within mid →
    MeansAll mid (inner c) ds es far → Fails (λ q. counted p (follows k) 0 far ≡ Past q) r → Fails (Denies st c p (Operands k ds)) r
operands_not_counted st mid far c p k ds es r s a m f =
    let b = built_once p k (how_many_data ds) es (as_many m) s in
    operands_past st mid far c p k ds es b.0 r a m b.1 f

pub suits_code : (k : Build) (ds : datum.Trees) (es : List NodeCode) (st : State) (c : Context) (st' : State) → Suits k (how_many_data ds) → MeansAll st c ds (nodes (map view es)) st' → Suits k (length es)
suits_code k ds es st c st' s m = subst (Suits k) (as_many m ∙ nodes_counted es) s

-- the first datum alone
pub one_means : (st st' : State) (c : Context) (d : datum.Tree) (e : Node) → Means st c d e st' → MeansAll st c (datum.more d datum.none) (cons e nil) st'
one_means st st' c d e m = one_more m no_more

pub one_refused : (st : State) (c : Context) (d : datum.Tree) (r : ExpandRefusal) → Fails (Refuses st c d) r → Fails (RefusesAll st c (datum.more d datum.none)) r
one_refused st c d r f = fails_as (Refuses st c d) (RefusesAll st c (datum.more d datum.none)) (λ q a. here a) r f

-- sequences
pub sequence_gives : (st st' : State) (c : Context) (p : Place) (ds : datum.Trees) (e : Node) → MeansSequence st c p ds e st' → Gives st c p (Sequence ds) e st'
sequence_gives st st' c p ds e m = record { means = λ s h. a_sequence h m }

pub sequence_denied : (st : State) (c : Context) (p : Place) (ds : datum.Trees) (r : ExpandRefusal) → Fails (RefusesSequence st c p ds) r → Fails (Denies st c p (Sequence ds)) r
sequence_denied st c p ds r f = fails_as (RefusesSequence st c p ds) (Denies st c p (Sequence ds)) (λ q a. record { refuses = λ s h. in_sequence h a }) r f

pub empty_sequence : (st : State) (c : Context) (p : Place) (ds : datum.Trees) → ds ≡ datum.none → RefusesSequence st c p ds (BadForm p)
empty_sequence st c p ds e = subst (λ (ds : datum.Trees). RefusesSequence st c p ds (BadForm p)) (sym e) no_expressions

pub sequence_of_one : (st st' : State) (c : Context) (p : Place) (d : Datum) (ds : List Datum) (e : Node) → length ds ≡ 1 → d ≡ get_or ds 0 d → Means st c (data_view.view d) e st' → MeansSequence st c p (data_of ds) e st'
sequence_of_one st st' c p d (x ∷ []) e l i m = subst (λ (d : Datum). MeansSequence st c p (datum.more (data_view.view d) datum.none) e st') i (alone m)
sequence_of_one st st' c p d [] e l i m = absurd (omega arith)
sequence_of_one st st' c p d (x ∷ y ∷ ds) e l i m = absurd (omega arith)

pub sequence_of_one_refused : (st : State) (c : Context) (p : Place) (d : Datum) (ds : List Datum) (r : ExpandRefusal) → length ds ≡ 1 → d ≡ get_or ds 0 d → Fails (Refuses st c (data_view.view d)) r → Fails (RefusesSequence st c p (data_of ds)) r
sequence_of_one_refused st c p d (x ∷ []) r l i f =
    subst (λ (d : Datum). Fails (RefusesSequence st c p (datum.more (data_view.view d) datum.none)) r) i
    (fails_as (Refuses st c (data_view.view d)) (RefusesSequence st c p (datum.more (data_view.view d) datum.none)) (λ q a. in_one a) r f)
sequence_of_one_refused st c p d [] r l i f = absurd (omega arith)
sequence_of_one_refused st c p d (x ∷ y ∷ ds) r l i f = absurd (omega arith)

pub sequence_of_several : (st mid st' : State) (c : Context) (p : Place) (ds : List Datum) (es : Nodes) (e : Node) → 2 ≤ length ds → opened p 1 0 st c ≡ Within mid → MeansAll mid (inner c) (data_of ds) es st' →
    e ≡ At p (Seq es) → MeansSequence st c p (data_of ds) e st'
sequence_of_several st mid st' c p (x ∷ y ∷ ds) es e l a m q = subst (λ (e : Node). MeansSequence st c p (data_of (x ∷ y ∷ ds)) e st') (sym q) (several a m)
sequence_of_several st mid st' c p [] es e l a m q = absurd (omega arith)
sequence_of_several st mid st' c p (x ∷ []) es e l a m q = absurd (omega arith)

pub sequence_not_opened : (st : State) (c : Context) (p : Place) (ds : List Datum) (r : ExpandRefusal) → 2 ≤ length ds → Fails (λ q. opened p 1 0 st c ≡ Past q) r → Fails (RefusesSequence st c p (data_of ds)) r
sequence_not_opened st c p (x ∷ y ∷ ds) r l f = fails_as (λ q. opened p 1 0 st c ≡ Past q) (RefusesSequence st c p (data_of (x ∷ y ∷ ds))) (λ q a. no_sequence a) r f
sequence_not_opened st c p [] r l f = absurd (omega arith)
sequence_not_opened st c p (x ∷ []) r l f = absurd (omega arith)

pub sequence_refused : (st mid : State) (c : Context) (p : Place) (ds : List Datum) (r : ExpandRefusal) → 2 ≤ length ds → opened p 1 0 st c ≡ Within mid → Fails (RefusesAll mid (inner c) (data_of ds)) r →
    Fails (RefusesSequence st c p (data_of ds)) r
sequence_refused st mid c p (x ∷ y ∷ ds) r l a f =
    fails_as (RefusesAll mid (inner c) (data_of (x ∷ y ∷ ds))) (RefusesSequence st c p (data_of (x ∷ y ∷ ds))) (λ q b. in_several a b) r f
sequence_refused st mid c p [] r l a f = absurd (omega arith)
sequence_refused st mid c p (x ∷ []) r l a f = absurd (omega arith)

-- lambda expressions
pub lambda_gives : (st st' : State) (c : Context) (p : Place) (f : Formals) (b : datum.Trees) (e : Node) → MeansLambda st c p f b e st' → Gives st c p (Procedural f b) e st'
lambda_gives st st' c p f b e m = record { means = λ s h. a_lambda h m }

pub lambda_denied : (st : State) (c : Context) (p : Place) (f : Formals) (b : datum.Trees) (r : ExpandRefusal) → Fails (RefusesLambda st c p f b) r → Fails (Denies st c p (Procedural f b)) r
lambda_denied st c p f b r a = fails_as (RefusesLambda st c p f b) (Denies st c p (Procedural f b)) (λ q a. record { refuses = λ s h. in_lambda h a }) r a

pub closure_means : (st mid far st' : State) (c : Context) (p : Place) (f : Formals) (s n : ℕ) (b : datum.Trees) (body e : Node) → n ≡ length (parameters f) → opened p (lambda_nodes c) n st c ≡ Within mid →
    s ≡ fresh mid → far ≡ enter mid c.scope (names (parameters f)) → MeansBody far (within s (inner c)) p b body st' → e ≡ At p (Lambda (fixed_variables s f) (rest_variable s f) body) → MeansLambda st c p f b e st'
closure_means st mid far st' c p f s n b body e k a i j m q =
    let a' = ap (λ n. opened p (lambda_nodes c) n st c) (sym k) ∙ a in
    let m' = subst (λ (x : State). MeansBody x (within (fresh mid) (inner c)) p b body st') j (subst (λ (s : ℕ). MeansBody far (within s (inner c)) p b body st') i m) in
    let q' = q ∙ ap (λ s. At p (Lambda (fixed_variables s f) (rest_variable s f) body)) i in
    subst (λ (e : Node). MeansLambda st c p f b e st') (sym q') (closure a' m')

pub closure_not_opened : (st : State) (c : Context) (p : Place) (f : Formals) (n : ℕ) (b : datum.Trees) (r : ExpandRefusal) → n ≡ length (parameters f) →
    Fails (λ q. opened p (lambda_nodes c) n st c ≡ Past q) r → Fails (RefusesLambda st c p f b) r
closure_not_opened st c p f n b r k a =
    fails_as (λ q. opened p (lambda_nodes c) n st c ≡ Past q) (RefusesLambda st c p f b) (λ q a. no_closure (ap (λ n. opened p (lambda_nodes c) n st c) (sym k) ∙ a)) r a

pub closure_refused : (st mid far : State) (c : Context) (p : Place) (f : Formals) (s n : ℕ) (b : datum.Trees) (r : ExpandRefusal) → n ≡ length (parameters f) → opened p (lambda_nodes c) n st c ≡ Within mid →
    s ≡ fresh mid → far ≡ enter mid c.scope (names (parameters f)) → Fails (RefusesBody far (within s (inner c)) p b) r → Fails (RefusesLambda st c p f b) r
closure_refused st mid far c p f s n b r k a i j z =
    fails_as (RefusesBody far (within s (inner c)) p b) (RefusesLambda st c p f b)
    (λ q m. in_closure (ap (λ n. opened p (lambda_nodes c) n st c) (sym k) ∙ a)
    (subst (λ (x : State). RefusesBody x (within (fresh mid) (inner c)) p b q) j (subst (λ (s : ℕ). RefusesBody far (within s (inner c)) p b q) i m))) r z

-- definitions
pub defined_twice_refused : (st : State) (c : Context) (p q : Place) (f : Formals) (b : datum.Trees) → bound_twice (parameters f) ≡ Some q → RefusesDefined st c (Procedure p f b) (Duplicate q)
defined_twice_refused st c p q f b e = parameter_twice e

pub procedure_refused : (st : State) (c : Context) (p : Place) (f : Formals) (b : datum.Trees) (r : ExpandRefusal) → bound_twice (parameters f) ≡ None → Fails (RefusesLambda st c p f b) r → Fails (RefusesDefined st c (Procedure p f b)) r
procedure_refused st c p f b r e a = fails_as (RefusesLambda st c p f b) (RefusesDefined st c (Procedure p f b)) (λ q a. in_procedure e a) r a

pub value_refused : (st : State) (c : Context) (d : datum.Tree) (r : ExpandRefusal) → Fails (Refuses st c d) r → Fails (RefusesDefined st c (Value d)) r
value_refused st c d r f = fails_as (Refuses st c d) (RefusesDefined st c (Value d)) (λ q a. in_value a) r f

-- bindings
means_all : {st : State} {c : Context} (ds : datum.Trees) {es : Nodes} {st' : State} → MeansEach st c (as_values ds) es st' → MeansAll st c ds es st'
means_all datum.none none_defined = no_more
means_all (datum.more d ds) (one_defined (a_value m) ms) = one_more m (means_all ds ms)

refuses_all : {st : State} {c : Context} (ds : datum.Trees) {r : Refusal} → RefusesEach st c (as_values ds) r → RefusesAll st c ds r
refuses_all datum.none x = elim x [ ]
refuses_all (datum.more d ds) (in_first (in_value a)) = here a
refuses_all (datum.more d ds) (in_others (a_value m) a) = later m (refuses_all ds a)

pub values_mean : (st st' : State) (c : Context) (vs : List Defined) (ds : datum.Trees) (es : Nodes) → vs ≡ as_values ds → MeansEach st c vs es st' → MeansAll st c ds es st'
values_mean st st' c vs ds es e m = means_all ds (subst (λ (vs : List Defined). MeansEach st c vs es st') e m)

pub values_refused : (st : State) (c : Context) (vs : List Defined) (ds : datum.Trees) (r : ExpandRefusal) → vs ≡ as_values ds → Fails (RefusesEach st c vs) r → Fails (RefusesAll st c ds) r
values_refused st c vs ds r e f = fails_as (RefusesEach st c vs) (RefusesAll st c ds) (λ q a. refuses_all ds (subst (λ (vs : List Defined). RefusesEach st c vs q) e a)) r f

-- data one after another
pub joined_one : (es : Nodes) (e : Node) (fs : Nodes) → joined (joined es (cons e nil)) fs ≡ joined es (cons e fs)
joined_one nil e fs = refl
joined_one (cons d es) e fs = ap (λ xs. cons d xs) (joined_one es e fs)

pub joined_none : (es : Nodes) → joined es nil ≡ es
joined_none nil = refl
joined_none (cons e es) = ap (λ xs. cons e xs) (joined_none es)

pub nodes_pushed : (es : List NodeCode) (e : NodeCode) → nodes (map view (es ++ e ∷ [])) ≡ joined (nodes (map view es)) (cons (view e) nil)
nodes_pushed [] e = refl
nodes_pushed (x ∷ es) e = ap (λ xs. cons (view x) xs) (nodes_pushed es e)

pub all_start : (st : State) (c : Context) (ds : datum.Trees) → AllGoes st c ds nil st ds
all_start st c ds = record { gives = λ es st' m. m; refuses = λ r a. a }

pub all_end : (st0 st : State) (c : Context) (ds0 ds : datum.Trees) (done : Nodes) → AllGoes st0 c ds0 done st ds → ds ≡ datum.none → MeansAll st0 c ds0 done st
all_end st0 st c ds0 ds done g e =
    let m = subst (λ (ds : datum.Trees). MeansAll st c ds nil st) (sym e) no_more in
    subst (λ (es : Nodes). MeansAll st0 c ds0 es st) (joined_none done) (g.gives nil st m)

all_go : (st0 st mid : State) (c : Context) (ds0 ds whole : datum.Trees) (done : Nodes) (d : datum.Tree) (e : Node) → AllGoes st0 c ds0 done st whole → whole ≡ datum.more d ds → Means st c d e mid →
    AllGoes st0 c ds0 (joined done (cons e nil)) mid ds
all_go st0 st mid c ds0 ds whole done d e g q m = record {
  gives = λ es st' ms. subst (λ (xs : Nodes). MeansAll st0 c ds0 xs st') (sym (joined_one done e es))
      (g.gives (cons e es) st' (subst (λ (w : datum.Trees). MeansAll st c w (cons e es) st') (sym q) (one_more m ms)));
  refuses = λ r a. g.refuses r (subst (λ (w : datum.Trees). RefusesAll st c w r) (sym q) (later m a));
}

pub all_going : (st0 st mid : State) (c : Context) (ds0 : datum.Trees) (ds : List Datum) (i : ℕ) (done : List NodeCode) (d : Datum) (e : NodeCode) → i < length ds → d ≡ get_or ds i d →
    AllGoes st0 c ds0 (nodes (map view done)) st (data_of (drop i ds)) → Means st c (data_view.view d) (view e) mid →
    AllGoes st0 c ds0 (nodes (map view (done ++ e ∷ []))) mid (data_of (drop (i + 1) ds))
all_going st0 st mid c ds0 ds i done d e lt is g m =
    let q = ap data_of (drop-cons ds i d lt) ∙ ap (λ x. datum.more (data_view.view x) (data_of (drop (suc i) ds))) (sym is) in
    let a = all_go st0 st mid c ds0 (data_of (drop (suc i) ds)) (data_of (drop i ds)) (nodes (map view done)) (data_view.view d) (view e) g q m in
    let b = subst (λ (xs : Nodes). AllGoes st0 c ds0 xs mid (data_of (drop (suc i) ds))) (sym (nodes_pushed done e)) a in
    subst (λ (n : ℕ). AllGoes st0 c ds0 (nodes (map view (done ++ e ∷ []))) mid (data_of (drop n ds))) (sym (add-one i)) b

pub all_refused : (st0 st : State) (c : Context) (ds0 : datum.Trees) (ds : List Datum) (i : ℕ) (done : Nodes) (d : Datum) (r : ExpandRefusal) → i < length ds → d ≡ get_or ds i d →
    AllGoes st0 c ds0 done st (data_of (drop i ds)) → Fails (Refuses st c (data_view.view d)) r → Fails (RefusesAll st0 c ds0) r
all_refused st0 st c ds0 ds i done d r lt is g f =
    let q = ap data_of (drop-cons ds i d lt) ∙ ap (λ x. datum.more (data_view.view x) (data_of (drop (suc i) ds))) (sym is) in
    fails_as (Refuses st c (data_view.view d)) (RefusesAll st0 c ds0) (λ r a. g.refuses r (subst (λ (w : datum.Trees). RefusesAll st c w r) (sym q) (here a))) r f

-- what names are defined as, one after another
pub each_end : (st0 st : State) (c : Context) (vs0 vs : List Defined) (done : Nodes) → EachGoes st0 c vs0 done st vs → vs ≡ [] → MeansEach st0 c vs0 done st
each_end st0 st c vs0 vs done g e =
    let m = subst (λ (vs : List Defined). MeansEach st c vs nil st) (sym e) none_defined in
    subst (λ (es : Nodes). MeansEach st0 c vs0 es st) (joined_none done) (g.gives nil st m)

each_go : (st0 st mid : State) (c : Context) (vs0 vs whole : List Defined) (done : Nodes) (v : Defined) (e : Node) → EachGoes st0 c vs0 done st whole → whole ≡ v ∷ vs → MeansDefined st c v e mid →
    EachGoes st0 c vs0 (joined done (cons e nil)) mid vs
each_go st0 st mid c vs0 vs whole done v e g q m = record {
  gives = λ es st' ms. subst (λ (xs : Nodes). MeansEach st0 c vs0 xs st') (sym (joined_one done e es))
      (g.gives (cons e es) st' (subst (λ (w : List Defined). MeansEach st c w (cons e es) st') (sym q) (one_defined m ms)));
  refuses = λ r a. g.refuses r (subst (λ (w : List Defined). RefusesEach st c w r) (sym q) (in_others m a));
}

pub each_going : (st0 st mid : State) (c : Context) (vs0 : List Defined) (vs : List DefinedCode) (i : ℕ) (done : List NodeCode) (v : DefinedCode) (e : NodeCode) → i < length vs → v ≡ get_or vs i v →
    EachGoes st0 c vs0 (nodes (map view done)) st (map view_defined (drop i vs)) → MeansDefined st c (view_defined v) (view e) mid →
    EachGoes st0 c vs0 (nodes (map view (done ++ e ∷ []))) mid (map view_defined (drop (i + 1) vs))
each_going st0 st mid c vs0 vs i done v e lt is g m =
    let q = ap (map view_defined) (drop-cons vs i v lt) ∙ ap (λ x. view_defined x ∷ map view_defined (drop (suc i) vs)) (sym is) in
    let a = each_go st0 st mid c vs0 (map view_defined (drop (suc i) vs)) (map view_defined (drop i vs)) (nodes (map view done)) (view_defined v) (view e) g q m in
    let b = subst (λ (xs : Nodes). EachGoes st0 c vs0 xs mid (map view_defined (drop (suc i) vs))) (sym (nodes_pushed done e)) a in
    subst (λ (n : ℕ). EachGoes st0 c vs0 (nodes (map view (done ++ e ∷ []))) mid (map view_defined (drop n vs))) (sym (add-one i)) b

pub each_refused : (st0 st : State) (c : Context) (vs0 : List Defined) (vs : List DefinedCode) (i : ℕ) (done : Nodes) (v : DefinedCode) (r : ExpandRefusal) → i < length vs → v ≡ get_or vs i v →
    EachGoes st0 c vs0 done st (map view_defined (drop i vs)) → Fails (RefusesDefined st c (view_defined v)) r → Fails (RefusesEach st0 c vs0) r
each_refused st0 st c vs0 vs i done v r lt is g f =
    let q = ap (map view_defined) (drop-cons vs i v lt) ∙ ap (λ x. view_defined x ∷ map view_defined (drop (suc i) vs)) (sym is) in
    fails_as (RefusesDefined st c (view_defined v)) (RefusesEach st0 c vs0) (λ r a. g.refuses r (subst (λ (w : List Defined). RefusesEach st c w r) (sym q) (in_first a))) r f

-- bodies
pub plain_gives : (st st' : State) (c : Context) (p : Place) (f : Found) (e : Node) → f.values ≡ [] → MeansSequence st c p f.rest e st' → BodyGives st c p f e st'
plain_gives st st' c p f e n m = record { means = λ st0 ds s. plain_body s n m }

pub plain_denied : (st : State) (c : Context) (p : Place) (f : Found) (r : ExpandRefusal) → f.values ≡ [] → Fails (RefusesSequence st c p f.rest) r → Fails (BodyDenies st c p f) r
plain_denied st c p f r n z = fails_as (RefusesSequence st c p f.rest) (BodyDenies st c p f) (λ q a. record { refuses = λ st0 ds s. in_plain s n a }) r z

denied_definitions : (st : State) (c : Context) (p : Place) (f : Found) (q : Refusal) → f.values ≢ [] → DefinitionsDenied st c p f.binders f.rest q → BodyDenies st c p f q
denied_definitions st c p f q n (is_twice t e k) = record { refuses = λ st0 ds s. subst (λ (q : Refusal). RefusesBody st0 c p ds q) (sym k) (defined_twice s n e) }
denied_definitions st c p f q n (not_behind o e k) = record { refuses = λ st0 ds s. subst (λ (q : Refusal). RefusesBody st0 c p ds q) (sym k) (nothing_behind s n o e) }
denied_definitions st c p f q n (not_limited o b a) = record { refuses = λ st0 ds s. no_definitions s n o b a }

pub definitions_denied : (st : State) (c : Context) (p : Place) (f : Found) (r : ExpandRefusal) → f.values ≢ [] → Fails (DefinitionsDenied st c p f.binders f.rest) r → Fails (BodyDenies st c p f) r
definitions_denied st c p f r n z = fails_as (DefinitionsDenied st c p f.binders f.rest) (BodyDenies st c p f) (λ q a. denied_definitions st c p f q n a) r z

pub body_values_denied : (st far : State) (c : Context) (p : Place) (f : Found) (r : ExpandRefusal) → f.values ≢ [] → DefinitionsOpen st c p f.binders f.rest far →
    Fails (RefusesEach far (valued true (within f.scope c)) f.values) r → Fails (BodyDenies st c p f) r
body_values_denied st far c p f r n o z =
    fails_as (RefusesEach far (valued true (within f.scope c)) f.values) (BodyDenies st c p f) (λ q a. record { refuses = λ st0 ds s. in_values s n o.once o.behind o.limited a }) r z

pub body_rest_denied : (st far last : State) (c : Context) (p : Place) (f : Found) (vs : Nodes) (r : ExpandRefusal) → f.values ≢ [] → DefinitionsOpen st c p f.binders f.rest far →
    MeansEach far (valued true (within f.scope c)) f.values vs last → Fails (RefusesAll last (rest_context f c) f.rest) r → Fails (BodyDenies st c p f) r
body_rest_denied st far last c p f vs r n o m z =
    fails_as (RefusesAll last (rest_context f c) f.rest) (BodyDenies st c p f) (λ q a. record { refuses = λ st0 ds s. in_rest s n o.once o.behind o.limited m a }) r z

pub body_split_denied : (st far last end : State) (c : Context) (p : Place) (f : Found) (vs es : Nodes) (r : ExpandRefusal) → f.values ≢ [] → DefinitionsOpen st c p f.binders f.rest far →
    MeansEach far (valued true (within f.scope c)) f.values vs last → MeansAll last (rest_context f c) f.rest es end →
    Fails (λ q. finished p (split f.variables vs es) c end ≡ Past q) r → Fails (BodyDenies st c p f) r
body_split_denied st far last end c p f vs es r n o m ms z =
    fails_as (λ q. finished p (split f.variables vs es) c end ≡ Past q) (BodyDenies st c p f) (λ q a. record { refuses = λ st0 ds s. no_body_split s n o.once o.behind o.limited m ms a }) r z

pub defining_gives : (st far last end st' : State) (c : Context) (p : Place) (f : Found) (vs es : Nodes) (e : Node) → f.values ≢ [] → DefinitionsOpen st c p f.binders f.rest far →
    MeansEach far (valued true (within f.scope c)) f.values vs last → MeansAll last (rest_context f c) f.rest es end →
    Finishes p (split f.variables vs es) c end e st' → BodyGives st c p f e st'
defining_gives st far last end st' c p f vs es e n o m ms z =
    record { means = λ st0 ds s. subst (λ (e : Node). MeansBody st0 c p ds e st') (sym z.node) (defining_body s n o.once o.behind o.limited m ms z.limited) }

-- what a scan gives, where nothing was found before it
scanned_body : (st mid : State) (c : Context) (ds : datum.Trees) (l : Lists) (s : ℕ) (rest : datum.Trees) → (g : ScanGives st c ds (record { variables = []; binders = []; values = [] }) mid s rest l) →
    Scans st c ds (record { variables = l.variables; binders = l.binders; values = l.values; scope = s; rest = rest }) mid
scanned_body st mid c ds l s rest g =
    let P : Lists → ℕ → datum.Trees → Type 0 = λ l s rest. Scans st c ds (record { variables = l.variables; binders = l.binders; values = l.values; scope = s; rest = rest }) mid in
    subst (λ (l : Lists). P l s rest) (sym g.lists) (subst (λ (s : ℕ). P (with_found (record { variables = []; binders = []; values = [] }) g.found) s rest) g.scope_is
    (subst (λ (rest : datum.Trees). P (with_found (record { variables = []; binders = []; values = [] }) g.found) g.found.scope rest) g.rest_is g.scans))

pub body_means : (st mid st' : State) (c : Context) (p : Place) (ds : datum.Trees) (l0 l : Lists) (s : ℕ) (rest : datum.Trees) (e : Node) → l0 ≡ record { variables = []; binders = []; values = [] } →
    ScanGives st c ds l0 mid s rest l → BodyGives mid c p (record { variables = l.variables; binders = l.binders; values = l.values; scope = s; rest = rest }) e st' → MeansBody st c p ds e st'
body_means st mid st' c p ds l0 l s rest e q g b = b.means st ds (scanned_body st mid c ds l s rest (subst (λ (l0 : Lists). ScanGives st c ds l0 mid s rest l) q g))

pub body_refused : (st mid : State) (c : Context) (p : Place) (ds : datum.Trees) (l0 l : Lists) (s : ℕ) (rest : datum.Trees) (r : ExpandRefusal) → l0 ≡ record { variables = []; binders = []; values = [] } →
    ScanGives st c ds l0 mid s rest l → Fails (BodyDenies mid c p (record { variables = l.variables; binders = l.binders; values = l.values; scope = s; rest = rest })) r → Fails (RefusesBody st c p ds) r
body_refused st mid c p ds l0 l s rest r q g z =
    fails_as (BodyDenies mid c p (record { variables = l.variables; binders = l.binders; values = l.values; scope = s; rest = rest })) (RefusesBody st c p ds)
    (λ r b. b.refuses st ds (scanned_body st mid c ds l s rest (subst (λ (l0 : Lists). ScanGives st c ds l0 mid s rest l) q g))) r z

pub scan_refused : (st : State) (c : Context) (p : Place) (ds : datum.Trees) (r : ExpandRefusal) → Fails (ScanRefuses st c ds) r → Fails (RefusesBody st c p ds) r
scan_refused st c p ds r f = fails_as (ScanRefuses st c ds) (RefusesBody st c p ds) (λ q a. in_scan a) r f

-- what was found is smaller than the body
pub found_smaller : (st mid : State) (c : Context) (ds : datum.Trees) (l0 l : Lists) (s : ℕ) (rest : datum.Trees) → l0 ≡ record { variables = []; binders = []; values = [] } →
    ScanGives st c ds l0 mid s rest l → weight_all l.values + size_all rest ≤ size_all ds
found_smaller st mid c ds l0 l s rest q g = found_weighs (scanned_body st mid c ds l s rest (subst (λ (l0 : Lists). ScanGives st c ds l0 mid s rest l) q g))

-- a datum, by what it is
pub datum_denied : (st : State) (c : Context) (d : Datum) (x : Expression) (r : ExpandRefusal) → expression st c (data_view.view d) ≡ x → Fails (Denies st c d.place x) r → Fails (Refuses st c (data_view.view d)) r
datum_denied st c d x r e f =
    fails_as (Denies st c d.place x) (Refuses st c (data_view.view d))
    (λ q z. subst (λ (t : datum.Tree). Refuses st c t q) (sym (view_datum d)) (z.refuses (data_view.view_node d.node) (subst (λ (t : datum.Tree). expression st c t ≡ x) (view_datum d) e))) r f

pub datum_given : (st st' : State) (c : Context) (d : Datum) (x : Expression) (e : Node) → expression st c (data_view.view d) ≡ x → Gives st c d.place x e st' → Means st c (data_view.view d) e st'
datum_given st st' c d x e k g =
    subst (λ (t : datum.Tree). Means st c t e st') (sym (view_datum d)) (g.means (data_view.view_node d.node) (subst (λ (t : datum.Tree). expression st c t ≡ x) (view_datum d) k))

pub datum_wrong : (st : State) (c : Context) (d : datum.Tree) (r : ExpandRefusal) → Fails (λ q. expression st c d ≡ Wrong q) r → Fails (Refuses st c d) r
datum_wrong st c d r f = fails_as (λ q. expression st c d ≡ Wrong q) (Refuses st c d) (λ q e. is_wrong e) r f

-- a `let`
pub let_gives : (st mid far near st' : State) (c : Context) (p : Place) (ps : Pairs) (b : datum.Trees) (n s : ℕ) (xs : List Var) (es : Nodes) (body e : Node) → n ≡ length ps.binders → opened p 1 n st c ≡ Within mid →
    MeansAll mid (inner c) ps.values es far → s ≡ fresh far → near ≡ enter far c.scope (names ps.binders) → MeansBody near (within s (inner c)) p b body st' →
    xs ≡ variables s (names ps.binders) → e ≡ At p (Let xs es body) → Gives st c p (Binding ps b) e st'
let_gives st mid far near st' c p ps b n s xs es body e k a m i j z v q =
    let a' = ap (λ n. opened p 1 n st c) (sym k) ∙ a in
    let z' = subst (λ (x : State). MeansBody x (within (fresh far) (inner c)) p b body st') j (subst (λ (s : ℕ). MeansBody near (within s (inner c)) p b body st') i z) in
    let q' = q ∙ ap (λ xs. At p (Let xs es body)) (v ∙ ap (λ s. variables s (names ps.binders)) i) in
    record { means = λ t h. subst (λ (e : Node). Means st c (datum.At p t) e st') (sym q') (a_let h a' m z') }

pub let_not_opened : (st : State) (c : Context) (p : Place) (ps : Pairs) (b : datum.Trees) (n : ℕ) (r : ExpandRefusal) → n ≡ length ps.binders → Fails (λ q. opened p 1 n st c ≡ Past q) r → Fails (Denies st c p (Binding ps b)) r
let_not_opened st c p ps b n r k f = fails_as (λ q. opened p 1 n st c ≡ Past q) (Denies st c p (Binding ps b)) (λ q a. record { refuses = λ s h. no_let h (ap (λ n. opened p 1 n st c) (sym k) ∙ a) }) r f

pub let_values_denied : (st mid : State) (c : Context) (p : Place) (ps : Pairs) (b : datum.Trees) (n : ℕ) (r : ExpandRefusal) → n ≡ length ps.binders → opened p 1 n st c ≡ Within mid →
    Fails (RefusesAll mid (inner c) ps.values) r → Fails (Denies st c p (Binding ps b)) r
let_values_denied st mid c p ps b n r k a f =
    fails_as (RefusesAll mid (inner c) ps.values) (Denies st c p (Binding ps b)) (λ q z. record { refuses = λ s h. in_let_values h (ap (λ n. opened p 1 n st c) (sym k) ∙ a) z }) r f

pub let_body_denied : (st mid far near : State) (c : Context) (p : Place) (ps : Pairs) (b : datum.Trees) (n s : ℕ) (es : Nodes) (r : ExpandRefusal) → n ≡ length ps.binders → opened p 1 n st c ≡ Within mid →
    MeansAll mid (inner c) ps.values es far → s ≡ fresh far → near ≡ enter far c.scope (names ps.binders) → Fails (RefusesBody near (within s (inner c)) p b) r → Fails (Denies st c p (Binding ps b)) r
let_body_denied st mid far near c p ps b n s es r k a m i j f =
    fails_as (RefusesBody near (within s (inner c)) p b) (Denies st c p (Binding ps b))
    (λ q z. record {
      refuses = λ t h. in_let_body h (ap (λ n. opened p 1 n st c) (sym k) ∙ a) m
          (subst (λ (x : State). RefusesBody x (within (fresh far) (inner c)) p b q) j (subst (λ (s : ℕ). RefusesBody near (within s (inner c)) p b q) i z));
    }) r f

-- a `letrec`
pub record Opened (st : State) (c : Context) (p : Place) (ps : Pairs) (n s : ℕ) (mid near : State) : Type 0 where
  pub count : n ≡ length ps.binders
  pub limited : bound_together p n st c ≡ Within mid
  pub scope_is : s ≡ fresh mid
  pub entered : near ≡ enter mid c.scope (names ps.binders)

letrec_opened : (st : State) (c : Context) (p : Place) (ps : Pairs) (n s : ℕ) (mid near : State) → Opened st c p ps n s mid near → bound_together p (length ps.binders) st c ≡ Within mid
letrec_opened st c p ps n s mid near o = ap (λ n. bound_together p n st c) (sym o.count) ∙ o.limited

letrec_means : (st : State) (c : Context) (p : Place) (ps : Pairs) (n s : ℕ) (mid near far : State) (es : Nodes) → Opened st c p ps n s mid near → MeansAll near (valued true (within s c)) ps.values es far →
    MeansAll (enter mid c.scope (names ps.binders)) (valued true (within (fresh mid) c)) ps.values es far
letrec_means st c p ps n s mid near far es o m =
    subst (λ (x : State). MeansAll x (valued true (within (fresh mid) c)) ps.values es far) o.entered (subst (λ (s : ℕ). MeansAll near (valued true (within s c)) ps.values es far) o.scope_is m)

letrec_body_means : (st : State) (c : Context) (p : Place) (ps : Pairs) (n s : ℕ) (mid near far last : State) (b : datum.Trees) (e : Node) → Opened st c p ps n s mid near → MeansBody far (letrec_body ps s c) p b e last →
    MeansBody far (letrec_body ps (fresh mid) c) p b e last
letrec_body_means st c p ps n s mid near far last b e o m = subst (λ (s : ℕ). MeansBody far (letrec_body ps s c) p b e last) o.scope_is m

pub letrec_not_opened : (st : State) (c : Context) (p : Place) (ps : Pairs) (b : datum.Trees) (n : ℕ) (r : ExpandRefusal) → n ≡ length ps.binders → Fails (λ q. bound_together p n st c ≡ Past q) r → Fails (Denies st c p (Recursion ps b)) r
letrec_not_opened st c p ps b n r k f = fails_as (λ q. bound_together p n st c ≡ Past q) (Denies st c p (Recursion ps b)) (λ q a. record { refuses = λ s h. no_letrec h (ap (λ n. bound_together p n st c) (sym k) ∙ a) }) r f

pub letrec_values_denied : (st mid near : State) (c : Context) (p : Place) (ps : Pairs) (b : datum.Trees) (n s : ℕ) (r : ExpandRefusal) → Opened st c p ps n s mid near → Fails (RefusesAll near (valued true (within s c)) ps.values) r →
    Fails (Denies st c p (Recursion ps b)) r
letrec_values_denied st mid near c p ps b n s r o f =
    fails_as (RefusesAll near (valued true (within s c)) ps.values) (Denies st c p (Recursion ps b))
    (λ q z. record {
      refuses = λ t h. in_letrec_values h (letrec_opened st c p ps n s mid near o)
          (subst (λ (x : State). RefusesAll x (valued true (within (fresh mid) c)) ps.values q) o.entered (subst (λ (s : ℕ). RefusesAll near (valued true (within s c)) ps.values q) o.scope_is z));
    }) r f

pub letrec_body_denied : (st mid near far : State) (c : Context) (p : Place) (ps : Pairs) (b : datum.Trees) (n s : ℕ) (es : Nodes) (r : ExpandRefusal) → Opened st c p ps n s mid near →
    MeansAll near (valued true (within s c)) ps.values es far → Fails (RefusesBody far (letrec_body ps s c) p b) r → Fails (Denies st c p (Recursion ps b)) r
letrec_body_denied st mid near far c p ps b n s es r o m f =
    fails_as (RefusesBody far (letrec_body ps s c) p b) (Denies st c p (Recursion ps b))
    (λ q z. record {
      refuses = λ t h. in_letrec_body h (letrec_opened st c p ps n s mid near o) (letrec_means st c p ps n s mid near far es o m)
          (subst (λ (s : ℕ). RefusesBody far (letrec_body ps s c) p b q) o.scope_is z);
    }) r f

pub letrec_split_denied : (st mid near far last : State) (c : Context) (p : Place) (ps : Pairs) (b : datum.Trees) (n s : ℕ) (xs : List Var) (es : Nodes) (e : Node) (r : ExpandRefusal) → Opened st c p ps n s mid near →
    MeansAll near (valued true (within s c)) ps.values es far → MeansBody far (letrec_body ps s c) p b e last → xs ≡ variables s (names ps.binders) →
    Fails (λ q. finished p (split xs es (cons e nil)) c last ≡ Past q) r → Fails (Denies st c p (Recursion ps b)) r
letrec_split_denied st mid near far last c p ps b n s xs es e r o m z v f =
    let v' = v ∙ ap (λ s. variables s (names ps.binders)) o.scope_is in
    fails_as (λ q. finished p (split xs es (cons e nil)) c last ≡ Past q) (Denies st c p (Recursion ps b))
    (λ q y. record {
      refuses = λ t h. no_split h (letrec_opened st c p ps n s mid near o) (letrec_means st c p ps n s mid near far es o m) (letrec_body_means st c p ps n s mid near far last b e o z)
          (subst (λ (xs : List Var). finished p (split xs es (cons e nil)) c last ≡ Past q) v' y);
    }) r f

pub letrec_gives : (st mid near far last st' : State) (c : Context) (p : Place) (ps : Pairs) (b : datum.Trees) (n s : ℕ) (xs : List Var) (es : Nodes) (e x : Node) → Opened st c p ps n s mid near →
    MeansAll near (valued true (within s c)) ps.values es far → MeansBody far (letrec_body ps s c) p b e last → xs ≡ variables s (names ps.binders) →
    Finishes p (split xs es (cons e nil)) c last x st' → Gives st c p (Recursion ps b) x st'
letrec_gives st mid near far last st' c p ps b n s xs es e x o m z v f =
    let v' = v ∙ ap (λ s. variables s (names ps.binders)) o.scope_is in
    let f' = subst (λ (xs : List Var). Finishes p (split xs es (cons e nil)) c last x st') v' f in
    record {
      means = λ t h. subst (λ (x : Node). Means st c (datum.At p t) x st') (sym f'.node)
          (a_letrec h (letrec_opened st c p ps n s mid near o) (letrec_means st c p ps n s mid near far es o m) (letrec_body_means st c p ps n s mid near far last b e o z) f'.limited);
    }

-- what was found, by its lists
pub no_lists : (f : FoundCode) → f.variables.items ≡ [] → f.binders.items ≡ [] → f.values.items ≡ [] → view_lists f ≡ record { variables = []; binders = []; values = [] }
no_lists f p q r = same_lists (map view_variable f.variables.items) [] (map view_binder f.binders.items) [] (map view_defined f.values.items) [] (ap (map view_variable) p) (ap (map view_binder) q) (ap (map view_defined) r)

pub some_values : (vs ws : List DefinedCode) → ws ≡ vs → false ≡ (length ws == 0) → map view_defined vs ≢ []
some_values [] ws e h = λ z. let k = ap (λ (ws : List DefinedCode). length ws == 0) e in cc
some_values (v ∷ vs) ws e h = λ z. cc

pub no_values : (vs ws : List DefinedCode) → ws ≡ vs → true ≡ (length ws == 0) → map view_defined vs ≡ []
no_values [] ws e h = refl
no_values (v ∷ vs) ws e h = let k = ap length e in let z = eqb-true (length ws) 0 (sym h) in absurd (omega arith)
