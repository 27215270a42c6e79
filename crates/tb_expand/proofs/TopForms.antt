-- What forms at top level give, one after another.
use Rattle.std.proofs.Common.{◌≡◌, ◌≢◌, refl, sym, ap, subst, ◌∙◌, ℕ, suc, ◌+◌, ◌<◌, ◌≤◌, Bool, List, [], ◌∷◌, ◌++◌, map, length, drop, get_or, Some, None}
use Rattle.std.proofs.Math.Numerals.{add-one}
use Rattle.std.proofs.Math.Seq.{drop-cons}
use Rattle.tb_prim.specs.declared.place.Place.{Place}
use Rattle.tb_sexp.specs.Tree as datum
use Rattle.tb_sexp.specs.View as data_view
use Rattle.tb_sexp.specs.declared.datum.Datum.{Datum}
use Rattle.tb_expand.specs.declared.context.Context.{Context}
use Rattle.tb_expand.specs.declared.refusal.ExpandRefusal.{ExpandRefusal}
use Rattle.tb_expand.specs.declared.tree.Node.{Node as NodeCode}
use Rattle.tb_expand.specs.Trees.{At, DefGlobal, Nodes, nil, cons, joined}
use Rattle.tb_expand.specs.Words.{Plain, word_of}
use Rattle.tb_expand.specs.Refusals as refusal
use Rattle.tb_expand.specs.Refusals.{Refusal, BadForm, NotBuilt}
use Rattle.tb_expand.specs.Scopes.{State}
use Rattle.tb_expand.specs.Limits.{Within, opened, inner}
use Rattle.tb_expand.specs.Shapes.{Defined, Definition, definition_of}
use Rattle.tb_expand.specs.Bodies.{Expression, Defining, Beginning}
use Rattle.tb_expand.specs.Means.{Means, Refuses, RefusesDefined}
use Rattle.tb_expand.specs.Outside.{defined_by_all, first_outside_of}
use Rattle.tb_expand.specs.Texts.{no_state, top_context, top_kind, MeansForms, RefusesForm, RefusesForms, MeansText, RefusesText, an_expression, a_global, forms_of_begin, no_form, one_form, in_expression, no_global, no_plain_name, no_room, in_global, in_forms, in_form, in_later_form, a_text, in_text, outside_text}
use Rattle.tb_expand.specs.View.{Fails, data_of, nodes, older, text_of, view}
use Rattle.std.specs.Borrow.{Bor}
use Rattle.tb_expand.specs.declared.state.Scope.{Scope as ScopeCode}
use Rattle.tb_expand.specs.calls.Forms.{FormGives, FormsGive, FormsGo, GlobalGives, GlobalRefuses, not_opened, in_defined, DefinitionGives, DefinitionRefuses}
use Rattle.tb_expand.proofs.Scanning.{fails_as}
use Rattle.tb_expand.proofs.Forms.{nodes_pushed}
use Rattle.tb_expand.proofs.Sizes.{size, size_all, KindFits, top_kind_fits}

joined_assoc : (es fs gs : Nodes) → joined (joined es fs) gs ≡ joined es (joined fs gs)
joined_assoc nil fs gs = refl
joined_assoc (cons e es) fs gs = ap (λ xs. cons e xs) (joined_assoc es fs gs)

joined_nil : (es : Nodes) → joined es nil ≡ es
joined_nil nil = refl
joined_nil (cons e es) = ap (λ xs. cons e xs) (joined_nil es)

-- definitions
pub value_refused : (st mid : State) (c : Context) (p : Place) (v : Defined) (r : ExpandRefusal) → opened p 1 0 st c ≡ Within mid → Fails (RefusesDefined mid (inner c) v) r → Fails (GlobalRefuses st c p v) r
value_refused st mid c p v r a f = fails_as (RefusesDefined mid (inner c) v) (GlobalRefuses st c p v) (λ q b. in_defined mid a b) r f

pub definition_gives : (st st' : State) (c : Context) (p : Place) (ds : datum.Trees) (i : Definition) (g : List ℕ) (out after : List NodeCode) (e : NodeCode) → definition_of p ds ≡ Some i → word_of c.library i.binder.name.text ≡ Plain g →
    GlobalGives st c p g i.value (view e) st' → after ≡ out ++ e ∷ [] → DefinitionGives st c p ds st' (nodes (map view out)) (nodes (map view after))
definition_gives st st' c p ds i g out after e q w v a = record {
  gives = λ d k. record {
    found = cons (At p (DefGlobal g v.value)) nil;
    means = a_global k q w v.limited v.means;
    added = ap (λ xs. nodes (map view xs)) a ∙ nodes_pushed out e ∙ ap (λ n. joined (nodes (map view out)) (cons n nil)) v.node;
  };
}

refuses_global : (st : State) (c : Context) (p : Place) (ds : datum.Trees) (i : Definition) (g : List ℕ) (d : datum.Tree) (r : Refusal) → definition_of p ds ≡ Some i → word_of c.library i.binder.name.text ≡ Plain g →
    top_kind st c d ≡ Defining p ds → GlobalRefuses st c p i.value r → RefusesForm st c d r
refuses_global st c p ds i g d r q w k (not_opened a) = no_room k q w a
refuses_global st c p ds i g d r q w k (in_defined mid a b) = in_global k q w a b

pub global_refused : (st : State) (c : Context) (p : Place) (ds : datum.Trees) (i : Definition) (g : List ℕ) (r : ExpandRefusal) → definition_of p ds ≡ Some i → word_of c.library i.binder.name.text ≡ Plain g →
    Fails (GlobalRefuses st c p i.value) r → Fails (DefinitionRefuses st c p ds) r
global_refused st c p ds i g r q w f = fails_as (GlobalRefuses st c p i.value) (DefinitionRefuses st c p ds) (λ r a. record { refuses = λ d k. refuses_global st c p ds i g d r q w k a }) r f

pub integrated_refused : (st : State) (c : Context) (p : Place) (ds : datum.Trees) (i : Definition) → definition_of p ds ≡ Some i → ((g : List ℕ) → word_of c.library i.binder.name.text ≢ Plain g) →
    DefinitionRefuses st c p ds (refusal.Integrated i.binder.place)
integrated_refused st c p ds i q n = record { refuses = λ d k. no_plain_name k q n }

pub shapeless_refused : (st : State) (c : Context) (p : Place) (ds : datum.Trees) → definition_of p ds ≡ None → DefinitionRefuses st c p ds (BadForm p)
shapeless_refused st c p ds q = record { refuses = λ d k. no_global k q }

-- forms
pub expression_gives : (st st' : State) (c : Context) (d : datum.Tree) (out after : List NodeCode) (e : NodeCode) → top_kind st c d ≡ Expression → Means st c d (view e) st' → after ≡ out ++ e ∷ [] →
    FormGives st c d st' (nodes (map view out)) (nodes (map view after))
expression_gives st st' c d out after e k m a = record { found = cons (view e) nil; means = an_expression k m; added = ap (λ xs. nodes (map view xs)) a ∙ nodes_pushed out e }

pub expression_refused : (st : State) (c : Context) (d : datum.Tree) (r : ExpandRefusal) → top_kind st c d ≡ Expression → Fails (Refuses st c d) r → Fails (RefusesForm st c d) r
expression_refused st c d r k f = fails_as (Refuses st c d) (RefusesForm st c d) (λ q a. in_expression k a) r f

pub definition_refused : (st : State) (c : Context) (d : datum.Tree) (p : Place) (ds : datum.Trees) (r : ExpandRefusal) → top_kind st c d ≡ Defining p ds → Fails (DefinitionRefuses st c p ds) r → Fails (RefusesForm st c d) r
definition_refused st c d p ds r k f = fails_as (DefinitionRefuses st c p ds) (RefusesForm st c d) (λ q a. a.refuses d k) r f

pub begin_gives : (st st' : State) (c : Context) (d : datum.Tree) (p : Place) (ds : datum.Trees) (before after : Nodes) → top_kind st c d ≡ Beginning p ds → FormsGive st c ds st' before after → FormGives st c d st' before after
begin_gives st st' c d p ds before after k g = record { found = g.found; means = forms_of_begin k g.means; added = g.added }

pub begin_refused : (st : State) (c : Context) (d : datum.Tree) (p : Place) (ds : datum.Trees) (r : ExpandRefusal) → top_kind st c d ≡ Beginning p ds → Fails (RefusesForms st c ds) r → Fails (RefusesForm st c d) r
begin_refused st c d p ds r k f = fails_as (RefusesForms st c ds) (RefusesForm st c d) (λ q a. in_forms k a) r f

pub begin_smaller : (st : State) (c : Context) (d : datum.Tree) (p : Place) (ds : datum.Trees) → top_kind st c d ≡ Beginning p ds → size_all ds + 2 ≤ size d
begin_smaller st c d p ds k = subst (KindFits (size d)) k (top_kind_fits st c d)

-- one after another
pub forms_start : (st : State) (c : Context) (ds : datum.Trees) (before : Nodes) → FormsGo st c ds before st ds before
forms_start st c ds before = record { gives = λ es st' m. record { found = es; means = m; added = refl }; refuses = λ r a. a }

pub forms_end : (st0 st : State) (c : Context) (ds0 ds : datum.Trees) (before after : Nodes) → FormsGo st0 c ds0 before st ds after → ds ≡ datum.none → FormsGive st0 c ds0 st before after
forms_end st0 st c ds0 ds before after g e =
    let m = subst (λ (ds : datum.Trees). MeansForms st c ds nil st) (sym e) no_form in
    subst (λ (es : Nodes). FormsGive st0 c ds0 st before es) (joined_nil after) (g.gives nil st m)

forms_go : (st0 st mid : State) (c : Context) (ds0 ds whole : datum.Trees) (before after next : Nodes) (d : datum.Tree) → FormsGo st0 c ds0 before st whole after → whole ≡ datum.more d ds → FormGives st c d mid after next →
    FormsGo st0 c ds0 before mid ds next
forms_go st0 st mid c ds0 ds whole before after next d g q f = record {
  gives = λ es st' ms. subst (λ (xs : Nodes). FormsGive st0 c ds0 st' before xs) (sym (joined_assoc after f.found es) ∙ ap (λ xs. joined xs es) (sym f.added))
      (g.gives (joined f.found es) st' (subst (λ (w : datum.Trees). MeansForms st c w (joined f.found es) st') (sym q) (one_form f.means ms)));
  refuses = λ r a. g.refuses r (subst (λ (w : datum.Trees). RefusesForms st c w r) (sym q) (in_later_form f.means a));
}

pub forms_going : (st0 st mid : State) (c : Context) (ds0 : datum.Trees) (ds : List Datum) (i : ℕ) (d : Datum) (before after next : Nodes) → i < length ds → d ≡ get_or ds i d →
    FormsGo st0 c ds0 before st (data_of (drop i ds)) after → FormGives st c (data_view.view d) mid after next → FormsGo st0 c ds0 before mid (data_of (drop (i + 1) ds)) next
forms_going st0 st mid c ds0 ds i d before after next lt is g f =
    let q = ap data_of (drop-cons ds i d lt) ∙ ap (λ x. datum.more (data_view.view x) (data_of (drop (suc i) ds))) (sym is) in
    let a = forms_go st0 st mid c ds0 (data_of (drop (suc i) ds)) (data_of (drop i ds)) before after next (data_view.view d) g q f in
    subst (λ (n : ℕ). FormsGo st0 c ds0 before mid (data_of (drop n ds)) next) (sym (add-one i)) a

pub forms_refused : (st0 st : State) (c : Context) (ds0 : datum.Trees) (ds : List Datum) (i : ℕ) (d : Datum) (before after : Nodes) (r : ExpandRefusal) → i < length ds → d ≡ get_or ds i d →
    FormsGo st0 c ds0 before st (data_of (drop i ds)) after → Fails (RefusesForm st c (data_view.view d)) r → Fails (RefusesForms st0 c ds0) r
forms_refused st0 st c ds0 ds i d before after r lt is g f =
    let q = ap data_of (drop-cons ds i d lt) ∙ ap (λ x. datum.more (data_view.view x) (data_of (drop (suc i) ds))) (sym is) in
    fails_as (RefusesForm st c (data_view.view d)) (RefusesForms st0 c ds0) (λ r a. g.refuses r (subst (λ (w : datum.Trees). RefusesForms st c w r) (sym q) (in_form a))) r f

-- a whole text
text_found : (library : Bool) (ds : datum.Trees) (st st' : State) (before after : Nodes) → st ≡ no_state → before ≡ nil → FormsGive st (top_context library) ds st' before after → MeansForms no_state (top_context library) ds after st'
text_found library ds st st' before after e b g =
    subst (λ (es : Nodes). MeansForms no_state (top_context library) ds es st') (sym (g.added ∙ ap (λ xs. joined xs g.found) b)) (subst (λ (x : State). MeansForms x (top_context library) ds g.found st') e g.means)

pub text_means : (library : Bool) (ds : datum.Trees) (st st' : State) (before after : Nodes) (names : List (List ℕ)) → st ≡ no_state → before ≡ nil → FormsGive st (top_context library) ds st' before after →
    names ≡ defined_by_all after → first_outside_of names after ≡ None → MeansText library ds after
text_means library ds st st' before after names e b g n o = a_text (text_found library ds st st' before after e b g) (ap (λ ns. first_outside_of ns after) (sym n) ∙ o)

pub text_outside : (library : Bool) (ds : datum.Trees) (st st' : State) (before after : Nodes) (names : List (List ℕ)) (p : Place) → st ≡ no_state → before ≡ nil → FormsGive st (top_context library) ds st' before after →
    names ≡ defined_by_all after → first_outside_of names after ≡ Some p → RefusesText library ds (NotBuilt p)
text_outside library ds st st' before after names p e b g n o = outside_text (text_found library ds st st' before after e b g) (ap (λ ns. first_outside_of ns after) (sym n) ∙ o)

pub text_refused : (library : Bool) (ds : datum.Trees) (st : State) (r : ExpandRefusal) → st ≡ no_state → Fails (RefusesForms st (top_context library) ds) r → Fails (RefusesText library ds) r
text_refused library ds st r e f =
    fails_as (RefusesForms st (top_context library) ds) (RefusesText library ds) (λ q a. in_text (subst (λ (x : State). RefusesForms x (top_context library) ds q) e a)) r f

pub empty_state : (xs : List ScopeCode) (ss : List (Bor (List ℕ))) → xs ≡ [] → ss ≡ [] →
    ◌≡◌ {A = State} (record { scopes = older xs; nodes = 0; variables = 0; objects = 0; words = 0; symbols = map text_of ss }) no_state
empty_state xs ss p q =
    ap (λ (xs : List ScopeCode). let st : State = record { scopes = older xs; nodes = 0; variables = 0; objects = 0; words = 0; symbols = map text_of ss } in st) p
    ∙ ap (λ (ss : List (Bor (List ℕ))). let st : State = record { scopes = []; nodes = 0; variables = 0; objects = 0; words = 0; symbols = map text_of ss } in st) q
