-- Scanning the items of a body one after another.
use Rattle.std.proofs.Common.{◌≡◌, refl, sym, ap, ◌∙◌, subst, ℕ, zero, suc, ◌+◌, ◌≤◌, ◌<◌, arith, List, [], ◌∷◌, ◌++◌, length, map, reverse, get_or, take, drop, drop-cons, length-drop, ◌-◌, append_assoc, Some}
use Rattle.std.proofs.lemmas.List.{reverse-append, map-append, length-reverse, length-map}
use Rattle.std.proofs.Math.Seq.{take-length}
use Rattle.tb_expand.proofs.Rows.{drop_none}
use Rattle.tb_prim.specs.declared.place.Place.{Place}
use Rattle.tb_sexp.specs.declared.datum.Datum.{Datum}
use Rattle.tb_sexp.specs.Tree as datum
use Rattle.tb_sexp.specs.View as data_view
use Rattle.tb_expand.specs.declared.context.Context.{Context}
use Rattle.tb_expand.specs.declared.state.Scope.{Scope as ScopeCode}
use Rattle.tb_expand.specs.Names.{Binder}
use Rattle.tb_expand.specs.Trees.{Var}
use Rattle.tb_expand.specs.Refusals.{Refusal, BadForm}
use Rattle.tb_expand.specs.Scopes.{State, fresh}
use Rattle.tb_expand.specs.Limits.{within}
use Rattle.tb_expand.specs.Shapes.{Defined, Definition, definition_of}
use Rattle.tb_expand.specs.Bodies.{Defining, Beginning, kind, Found, nothing_more, and_one, and_then, defined_in, Scans, scanned, expressions, a_definition, a_begin, ScanRefuses, no_definition, behind_definition, in_begin, expression_in_begin, behind_begin}
use Rattle.tb_expand.specs.calls.Scanned.{Lists, with_found, with_one, ScanGives, Goes, Stands, Passes, ItemRefuses, BeginRefuses, within_begin, not_all_define}
use Rattle.tb_expand.specs.declared.refusal.ExpandRefusal.{ExpandRefusal}
use Rattle.tb_expand.specs.declared.refusal.ExpandRefusal.TheVariants as refused
use Rattle.tb_expand.specs.View.{data_of, view_scope, older, Defines, NoDefinition, Fails}
use Rattle.tb_expand.proofs.Sizes.{size, size_all, KindFits, kind_fits}

append_none : {X : Type 0} (xs : List X) → xs ++ [] ≡ xs
append_none [] = refl
append_none (x ∷ xs) = ap (λ ys. x ∷ ys) (append_none xs)

pub goes_start : (st : State) (c : Context) (ds : datum.Trees) (l : Lists) → Goes st c ds l st c ds l
goes_start st c ds l = record {
  gives = λ f st' s. record { found = f; scans = s; scope_is = refl; rest_is = refl; lists = refl };
  refuses = λ r n. n;
}

abbrev lists_of : List Var → List Binder → List Defined → Lists
lists_of xs bs vs = record { variables = xs; binders = bs; values = vs }

pub same_lists : (xs ys : List Var) (bs cs : List Binder) (vs ws : List Defined) → xs ≡ ys → bs ≡ cs → vs ≡ ws → lists_of xs bs vs ≡ lists_of ys cs ws
same_lists xs ys bs cs vs ws p q r = ap (λ xs. lists_of xs bs vs) p ∙ ap (λ bs. lists_of ys bs vs) q ∙ ap (λ vs. lists_of ys cs vs) r

one_found : (l : Lists) (t : ℕ) (e : Definition) (f : Found) → with_found (with_one t e l) f ≡ with_found l (and_one t e f)
one_found l t e f =
    same_lists _ _ _ _ _ _ (append_assoc l.variables (record { scope = t; name = e.binder.name } ∷ []) f.variables)
    (append_assoc l.binders (e.binder ∷ []) f.binders) (append_assoc l.values (e.value ∷ []) f.values)

more_found : (l : Lists) (e f : Found) → with_found (with_found l e) f ≡ with_found l (and_then e f)
more_found l e f =
    same_lists _ _ _ _ _ _ (append_assoc l.variables e.variables f.variables) (append_assoc l.binders e.binders f.binders) (append_assoc l.values e.values f.values)

none_found : (l : Lists) (s : ℕ) (ds : datum.Trees) → with_found l (nothing_more s ds) ≡ l
none_found l s ds = same_lists _ _ _ _ _ _ (append_none l.variables) (append_none l.binders) (append_none l.values)

pub goes_define : (st0 : State) (c0 : Context) (ds0 : datum.Trees) (l0 : Lists) (st : State) (c : Context) (d : datum.Tree) (ds es : datum.Trees) (l : Lists) (p : Place) (e : Definition) →
    Goes st0 c0 ds0 l0 st c (datum.more d ds) l → kind st c d ≡ Defining p es → definition_of p es ≡ Some e →
    Goes st0 c0 ds0 l0 (defined_in st c e) (within (fresh st) c) ds (with_one (fresh st) e l)
goes_define st0 c0 ds0 l0 st c d ds es l p e g k i = record {
  gives = λ f st' s. let h = g.gives (and_one (fresh st) e f) st' (a_definition k i s) in
      record { found = h.found; scans = h.scans; scope_is = h.scope_is; rest_is = h.rest_is; lists = one_found l (fresh st) e f ∙ h.lists };
  refuses = λ r n. g.refuses r (behind_definition k i n);
}

pub goes_begin : (st0 : State) (c0 : Context) (ds0 : datum.Trees) (l0 : Lists) (st mid : State) (c : Context) (d : datum.Tree) (ds es : datum.Trees) (l : Lists) (p : Place) (e : Found) →
    Goes st0 c0 ds0 l0 st c (datum.more d ds) l → kind st c d ≡ Beginning p es → Scans st c es e mid → e.rest ≡ datum.none →
    Goes st0 c0 ds0 l0 mid (within e.scope c) ds (with_found l e)
goes_begin st0 c0 ds0 l0 st mid c d ds es l p e g k s q = record {
  gives = λ f st' t. let h = g.gives (and_then e f) st' (a_begin k s q t) in
      record { found = h.found; scans = h.scans; scope_is = h.scope_is; rest_is = h.rest_is; lists = more_found l e f ∙ h.lists };
  refuses = λ r n. g.refuses r (behind_begin k s q n);
}

-- where nothing more is found
pub goes_stop : (st0 : State) (c0 : Context) (ds0 : datum.Trees) (l0 : Lists) (st : State) (c : Context) (ds : datum.Trees) (l : Lists) →
    Goes st0 c0 ds0 l0 st c ds l → Scans st c ds (nothing_more c.scope ds) st → ScanGives st0 c0 ds0 l0 st c.scope ds l
goes_stop st0 c0 ds0 l0 st c ds l g s =
    let h = g.gives (nothing_more c.scope ds) st s in
    record { found = h.found; scans = h.scans; scope_is = h.scope_is; rest_is = h.rest_is; lists = sym (none_found l c.scope ds) ∙ h.lists }

-- a scope more
pub older_pushed : (es : List ScopeCode) (e : ScopeCode) → older (es ++ e ∷ []) ≡ view_scope e ∷ older es
older_pushed es e = ap reverse (map-append view_scope es (e ∷ [])) ∙ reverse-append (map view_scope es) (view_scope e ∷ [])

pub older_counted : (es : List ScopeCode) → length (older es) ≡ length es
older_counted es = length-reverse (map view_scope es) ∙ length-map es view_scope

-- items that define
pub passes_define : (st st' : State) (c : Context) (d : datum.Tree) (p : Place) (es : datum.Trees) (l l' : Lists) (s : ℕ) → Defining p es ≡ kind st c d → Defines st c p es l s st' l' → Passes st c d l s st' l'
passes_define st st' c d p es l l' s k h = record {
  passes = λ st0 c0 ds0 l0 ds g.
      let a = goes_define st0 c0 ds0 l0 st c d ds es l p h.definition g (sym k) h.parts in
      let P : State → ℕ → Lists → Type 0 = λ st' s l'. Goes st0 c0 ds0 l0 st' (within s c) ds l' in
      subst (λ (l : Lists). P st' s l) (sym h.lists) (subst (λ (s : ℕ). P st' s (with_one (fresh st) h.definition l)) (sym h.scope_is)
      (subst (λ (x : State). P x (fresh st) (with_one (fresh st) h.definition l)) (sym h.entered) a));
}

pub passes_begin : (st st' : State) (c : Context) (d : datum.Tree) (p : Place) (es : datum.Trees) (l l' : Lists) (s : ℕ) → Beginning p es ≡ kind st c d → ScanGives st c es l st' s datum.none l' → Passes st c d l s st' l'
passes_begin st st' c d p es l l' s k h = record {
  passes = λ st0 c0 ds0 l0 ds g.
      let a = goes_begin st0 c0 ds0 l0 st st' c d ds es l p h.found g (sym k) h.scans h.rest_is in
      let P : ℕ → Lists → Type 0 = λ s l'. Goes st0 c0 ds0 l0 st' (within s c) ds l' in
      subst (λ (l : Lists). P s l) (sym h.lists) (subst (λ (s : ℕ). P s (with_found l h.found)) h.scope_is a);
}

define_refuses : (st : State) (c : Context) (d : datum.Tree) (p : Place) (es : datum.Trees) → Defining p es ≡ kind st c d → (r : Refusal) → NoDefinition p es r → ItemRefuses st c d r
define_refuses st c d p es k r h = record { refuses = λ ds. subst (ScanRefuses st c (datum.more d ds)) (sym h.refusal_is) (no_definition (sym k) h.parts) }

begin_refuses : (st : State) (c : Context) (d : datum.Tree) (p : Place) (es : datum.Trees) → Beginning p es ≡ kind st c d → (r : Refusal) → BeginRefuses st c p es r → ItemRefuses st c d r
begin_refuses st c d p es k r (within_begin n) = record { refuses = λ ds. in_begin (sym k) n }
begin_refuses st c d p es k r (not_all_define e mid q s n) =
    record { refuses = λ ds. subst (ScanRefuses st c (datum.more d ds)) (sym q) (expression_in_begin (sym k) s n) }

-- refusals of one kind are refusals of another
pub fails_as : (P Q : Refusal → Type 0) → ((r : Refusal) → P r → Q r) → (e : ExpandRefusal) → Fails P e → Fails Q e
fails_as P Q h (refused.BadForm p) f = h _ f
fails_as P Q h (refused.NoMatch p) f = f
fails_as P Q h (refused.BadRules p) f = f
fails_as P Q h (refused.Integrated p) f = h _ f
fails_as P Q h (refused.Duplicate p) f = h _ f
fails_as P Q h (refused.Budget p) f = h _ f
fails_as P Q h (refused.TooDeep p) f = h _ f
fails_as P Q h (refused.NotInProfile p) f = f
fails_as P Q h (refused.NotBuilt p) f = h _ f
fails_as P Q h refused.NoMemory f = tt

pub define_fails : (st : State) (c : Context) (d : datum.Tree) (p : Place) (es : datum.Trees) (e : ExpandRefusal) → Defining p es ≡ kind st c d → Fails (NoDefinition p es) e → Fails (ItemRefuses st c d) e
define_fails st c d p es e k f = fails_as (NoDefinition p es) (ItemRefuses st c d) (define_refuses st c d p es k) e f

pub begin_fails : (st : State) (c : Context) (d : datum.Tree) (p : Place) (es : datum.Trees) (e : ExpandRefusal) → Beginning p es ≡ kind st c d → Fails (BeginRefuses st c p es) e → Fails (ItemRefuses st c d) e
begin_fails st c d p es e k f = fails_as (BeginRefuses st c p es) (ItemRefuses st c d) (begin_refuses st c d p es k) e f

pub items_fail : (st : State) (c : Context) (p : Place) (es : datum.Trees) (e : ExpandRefusal) → Fails (ScanRefuses st c es) e → Fails (BeginRefuses st c p es) e
items_fail st c p es e f = fails_as (ScanRefuses st c es) (BeginRefuses st c p es) (λ r n. within_begin n) e f

pub begin_smaller : (st : State) (c : Context) (d : datum.Tree) (p : Place) (es : datum.Trees) → Beginning p es ≡ kind st c d → size_all es + 2 ≤ size d
begin_smaller st c d p es k = subst (KindFits (size d)) (sym k) (kind_fits st c d)

pub element_size : (ds : List Datum) (i : ℕ) (d : Datum) → i < length ds → d ≡ get_or ds i d → size (data_view.view d) ≤ size_all (data_of ds)
element_size [] i d lt is = absurd (omega arith)
element_size (x ∷ ds) zero d lt is = let e = ap (λ d. size (data_view.view d)) is in omega arith
element_size (x ∷ ds) (suc i) d lt is = let h = element_size ds i d (omega arith) is in omega arith

pub behind_begin_fails : (st mid : State) (c : Context) (p : Place) (es : datum.Trees) (l l' : Lists) (s : ℕ) (b : datum.Tree) (bs : datum.Trees) (r : datum.Trees) →
    ScanGives st c es l mid s r l' → r ≡ datum.more b bs → BeginRefuses st c p es (BadForm p)
behind_begin_fails st mid c p es l l' s b bs r h e = not_all_define h.found mid refl h.scans (λ z. let t = sym z ∙ h.rest_is ∙ e in cc)

-- the front item is an expression
at_expression : (st0 : State) (c0 : Context) (ds0 : datum.Trees) (l0 : Lists) (st st' : State) (c : Context) (d : datum.Tree) (ds whole : datum.Trees) (l l' : Lists) →
    Goes st0 c0 ds0 l0 st c whole l → whole ≡ datum.more d ds → Stands st c d l st' l' → ScanGives st0 c0 ds0 l0 st' c.scope whole l'
at_expression st0 c0 ds0 l0 st st' c d ds whole l l' g e h =
    let a = goes_stop st0 c0 ds0 l0 st c (datum.more d ds) l (subst (λ (w : datum.Trees). Goes st0 c0 ds0 l0 st c w l) e g) (expressions h.kind_is) in
    subst (λ (w : datum.Trees). ScanGives st0 c0 ds0 l0 st' c.scope w l') (sym e)
    (subst (λ (x : State). ScanGives st0 c0 ds0 l0 x c.scope (datum.more d ds) l') (sym h.state_is)
    (subst (λ (k : Lists). ScanGives st0 c0 ds0 l0 st c.scope (datum.more d ds) k) (sym h.lists_are) a))

taken : (ds : List Datum) (i : ℕ) → i ≤ length ds → take (length ds - i) (drop i ds) ≡ drop i ds
taken ds i le = ap (λ n. take n (drop i ds)) (sym (length-drop i ds)) ∙ take-length (drop i ds)

pub stop_here : (st0 : State) (c0 : Context) (ds0 : datum.Trees) (l0 : Lists) (st st' : State) (c k : Context) (ds : List Datum) (i : ℕ) (d : Datum) (l l' : Lists) → i < length ds → d ≡ get_or ds i d →
    Goes st0 c0 ds0 l0 st c (data_of (drop i ds)) l → k ≡ c → Stands st k (data_view.view d) l st' l' →
    ScanGives st0 c0 ds0 l0 st' c.scope (data_of (take (length ds - i) (drop i ds))) l'
stop_here st0 c0 ds0 l0 st st' c k ds i d l l' lt is g q h =
    let e = ap data_of (drop-cons ds i d lt) ∙ ap (λ x. datum.more (data_view.view x) (data_of (drop (suc i) ds))) (sym is) in
    let a = at_expression st0 c0 ds0 l0 st st' c (data_view.view d) (data_of (drop (suc i) ds)) (data_of (drop i ds)) l l' g e
    (subst (λ (c : Context). Stands st c (data_view.view d) l st' l') q h) in
    subst (λ (xs : List Datum). ScanGives st0 c0 ds0 l0 st' c.scope (data_of xs) l') (sym (taken ds i (omega arith))) a

pub stop_behind : (st0 : State) (c0 : Context) (ds0 : datum.Trees) (l0 : Lists) (st : State) (c : Context) (ds : List Datum) (i : ℕ) (l : Lists) → length ds ≤ i →
    Goes st0 c0 ds0 l0 st c (data_of (drop i ds)) l → ScanGives st0 c0 ds0 l0 st c.scope datum.none l
stop_behind st0 c0 ds0 l0 st c ds i l le g =
    goes_stop st0 c0 ds0 l0 st c datum.none l (subst (λ (xs : List Datum). Goes st0 c0 ds0 l0 st c (data_of xs) l) (drop_none ds i le) g) scanned
