-- The forms of a text, one after another, at top level.
use Rattle.std.specs.Prelude.{◌≡◌, ◌≢◌, ℕ, Bool, true, false, List, [], Option, Some, None}
use Rattle.tb_prim.specs.declared.place.Place.{Place}
use Rattle.tb_sexp.specs.Tree as datum
use Rattle.tb_expand.specs.Trees.{Node, At, DefGlobal, Nodes, nil, cons, joined}
use Rattle.tb_expand.specs.Words.{Plain, word_of}
use Rattle.tb_expand.specs.Refusals.{Refusal, BadForm, Integrated, NotBuilt}
use Rattle.tb_expand.specs.declared.context.Context.{Context}
use Rattle.tb_expand.specs.Scopes.{State}
use Rattle.tb_expand.specs.Limits.{Within, Past, opened, inner}
use Rattle.tb_expand.specs.Shapes.{elements_of, Definition, definition_of}
use Rattle.tb_expand.specs.Expressions.{head, place_of}
use Rattle.tb_expand.specs.Bodies.{Kind, Expression, Defining, Beginning, kind_by}
use Rattle.tb_expand.specs.Means.{Means, Refuses, MeansDefined, RefusesDefined}
use Rattle.tb_expand.specs.Outside.{defined_by_all, first_outside_of}

-- nothing was made yet, and an expression at top level has 1,000 levels of nodes
abbrev pub no_state : State
no_state = record { scopes = []; nodes = 0; variables = 0; objects = 0; words = 0; symbols = [] }

abbrev pub top_context : Bool → Context
top_context library = record { library = library; scope = 0; levels = 1000; is_value = false }

-- what a datum is at top level, where every `begin` stands for its forms
abbrev pub top_kind_in : State → Context → Place → Option datum.Trees → Kind
top_kind_in st c p None = Expression
top_kind_in st c p (Some datum.none) = Expression
top_kind_in st c p (Some (datum.more h ds)) = kind_by p ds true (head st c h)

unfoldable pub top_kind : State → Context → datum.Tree → Kind
top_kind st c d = top_kind_in st c (place_of d) (elements_of d)

mutual
  -- the nodes that a form at top level stands for. What it defines is the global of the name's text, which is no
  -- form's name and not integrated
  pub data MeansForm : State → Context → datum.Tree → Nodes → State → Type 0 where
    an_expression : {st st' : State} {c : Context} {d : datum.Tree} {e : Node} →
        top_kind st c d ≡ Expression → Means st c d e st' → MeansForm st c d (cons e nil) st'
    a_global : {st mid st' : State} {c : Context} {d : datum.Tree} {ds : datum.Trees} {p : Place} {i : Definition} {g : List ℕ} {e : Node} →
        top_kind st c d ≡ Defining p ds → definition_of p ds ≡ Some i → word_of c.library i.binder.name.text ≡ Plain g →
        opened p 1 0 st c ≡ Within mid → MeansDefined mid (inner c) i.value e st' →
        MeansForm st c d (cons (At p (DefGlobal g e)) nil) st'
    forms_of_begin : {st st' : State} {c : Context} {d : datum.Tree} {ds : datum.Trees} {p : Place} {es : Nodes} →
        top_kind st c d ≡ Beginning p ds → MeansForms st c ds es st' → MeansForm st c d es st'

  pub data MeansForms : State → Context → datum.Trees → Nodes → State → Type 0 where
    no_form : {st : State} {c : Context} → MeansForms st c datum.none nil st
    one_form : {st mid st' : State} {c : Context} {d : datum.Tree} {ds : datum.Trees} {es fs : Nodes} →
        MeansForm st c d es mid → MeansForms mid c ds fs st' → MeansForms st c (datum.more d ds) (joined es fs) st'

mutual
  pub data RefusesForm : State → Context → datum.Tree → Refusal → Type 0 where
    in_expression : {st : State} {c : Context} {d : datum.Tree} {r : Refusal} →
        top_kind st c d ≡ Expression → Refuses st c d r → RefusesForm st c d r
    no_global : {st : State} {c : Context} {d : datum.Tree} {ds : datum.Trees} {p : Place} →
        top_kind st c d ≡ Defining p ds → definition_of p ds ≡ None → RefusesForm st c d (BadForm p)
    no_plain_name : {st : State} {c : Context} {d : datum.Tree} {ds : datum.Trees} {p : Place} {i : Definition} →
        top_kind st c d ≡ Defining p ds → definition_of p ds ≡ Some i →
        ((g : List ℕ) → word_of c.library i.binder.name.text ≢ Plain g) → RefusesForm st c d (Integrated i.binder.place)
    no_room : {st : State} {c : Context} {d : datum.Tree} {ds : datum.Trees} {p : Place} {i : Definition} {g : List ℕ} {r : Refusal} →
        top_kind st c d ≡ Defining p ds → definition_of p ds ≡ Some i → word_of c.library i.binder.name.text ≡ Plain g →
        opened p 1 0 st c ≡ Past r → RefusesForm st c d r
    in_global : {st mid : State} {c : Context} {d : datum.Tree} {ds : datum.Trees} {p : Place} {i : Definition} {g : List ℕ} {r : Refusal} →
        top_kind st c d ≡ Defining p ds → definition_of p ds ≡ Some i → word_of c.library i.binder.name.text ≡ Plain g →
        opened p 1 0 st c ≡ Within mid → RefusesDefined mid (inner c) i.value r → RefusesForm st c d r
    in_forms : {st : State} {c : Context} {d : datum.Tree} {ds : datum.Trees} {p : Place} {r : Refusal} →
        top_kind st c d ≡ Beginning p ds → RefusesForms st c ds r → RefusesForm st c d r

  pub data RefusesForms : State → Context → datum.Trees → Refusal → Type 0 where
    in_form : {st : State} {c : Context} {d : datum.Tree} {ds : datum.Trees} {r : Refusal} →
        RefusesForm st c d r → RefusesForms st c (datum.more d ds) r
    in_later_form : {st mid : State} {c : Context} {d : datum.Tree} {ds : datum.Trees} {es : Nodes} {r : Refusal} →
        MeansForm st c d es mid → RefusesForms mid c ds r → RefusesForms st c (datum.more d ds) r

-- a whole text means these nodes: each form has its meaning, and no name outside the text is used
pub data MeansText : Bool → datum.Trees → Nodes → Type 0 where
  a_text : {library : Bool} {ds : datum.Trees} {es : Nodes} {st : State} →
      MeansForms no_state (top_context library) ds es st → first_outside_of (defined_by_all es) es ≡ None → MeansText library ds es

-- the first refusal of a whole text: names outside it are looked for when its forms are expanded
pub data RefusesText : Bool → datum.Trees → Refusal → Type 0 where
  in_text : {library : Bool} {ds : datum.Trees} {r : Refusal} → RefusesForms no_state (top_context library) ds r → RefusesText library ds r
  outside_text : {library : Bool} {ds : datum.Trees} {es : Nodes} {st : State} {p : Place} →
      MeansForms no_state (top_context library) ds es st → first_outside_of (defined_by_all es) es ≡ Some p → RefusesText library ds (NotBuilt p)
