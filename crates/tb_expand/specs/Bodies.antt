-- The definitions at the head of a body: each binds its name in a scope of its own, inside that of the one before.
use Rattle.std.specs.Prelude.{◌≡◌, ◌≢◌, ℕ, Bool, true, false, List, [], ◌∷◌, ◌++◌, Option, Some, None}
use Rattle.tb_prim.specs.declared.place.Place.{Place}
use Rattle.tb_sexp.specs.Tree as datum
use Rattle.tb_expand.specs.Names.{Binder}
use Rattle.tb_expand.specs.Trees.{Var}
use Rattle.tb_expand.specs.declared.form.Form.TheVariants as word
use Rattle.tb_expand.specs.Refusals.{Refusal, BadForm}
use Rattle.tb_expand.specs.declared.context.Context.{Context}
use Rattle.tb_expand.specs.Scopes.{State, fresh, enter}
use Rattle.tb_expand.specs.Limits.{within}
use Rattle.tb_expand.specs.Shapes.{elements_of, Defined, Definition, definition_of}
use Rattle.tb_expand.specs.Expressions.{Head, Operator, Keyword, Primitively, head, place_of}

-- what an item of a body or of a text is
pub data Kind : Type 0 where
  Expression : Kind
  Defining : Place → datum.Trees → Kind
  Beginning : Place → datum.Trees → Kind

-- whether an item defines: a `define`, or a `begin` that is empty or whose first item defines
abbrev pub defines_by : Head → Bool → Bool
defines_by Operator b = false
defines_by (Primitively q) b = false
defines_by (Keyword word.Defining) b = true
defines_by (Keyword word.Beginning) b = b
defines_by (Keyword f) b = false

abbrev mutual
  pub defines : State → Context → datum.Tree → Bool
  defines st c (datum.At p datum.Nil) = false
  defines st c (datum.At p (datum.Truth b)) = false
  defines st c (datum.At p (datum.Fixnum n)) = false
  defines st c (datum.At p (datum.Character n)) = false
  defines st c (datum.At p (datum.String s)) = false
  defines st c (datum.At p (datum.Name s alias)) = false
  defines st c (datum.At p (datum.Proper ds)) = defines_in st c ds
  defines st c (datum.At p (datum.Dotted ds d)) = false
  defines st c (datum.At p (datum.Vector ds)) = false

  pub defines_in : State → Context → datum.Trees → Bool
  defines_in st c datum.none = false
  defines_in st c (datum.more h ds) = defines_by (head st c h) (begins st c ds)

  pub begins : State → Context → datum.Trees → Bool
  begins st c datum.none = true
  begins st c (datum.more d ds) = defines st c d

abbrev pub kind_by : Place → datum.Trees → Bool → Head → Kind
kind_by p ds b Operator = Expression
kind_by p ds b (Primitively q) = Expression
kind_by p ds b (Keyword word.Defining) = Defining p ds
kind_by p ds true (Keyword word.Beginning) = Beginning p ds
kind_by p ds false (Keyword word.Beginning) = Expression
kind_by p ds b (Keyword f) = Expression

abbrev pub kind_in : State → Context → Place → Option datum.Trees → Kind
kind_in st c p None = Expression
kind_in st c p (Some datum.none) = Expression
kind_in st c p (Some (datum.more h ds)) = kind_by p ds (begins st c ds) (head st c h)

-- what an item of a body is in a scope, by the elements of a list
unfoldable pub kind : State → Context → datum.Tree → Kind
kind st c d = kind_in st c (place_of d) (elements_of d)

-- what was found: the variables that are defined, with the names as they stand there, what they are defined as, and
-- the expressions behind the definitions, with the scope of all of these
pub record Found : Type 0 where
  pub variables : List Var
  pub binders : List Binder
  pub values : List Defined
  pub scope : ℕ
  pub rest : datum.Trees

abbrev pub nothing_more : ℕ → datum.Trees → Found
nothing_more s ds = record { variables = []; binders = []; values = []; scope = s; rest = ds }

abbrev pub and_one : ℕ → Definition → Found → Found
and_one t e f = record {
  variables = record { scope = t; name = e.binder.name } ∷ f.variables;
  binders = e.binder ∷ f.binders;
  values = e.value ∷ f.values;
  scope = f.scope;
  rest = f.rest;
}

-- the definitions of a `begin`, and what follows them
abbrev pub and_then : Found → Found → Found
and_then e f = record {
  variables = e.variables ++ f.variables;
  binders = e.binders ++ f.binders;
  values = e.values ++ f.values;
  scope = f.scope;
  rest = f.rest;
}

-- the names defined so far are bound while the definitions behind them are scanned
abbrev pub defined_in : State → Context → Definition → State
defined_in st c e = enter st c.scope (e.binder.name ∷ [])

-- the items of a body from its front: the definitions, up to the first expression
pub data Scans : State → Context → datum.Trees → Found → State → Type 0 where
  scanned : {st : State} {c : Context} → Scans st c datum.none (nothing_more c.scope datum.none) st
  expressions : {st : State} {c : Context} {d : datum.Tree} {ds : datum.Trees} →
      kind st c d ≡ Expression → Scans st c (datum.more d ds) (nothing_more c.scope (datum.more d ds)) st
  a_definition : {st st' : State} {c : Context} {d : datum.Tree} {ds es : datum.Trees} {p : Place} {e : Definition} {f : Found} →
      kind st c d ≡ Defining p es → definition_of p es ≡ Some e → Scans (defined_in st c e) (within (fresh st) c) ds f st' →
      Scans st c (datum.more d ds) (and_one (fresh st) e f) st'
  a_begin : {st mid st' : State} {c : Context} {d : datum.Tree} {ds es : datum.Trees} {p : Place} {e f : Found} →
      kind st c d ≡ Beginning p es → Scans st c es e mid → e.rest ≡ datum.none → Scans mid (within e.scope c) ds f st' →
      Scans st c (datum.more d ds) (and_then e f) st'

pub data ScanRefuses : State → Context → datum.Trees → Refusal → Type 0 where
  no_definition : {st : State} {c : Context} {d : datum.Tree} {ds es : datum.Trees} {p : Place} →
      kind st c d ≡ Defining p es → definition_of p es ≡ None → ScanRefuses st c (datum.more d ds) (BadForm p)
  behind_definition : {st : State} {c : Context} {d : datum.Tree} {ds es : datum.Trees} {p : Place} {e : Definition} {r : Refusal} →
      kind st c d ≡ Defining p es → definition_of p es ≡ Some e → ScanRefuses (defined_in st c e) (within (fresh st) c) ds r →
      ScanRefuses st c (datum.more d ds) r
  in_begin : {st : State} {c : Context} {d : datum.Tree} {ds es : datum.Trees} {p : Place} {r : Refusal} →
      kind st c d ≡ Beginning p es → ScanRefuses st c es r → ScanRefuses st c (datum.more d ds) r
  expression_in_begin : {st mid : State} {c : Context} {d : datum.Tree} {ds es : datum.Trees} {p : Place} {e : Found} →
      kind st c d ≡ Beginning p es → Scans st c es e mid → e.rest ≢ datum.none → ScanRefuses st c (datum.more d ds) (BadForm p)
  behind_begin : {st mid : State} {c : Context} {d : datum.Tree} {ds es : datum.Trees} {p : Place} {e : Found} {r : Refusal} →
      kind st c d ≡ Beginning p es → Scans st c es e mid → e.rest ≡ datum.none → ScanRefuses mid (within e.scope c) ds r →
      ScanRefuses st c (datum.more d ds) r
