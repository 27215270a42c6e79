-- What a scan has found so far, and what it gives.
use Rattle.std.specs.Prelude.{◌≡◌, ◌≢◌, ℕ, List, [], ◌∷◌, ◌++◌}
use Rattle.tb_prim.specs.declared.place.Place.{Place}
use Rattle.tb_sexp.specs.Tree as datum
use Rattle.tb_expand.specs.declared.context.Context.{Context}
use Rattle.tb_expand.specs.Names.{Binder}
use Rattle.tb_expand.specs.Trees.{Var}
use Rattle.tb_expand.specs.Limits.{within}
use Rattle.tb_expand.specs.Refusals.{Refusal, BadForm}
use Rattle.tb_expand.specs.Scopes.{State}
use Rattle.tb_expand.specs.Shapes.{Defined, Definition}
use Rattle.tb_expand.specs.Bodies.{Found, Scans, ScanRefuses, Expression, kind}

-- definitions found one after another
pub record Lists : Type 0 where
  pub variables : List Var
  pub binders : List Binder
  pub values : List Defined

abbrev pub with_found : Lists → Found → Lists
with_found l f = record { variables = l.variables ++ f.variables; binders = l.binders ++ f.binders; values = l.values ++ f.values }

abbrev pub with_one : ℕ → Definition → Lists → Lists
with_one t e l = record {
  variables = l.variables ++ (record { scope = t; name = e.binder.name } ∷ []);
  binders = l.binders ++ (e.binder ∷ []);
  values = l.values ++ (e.value ∷ []);
}

-- a scan that ends in this scope with these items left, and adds what it finds
pub record ScanGives (st : State) (c : Context) (ds : datum.Trees) (l : Lists) (st' : State) (scope : ℕ) (rest : datum.Trees) (l' : Lists) : Type 0 where
  pub found : Found
  pub scans : Scans st c ds found st'
  pub scope_is : found.scope ≡ scope
  pub rest_is : found.rest ≡ rest
  pub lists : l' ≡ with_found l found

-- what comes of the items behind some is what comes of all
pub record Goes (st0 : State) (c0 : Context) (ds0 : datum.Trees) (l0 : Lists) (st : State) (c : Context) (ds : datum.Trees) (l : Lists) : Type 0 where
  pub gives : (f : Found) (st' : State) → Scans st c ds f st' → ScanGives st0 c0 ds0 l0 st' f.scope f.rest (with_found l f)
  pub refuses : (r : Refusal) → ScanRefuses st c ds r → ScanRefuses st0 c0 ds0 r

-- an item that is an expression, where nothing changes
pub record Stands (st : State) (c : Context) (d : datum.Tree) (l : Lists) (st' : State) (l' : Lists) : Type 0 where
  pub kind_is : kind st c d ≡ Expression
  pub state_is : st' ≡ st
  pub lists_are : l' ≡ l

-- an item that defines: what comes of the items behind it is what comes of it and them
pub record Passes (st : State) (c : Context) (d : datum.Tree) (l : Lists) (s : ℕ) (st' : State) (l' : Lists) : Type 0 where
  pub passes : (st0 : State) (c0 : Context) (ds0 : datum.Trees) (l0 : Lists) (ds : datum.Trees) →
      Goes st0 c0 ds0 l0 st c (datum.more d ds) l → Goes st0 c0 ds0 l0 st' (within s c) ds l'

-- an item that is refused, whatever stands behind it
pub record ItemRefuses (st : State) (c : Context) (d : datum.Tree) (r : Refusal) : Type 0 where
  pub refuses : (ds : datum.Trees) → ScanRefuses st c (datum.more d ds) r

-- a `begin` at this place whose items are refused, or do not all define
pub data BeginRefuses (st : State) (c : Context) (p : Place) (es : datum.Trees) (r : Refusal) : Type 0 where
  within_begin : ScanRefuses st c es r → BeginRefuses st c p es r
  not_all_define : (e : Found) (mid : State) → r ≡ BadForm p → Scans st c es e mid → e.rest ≢ datum.none → BeginRefuses st c p es r
