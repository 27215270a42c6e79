-- What forms at top level give, behind those before them.
use Rattle.std.specs.Prelude.{◌≡◌, ℕ, List}
use Rattle.tb_prim.specs.declared.place.Place.{Place}
use Rattle.tb_sexp.specs.Tree as datum
use Rattle.tb_expand.specs.declared.context.Context.{Context}
use Rattle.tb_expand.specs.Trees.{Node, At, DefGlobal, Nodes, joined}
use Rattle.tb_expand.specs.Refusals.{Refusal}
use Rattle.tb_expand.specs.Scopes.{State}
use Rattle.tb_expand.specs.Limits.{Within, Past, opened, inner}
use Rattle.tb_expand.specs.Shapes.{Defined}
use Rattle.tb_expand.specs.Means.{MeansDefined, RefusesDefined}
use Rattle.tb_expand.specs.Bodies.{Defining}
use Rattle.tb_expand.specs.Texts.{top_kind, MeansForm, MeansForms, RefusesForm, RefusesForms}

pub record FormGives (st : State) (c : Context) (d : datum.Tree) (st' : State) (before after : Nodes) : Type 0 where
  pub found : Nodes
  pub means : MeansForm st c d found st'
  pub added : after ≡ joined before found

pub record FormsGive (st : State) (c : Context) (ds : datum.Trees) (st' : State) (before after : Nodes) : Type 0 where
  pub found : Nodes
  pub means : MeansForms st c ds found st'
  pub added : after ≡ joined before found

-- what comes of the forms behind some is what comes of all
pub record FormsGo (st0 : State) (c : Context) (ds0 : datum.Trees) (before : Nodes) (st : State) (ds : datum.Trees) (after : Nodes) : Type 0 where
  pub gives : (es : Nodes) (st' : State) → MeansForms st c ds es st' → FormsGive st0 c ds0 st' before (joined after es)
  pub refuses : (r : Refusal) → RefusesForms st c ds r → RefusesForms st0 c ds0 r

-- the definition of a global as a value
pub record GlobalGives (st : State) (c : Context) (p : Place) (g : List ℕ) (v : Defined) (e : Node) (st' : State) : Type 0 where
  pub mid : State
  pub value : Node
  pub limited : opened p 1 0 st c ≡ Within mid
  pub means : MeansDefined mid (inner c) v value st'
  pub node : e ≡ At p (DefGlobal g value)

pub data GlobalRefuses (st : State) (c : Context) (p : Place) (v : Defined) (r : Refusal) : Type 0 where
  not_opened : opened p 1 0 st c ≡ Past r → GlobalRefuses st c p v r
  in_defined : (mid : State) → opened p 1 0 st c ≡ Within mid → RefusesDefined mid (inner c) v r → GlobalRefuses st c p v r

-- a definition at top level, of what stands behind `define`
pub record DefinitionGives (st : State) (c : Context) (p : Place) (ds : datum.Trees) (st' : State) (before after : Nodes) : Type 0 where
  pub gives : (d : datum.Tree) → top_kind st c d ≡ Defining p ds → FormGives st c d st' before after

pub record DefinitionRefuses (st : State) (c : Context) (p : Place) (ds : datum.Trees) (r : Refusal) : Type 0 where
  pub refuses : (d : datum.Tree) → top_kind st c d ≡ Defining p ds → RefusesForm st c d r
