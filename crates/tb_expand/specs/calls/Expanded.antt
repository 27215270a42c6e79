-- What comes of the parts of a form, whatever datum it is read from.
use Rattle.std.specs.Prelude.{◌≡◌, ◌≢◌, ℕ, ◌≤◌, List, [], ◌∷◌, length, Some, None}
use Rattle.tb_prim.specs.declared.place.Place.{Place}
use Rattle.tb_sexp.specs.Tree as datum
use Rattle.tb_expand.specs.declared.context.Context.{Context}
use Rattle.tb_expand.specs.Names.{Binder, bound_twice}
use Rattle.tb_expand.specs.Trees.{Node, Nodes, joined}
use Rattle.tb_expand.specs.Splits.{Split, node_of}
use Rattle.tb_expand.specs.Refusals.{Refusal, BadForm, Duplicate}
use Rattle.tb_expand.specs.Scopes.{State}
use Rattle.tb_expand.specs.Limits.{Within, Past, how_many_data}
use Rattle.tb_expand.specs.Shapes.{Defined, Value}
use Rattle.tb_expand.specs.Expressions.{Expression, Wrong, Constantly, Naming, Operands, Sequence, Procedural, Binding, Recursion, Build, Choosing, ChoosingOne, AssigningLocal, AssigningGlobal, Using, ApplyingTo, Calling, expression}
use Rattle.tb_expand.specs.Bodies.{Found, Scans}
use Rattle.tb_expand.specs.Means.{Means, MeansAll, MeansEach, MeansBody, Refuses, RefusesAll, RefusesEach, RefusesBody, bound_together, finished}

-- a datum at this place that is this expression means this node
pub record Gives (st : State) (c : Context) (p : Place) (x : Expression) (e : Node) (st' : State) : Type 0 where
  pub means : (s : datum.Shape) → expression st c (datum.At p s) ≡ x → Means st c (datum.At p s) e st'

-- it is refused
pub record Denies (st : State) (c : Context) (p : Place) (x : Expression) (r : Refusal) : Type 0 where
  pub refuses : (s : datum.Shape) → expression st c (datum.At p s) ≡ x → Refuses st c (datum.At p s) r

-- a body in which this was found means this node, or is refused
pub record BodyGives (st : State) (c : Context) (p : Place) (f : Found) (e : Node) (st' : State) : Type 0 where
  pub means : (st0 : State) (ds : datum.Trees) → Scans st0 c ds f st → MeansBody st0 c p ds e st'

pub record BodyDenies (st : State) (c : Context) (p : Place) (f : Found) (r : Refusal) : Type 0 where
  pub refuses : (st0 : State) (ds : datum.Trees) → Scans st0 c ds f st → RefusesBody st0 c p ds r

-- a split that is made within the limits
pub record Finishes (p : Place) (s : Split) (c : Context) (st : State) (e : Node) (st' : State) : Type 0 where
  pub limited : finished p s c st ≡ Within st'
  pub node : e ≡ node_of p s

-- as many operands as a node has
abbrev pub Suits : Build → ℕ → Type 0
Suits Choosing n = n ≡ 3
Suits ChoosingOne n = n ≡ 2
Suits (AssigningLocal x) n = n ≡ 1
Suits (AssigningGlobal p g) n = n ≡ 1
Suits (Using q) n = Unit {0}
Suits ApplyingTo n = n ≡ 2
Suits Calling n = 1 ≤ n

-- the same of an expression
abbrev pub IsSuited : Expression → Type 0
IsSuited (Wrong r) = Unit {0}
IsSuited (Constantly s) = Unit {0}
IsSuited (Naming e) = Unit {0}
IsSuited (Operands k ds) = Suits k (how_many_data ds)
IsSuited (Sequence ds) = Unit {0}
IsSuited (Procedural f b) = Unit {0}
IsSuited (Binding ps b) = Unit {0}
IsSuited (Recursion ps b) = Unit {0}

-- what comes of the data behind some is what comes of all
pub record AllGoes (st0 : State) (c : Context) (ds0 : datum.Trees) (done : Nodes) (st : State) (ds : datum.Trees) : Type 0 where
  pub gives : (es : Nodes) (st' : State) → MeansAll st c ds es st' → MeansAll st0 c ds0 (joined done es) st'
  pub refuses : (r : Refusal) → RefusesAll st c ds r → RefusesAll st0 c ds0 r

pub record EachGoes (st0 : State) (c : Context) (vs0 : List Defined) (done : Nodes) (st : State) (vs : List Defined) : Type 0 where
  pub gives : (es : Nodes) (st' : State) → MeansEach st c vs es st' → MeansEach st0 c vs0 (joined done es) st'
  pub refuses : (r : Refusal) → RefusesEach st c vs r → RefusesEach st0 c vs0 r

-- data as what names are defined as
abbrev pub as_values : datum.Trees → List Defined
as_values datum.none = []
as_values (datum.more d ds) = Value d ∷ as_values ds

-- definitions that bind each name once, before an expression, and within the limits
pub record DefinitionsOpen (st : State) (c : Context) (p : Place) (bs : List Binder) (rest : datum.Trees) (st' : State) : Type 0 where
  pub once : bound_twice bs ≡ None
  pub behind : rest ≢ datum.none
  pub limited : bound_together p (length bs) st c ≡ Within st'

pub data DefinitionsDenied (st : State) (c : Context) (p : Place) (bs : List Binder) (rest : datum.Trees) (r : Refusal) : Type 0 where
  is_twice : (q : Place) → bound_twice bs ≡ Some q → r ≡ Duplicate q → DefinitionsDenied st c p bs rest r
  not_behind : bound_twice bs ≡ None → rest ≡ datum.none → r ≡ BadForm p → DefinitionsDenied st c p bs rest r
  not_limited : bound_twice bs ≡ None → rest ≢ datum.none → bound_together p (length bs) st c ≡ Past r → DefinitionsDenied st c p bs rest r
