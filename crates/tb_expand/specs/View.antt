-- The nodes that the types of trees are seen as.
use Rattle.std.specs.Prelude.{◌≡◌, ℕ, Bool, true, false, List, [], ◌∷◌, map, reverse, Option, Some, None, Result, Ok, Err}
use Rattle.std.specs.Borrow.{Bor}
use Rattle.tb_sexp.specs.View as data_view
use Rattle.tb_expand.specs.declared.name.Name.{Name as NameCode}
use Rattle.tb_expand.specs.declared.name.Variable.{Variable as VariableCode}
use Rattle.tb_expand.specs.declared.tree.Core.{Core as CoreCode}
use Rattle.tb_expand.specs.declared.tree.Core.TheOpen.{Core-F, Node-F}
use Rattle.tb_expand.specs.declared.tree.Core.TheFolds.{fold-Core, fold-Node}
use Rattle.tb_expand.specs.declared.tree.Node.{Node as NodeCode}
use Rattle.tb_expand.specs.declared.state.Scope.{Scope as ScopeCode}
use Rattle.tb_expand.specs.declared.state.State.{State as StateCode}
use Rattle.tb_expand.specs.declared.state.Meaning.{Meaning as MeaningCode}
use Rattle.tb_expand.specs.declared.state.Meaning.TheVariants as means
use Rattle.tb_sexp.specs.declared.datum.Datum.{Datum}
use Rattle.tb_sexp.specs.Tree as datum
use Rattle.tb_expand.specs.declared.shapes.Binder.{Binder as BinderCode}
use Rattle.tb_expand.specs.declared.shapes.Formals.{Formals as FormalsCode}
use Rattle.tb_expand.specs.declared.shapes.Pair.{Pair as PairCode}
use Rattle.tb_expand.specs.declared.definition.Target.{Target as TargetCode}
use Rattle.tb_expand.specs.declared.definition.Defined.{Defined as DefinedCode}
use Rattle.tb_expand.specs.declared.definition.Defined.TheVariants as defined
use Rattle.tb_expand.specs.declared.definition.Definition.{Definition as DefinitionCode}
use Rattle.tb_prim.specs.declared.place.Place.{Place}
use Rattle.tb_expand.specs.declared.context.Context.{Context}
use Rattle.tb_expand.specs.declared.scan.Found.{Found as FoundCode}
use Rattle.tb_expand.specs.calls.Scanned.{Lists, with_one}
use Rattle.tb_expand.specs.declared.splitting.Bindings.{Bindings as BindingsCode}
use Rattle.tb_expand.specs.Splits.{Bindings}
use Rattle.tb_expand.specs.declared.definition.Kind.{Kind as KindCode}
use Rattle.tb_expand.specs.declared.definition.Kind.TheVariants as kind
use Rattle.tb_expand.specs.Bodies as body
use Rattle.tb_expand.specs.Bodies.{Kind, defined_in}
use Rattle.tb_expand.specs.Shapes.{Formals, Pair, Pairs, Target, Defined, Value, Procedure, Definition, definition_of}
use Rattle.tb_expand.specs.declared.expression.Build.{Build as BuildCode}
use Rattle.tb_expand.specs.declared.expression.Build.TheVariants as build
use Rattle.tb_expand.specs.declared.expression.Expression.{Expression as ExpressionCode}
use Rattle.tb_expand.specs.declared.expression.Expression.TheVariants as expr
use Rattle.tb_expand.specs.declared.expression.Head.{Head as HeadCode}
use Rattle.tb_expand.specs.declared.expression.Head.TheVariants as head
use Rattle.tb_expand.specs.Limits.{Limited, Within, Past, has_room}
use Rattle.tb_expand.specs.Expressions.{Head, Operator, Keyword, Primitively}
use Rattle.tb_expand.specs.declared.refusal.ExpandRefusal.{ExpandRefusal}
use Rattle.tb_expand.specs.declared.refusal.ExpandRefusal.TheVariants as refused
use Rattle.tb_expand.specs.Refusals.{Refusal, BadForm, Duplicate, Budget, TooDeep, NotBuilt}
use Rattle.tb_expand.specs.Refusals as refusal
use Rattle.tb_expand.specs.Expressions.{Build, Choosing, ChoosingOne, AssigningLocal, AssigningGlobal, Using, ApplyingTo, Calling, Expression, Wrong, Constantly, Naming, Operands, Sequence, Procedural, Binding, Recursion}
use Rattle.tb_expand.specs.declared.shapes.Counted.{Counted}
use Rattle.tb_expand.specs.declared.shapes.Counted.TheVariants as behind
use Rattle.tb_expand.specs.Names.{Name, Binder}
use Rattle.tb_expand.specs.Scopes.{Scope, State, fresh}
use Rattle.tb_expand.specs.Words.{Meaning, Variable, Special, Integrated, Plain}
use Rattle.tb_expand.specs.Trees.{Var, Node, At, Core, Constant, Unspecified, Undefined, Local, Global, Lambda, If, SetLocal, SetGlobal, DefGlobal, Let, Letrec, Seq, Call, PrimUse, Apply, Nodes, nil, cons}

-- a list of nodes as data of its own
abbrev pub nodes : List Node → Nodes
nodes [] = nil
nodes (e ∷ es) = cons e (nodes es)

abbrev pub view_name : NameCode → Name
view_name x = record { text = x.text.now; alias = x.alias }

abbrev pub view_variable : VariableCode → Var
view_variable x = record { scope = x.scope; name = view_name x.name }

abbrev pub view_option : Option VariableCode → Option Var
view_option None = None
view_option (Some x) = Some (view_variable x)

-- a scope, and scopes with the newest first
abbrev pub view_scope : ScopeCode → Scope
view_scope e = record { around = e.around; names = map view_name e.names.items }

abbrev pub older : List ScopeCode → List Scope
older es = reverse (map view_scope es)

abbrev pub text_of : Bor (List ℕ) → List ℕ
text_of s = s.now

abbrev pub view_state : StateCode → State
view_state st = record {
  scopes = older st.scopes.items;
  nodes = st.nodes;
  variables = st.variables;
  objects = st.objects;
  words = st.words;
  symbols = map text_of st.symbols.items;
}

abbrev pub view_meaning : MeaningCode → Meaning
view_meaning (means.Variable x) = Variable (view_variable x)
view_meaning (means.Special f) = Special f
view_meaning (means.Integrated q) = Integrated q
view_meaning (means.Plain g) = Plain g.now

abbrev pub view_in : Core-F Core Node → Core
view_in (Core-F.Constant d) = Constant (data_view.view_node d.now)
view_in Core-F.Unspecified = Unspecified
view_in Core-F.Undefined = Undefined
view_in (Core-F.Local x) = Local (view_variable x)
view_in (Core-F.Global g) = Global g.now
view_in (Core-F.Lambda xs r b) = Lambda (map view_variable xs) (view_option r) b
view_in (Core-F.If a b c) = If a b c
view_in (Core-F.SetLocal x e) = SetLocal (view_variable x) e
view_in (Core-F.SetGlobal p g e) = SetGlobal p g.now e
view_in (Core-F.DefGlobal g e) = DefGlobal g.now e
view_in (Core-F.Let xs es e) = Let (map view_variable xs) (nodes es) e
view_in (Core-F.Letrec xs es e) = Letrec (map view_variable xs) (nodes es) e
view_in (Core-F.Seq es) = Seq (nodes es)
view_in (Core-F.Call f es) = Call f (nodes es)
view_in (Core-F.Prim q es) = PrimUse q (nodes es)
view_in (Core-F.Apply f l) = Apply f l

abbrev pub view_at : Node-F Core Node → Node
view_at e = At e.place e.core

-- a tree as a node
abbrev pub view : NodeCode → Node
view = fold-Node Core Node view_in view_at

abbrev pub view_core : CoreCode → Core
view_core = fold-Core Core Node view_in view_at

-- a row of data as data of its own
abbrev pub data_of : List Datum → datum.Trees
data_of ds = data_view.trees (map data_view.view ds)

abbrev pub view_binder : BinderCode → Binder
view_binder b = record { place = b.place; name = view_name b.name }

-- data by their number
abbrev pub IsBehind : datum.Trees → Counted → Type 0
IsBehind ds behind.Nothing = ds ≡ datum.none
IsBehind ds (behind.One a) = ds ≡ datum.more (data_view.view a.now) datum.none
IsBehind ds (behind.Two a b) = ds ≡ datum.more (data_view.view a.now) (datum.more (data_view.view b.now) datum.none)
IsBehind ds (behind.Three a b c) =
    ds ≡ datum.more (data_view.view a.now) (datum.more (data_view.view b.now) (datum.more (data_view.view c.now) datum.none))
IsBehind ds behind.More =
    (a b c d : datum.Tree) × (es : datum.Trees) × (ds ≡ datum.more a (datum.more b (datum.more c (datum.more d es))))

abbrev pub view_rest : Option BinderCode → Option Binder
view_rest None = None
view_rest (Some b) = Some (view_binder b)

abbrev pub view_formals : FormalsCode → Formals
view_formals f = record { fixed = map view_binder f.fixed.items; rest = view_rest f.rest }

abbrev pub view_pair : PairCode → Pair
view_pair b = record { binder = view_binder b.binder; value = data_view.view b.value.now }

abbrev pub pair_binder : PairCode → Binder
pair_binder b = view_binder b.binder

abbrev pub pair_value : PairCode → datum.Tree
pair_value b = data_view.view b.value.now

abbrev pub view_pairs : List PairCode → Pairs
view_pairs bs = record { binders = map pair_binder bs; values = data_view.trees (map pair_value bs) }

abbrev pub view_build : BuildCode → Build
view_build build.Choosing = Choosing
view_build build.ChoosingOne = ChoosingOne
view_build (build.AssigningLocal x) = AssigningLocal (view_variable x)
view_build (build.AssigningGlobal p g) = AssigningGlobal p g.now
view_build (build.Using q) = Using q
view_build build.ApplyingTo = ApplyingTo
view_build build.Calling = Calling

abbrev pub view_expression : ExpressionCode → Expression
view_expression (expr.Constant s) = Constantly (data_view.view_node s.now)
view_expression (expr.Local x) = Naming (Local (view_variable x))
view_expression (expr.Global g) = Naming (Global g.now)
view_expression (expr.Operands k ds) = Operands (view_build k) (data_of ds.now)
view_expression (expr.Assignment k d) = Operands (view_build k) (datum.more (data_view.view d.now) datum.none)
view_expression (expr.Sequence ds) = Sequence (data_of ds.now)
view_expression (expr.Procedure f b) = Procedural (view_formals f) (data_of b.now)
view_expression (expr.Binding ps b) = Binding (view_pairs ps.items) (data_of b.now)
view_expression (expr.Recursion ps b) = Recursion (view_pairs ps.items) (data_of b.now)

-- a refusal of this kind, or want of memory, of which nothing is said
abbrev pub Fails : (Refusal → Type 0) → ExpandRefusal → Type 0
Fails P (refused.BadForm p) = P (BadForm p)
Fails P (refused.NoMatch p) = ⊥
Fails P (refused.BadRules p) = ⊥
Fails P (refused.Integrated p) = P (refusal.Integrated p)
Fails P (refused.Duplicate p) = P (Duplicate p)
Fails P (refused.Budget p) = P (Budget p)
Fails P (refused.TooDeep p) = P (TooDeep p)
Fails P (refused.NotInProfile p) = ⊥
Fails P (refused.NotBuilt p) = P (NotBuilt p)
Fails P refused.NoMemory = Unit {0}

-- what was read is this expression, or it is wrong in this way
abbrev pub IsRead : Expression → Result ExpressionCode ExpandRefusal → Type 0
IsRead x (Ok e) = x ≡ view_expression e
IsRead x (Err r) = Fails (λ q. x ≡ Wrong q) r

-- a first datum, and one at least after it
abbrev pub NoBody : datum.Trees → Type 0
NoBody datum.none = Unit {0}
NoBody (datum.more a datum.none) = Unit {0}
NoBody (datum.more a (datum.more b ds)) = ⊥

pub record HasBody (ds : datum.Trees) (a : datum.Tree) (b : datum.Trees) : Type 0 where
  pub first : datum.Tree
  pub rest : datum.Trees
  pub body : b ≡ datum.more first rest
  pub whole : ds ≡ datum.more a (datum.more first rest)

abbrev pub view_head : HeadCode → Head
view_head head.Operator = Operator
view_head (head.Keyword f) = Keyword f
view_head (head.Primitively q) = Primitively q

-- a state within the limits, or what is past them
abbrev pub IsLimited : {X : Type 0} → Limited → Result X ExpandRefusal → State → Type 0
IsLimited l (Ok u) st = l ≡ Within st
IsLimited l (Err r) st = Fails (λ q. l ≡ Past q) r

-- a state as it was wanted, or one that has no room
abbrev pub IsCounted : Bool → State → State → Type 0
IsCounted true wanted st = st ≡ wanted
IsCounted false wanted st = has_room wanted ≡ false

abbrev pub view_target : TargetCode → Target
view_target t = record { binder = view_binder t.binder; formals = view_formals t.formals }

abbrev pub view_defined : DefinedCode → Defined
view_defined (defined.Value d) = Value (data_view.view d.now)
view_defined (defined.Procedure p f b) = Procedure p (view_formals f) (data_of b.now)

abbrev pub view_definition : DefinitionCode → Definition
view_definition i = record { binder = view_binder i.binder; value = view_defined i.value }

abbrev pub view_kind : KindCode → Kind
view_kind kind.Expression = body.Expression
view_kind (kind.Defining p ds) = body.Defining p (data_of ds.now)
view_kind (kind.Beginning p ds) = body.Beginning p (data_of ds.now)

abbrev pub view_lists : FoundCode → Lists
view_lists f = record {
  variables = map view_variable f.variables.items;
  binders = map view_binder f.binders.items;
  values = map view_defined f.values.items;
}

-- a definition that was found
pub record Defines (st : State) (c : Context) (p : Place) (es : datum.Trees) (l : Lists) (s : ℕ) (st' : State) (l' : Lists) : Type 0 where
  pub definition : Definition
  pub parts : definition_of p es ≡ Some definition
  pub scope_is : s ≡ fresh st
  pub entered : st' ≡ defined_in st c definition
  pub lists : l' ≡ with_one (fresh st) definition l

-- the refusal of what is no definition
pub record NoDefinition (p : Place) (es : datum.Trees) (r : Refusal) : Type 0 where
  pub parts : definition_of p es ≡ None
  pub refusal_is : r ≡ BadForm p

-- what was found, in this scope, with these items left
abbrev pub view_found : FoundCode → ℕ → datum.Trees → body.Found
view_found f s ds = record {
  variables = map view_variable f.variables.items;
  binders = map view_binder f.binders.items;
  values = map view_defined f.values.items;
  scope = s;
  rest = ds;
}

-- the name of a binder, and its variable in a scope
abbrev pub binder_name : BinderCode → Name
binder_name b = view_name b.name

abbrev pub binder_variable : ℕ → BinderCode → Var
binder_variable s b = record { scope = s; name = view_name b.name }

abbrev pub view_bindings : BindingsCode → Bindings
view_bindings b = record { variables = map view_variable b.variables.items; values = nodes (map view b.values.items) }
